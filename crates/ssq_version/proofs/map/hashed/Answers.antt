use Rattle.std.proofs.Common.{nat_eq}
use Rattle.std.specs.Cmp.Lexicographic.{pointwise}
use Rattle.std.specs.HashMap.{IsFromIterResult}
use Rattle.std.proofs.lemmas.Iterator.Adapters.{fact_from_collect}
use Rattle.std.proofs.lemmas.Iterator.Consumers.{YieldsList-from_rest}
use Rattle.std.proofs.lemmas.Result.{IfOk-weaker}
use Rattle.ssq_version.proofs.Tables.{table_made}
use Rattle.ssq_version.proofs.map.hashed.Goals as goal

pub returns : goal.returns
returns c =
    IfOk-weaker c.collect.result (IsFromIterResult (pointwise nat_eq) c.args.map.entries) _ (λ table is. table_made c.args.map.entries table c.into_iter.ensures.into_iter_gives.5 is)
    (fact_from_collect (IsFromIterResult (pointwise nat_eq)) c.collect.result c.collect.ensures.ran (YieldsList-from_rest c.args.map.entries c.into_iter.ensures.into_iter_gives.0))
