use Rattle.std.proofs.Common.{nat_eq, rules}
use Rattle.std.specs.Cmp.Lexicographic.{pointwise}
use Rattle.std.specs.HashMap.{IsFromIterResult}
use Rattle.std.proofs.lemmas.Iterator.Adapters.{fact_from_collect, YieldsList-from_vec}
use Rattle.std.proofs.lemmas.Result.{IfOk-weaker}
use Rattle.ssq_version.proofs.Tables.{table_made}
use Rattle.ssq_version.proofs.map.table_of.Goals as goal

pub returns : goal.returns
returns c ascend =
    IfOk-weaker c.collect.result (IsFromIterResult (pointwise nat_eq) c.args.entries.items) _ (λ table is. table_made c.args.entries.items table ascend is)
    (fact_from_collect (IsFromIterResult (pointwise nat_eq)) c.collect.result c.collect.ensures.ran (YieldsList-from_vec c.args.entries.items c.into_iter.ensures.rest (search rules)))
