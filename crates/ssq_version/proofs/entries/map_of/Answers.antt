use Rattle.std.proofs.Common.{rules}
use Rattle.std.specs.BTreeMap.{IsFromIterResult}
use Rattle.std.proofs.lemmas.Iterator.Adapters.{fact_from_collect, YieldsList-from_vec}
use Rattle.std.proofs.lemmas.Result.{IfOk-weaker}
use Rattle.ssq_version.specs.State.{by_bytes}
use Rattle.ssq_version.proofs.Collected.{collected}
use Rattle.ssq_version.proofs.entries.map_of.Goals as goal

pub returns : goal.returns
returns g c ascend =
    IfOk-weaker c.collect.result (IsFromIterResult by_bytes c.args.entries.items) _ (λ map is. collected c.args.entries.items map ascend is)
    (fact_from_collect (IsFromIterResult by_bytes) c.collect.result c.collect.ensures.ran (YieldsList-from_vec c.args.entries.items c.into_iter.ensures.rest (search rules)))
