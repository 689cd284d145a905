use Rattle.std.proofs.Common.{rules}
use Rattle.std.specs.BTreeMap.{IsFromIterResult}
use Rattle.std.proofs.lemmas.Iterator.Adapters.{fact_from_collect, YieldsList-from_vec}
use Rattle.std.proofs.lemmas.Result.{IfOk-weaker}
use Rattle.ssq_version.specs.State.{by_bytes}
use Rattle.ssq_version.proofs.LastSaid.{change_is_made, last_is}
use Rattle.ssq_version.proofs.change.made_of.Goals as goal

pub returns-clause-said : goal.returns-clause-said
returns-clause-said c =
    IfOk-weaker c.collect.result (IsFromIterResult by_bytes c.args.entries.items) _ (λ made is key. last_is c.args.entries.items made is key)
    (fact_from_collect (IsFromIterResult by_bytes) c.collect.result c.collect.ensures.ran (YieldsList-from_vec c.args.entries.items c.into_iter.ensures.rest (search rules)))

pub returns-clause-kept : goal.returns-clause-kept
returns-clause-kept c =
    IfOk-weaker c.collect.result (IsFromIterResult by_bytes c.args.entries.items) _ (λ made is. change_is_made c.args.entries.items made c.requires is)
    (fact_from_collect (IsFromIterResult by_bytes) c.collect.result c.collect.ensures.ran (YieldsList-from_vec c.args.entries.items c.into_iter.ensures.rest (search rules)))
