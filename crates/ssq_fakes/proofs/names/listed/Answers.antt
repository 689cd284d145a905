use Rattle.std.proofs.Common.{◌≡◌, sym, subst, rules}
use Rattle.std.specs.Prelude.{IfOk}
use Rattle.std.proofs.lemmas.Result.{IfOk-weaker}
use Rattle.ssq_fakes.specs.Disks.{has_name}
use Rattle.ssq_fakes.specs.Names.{Lists}
use Rattle.ssq_fakes.proofs.NameSets.{keys_listed}
use Rattle.ssq_fakes.proofs.names.listed.Goals as goal

pub returns : goal.returns
returns c =
    let keys = c.args.names.keys in
    let whole : IfOk c.collect.result (λ list. list.items ≡ keys) = search rules in
    IfOk-weaker c.collect.result _ _ (λ list is. subst (Lists (has_name keys)) (sym is) (keys_listed keys c.into_iter.ensures.into_iter_gives.4)) whole
