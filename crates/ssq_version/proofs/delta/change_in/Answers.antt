use Rattle.std.proofs.Common.{◌∙◌, subst, sym}
use Rattle.ssq_version.specs.State.{Ascends, IsChange}
use Rattle.ssq_version.proofs.Spelled.{change_is_kept}
use Rattle.ssq_version.proofs.delta.change_in.Goals as goal

pub invariant_of-result : goal.invariant_of-result
invariant_of-result c =
    let file = c.requires.1 in
    let made = c.in_ok-entries.ensures file.0 file.1.spelled file.4 in
    let map = c.in_ok-map_of.ensures (subst Ascends (sym made) file.1.ascend) in
    subst IsChange (sym (map ∙ made)) (change_is_kept file.0 file.1)
