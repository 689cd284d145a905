use Rattle.std.proofs.Common.{◌∙◌, subst, sym}
use Rattle.ssq_version.specs.State.{Ascends, IsState}
use Rattle.ssq_version.proofs.Spelled.{state_is_kept, file_state}
use Rattle.ssq_version.proofs.snapshot.state_in.Goals as goal

pub invariant_of-result : goal.invariant_of-result
invariant_of-result c =
    let file = file_state c.requires.0 c.args.file.partition c.args.file.version c.args.file.count c.args.file.entries.now c.requires.1 in
    let kept = state_is_kept file.0 file.1.are in
    let made = c.in_ok-entries.ensures file.0 file.1.are.spelled file.1.bytes in
    let map = c.in_ok-map_of.ensures (subst Ascends (sym made) kept.ascend) in
    subst IsState (sym (map ∙ made)) kept

pub returns : goal.returns
returns c state bytes spelled =
    let file = file_state c.requires.0 c.args.file.partition c.args.file.version c.args.file.count c.args.file.entries.now c.requires.1 in
    let kept = state_is_kept file.0 file.1.are in
    let made = c.in_ok-entries.ensures file.0 file.1.are.spelled file.1.bytes in
    c.in_ok-map_of.ensures (subst Ascends (sym made) kept.ascend) ∙ c.in_ok-entries.ensures state spelled bytes
