use Rattle.std.proofs.Common.{◌≤◌, length}
use Rattle.ssq_fakes.proofs.Parts.{found_before}
use Rattle.ssq_fakes.proofs.inputs.MemInputs.find_part.Goals as goal

pub unreachable-requires : goal.unreachable-requires
unreachable-requires c =
    let past : length c.args.self.now.parts.items ≤ c.loop-part.part-index = rw c.deref-part-items.ensures.value at c.loop-part-test.false in
    found_before _ c.args.stream.now _ _ _ c.requires past c.loop-part.invariant
