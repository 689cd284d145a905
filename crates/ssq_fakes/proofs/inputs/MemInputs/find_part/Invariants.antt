use Rattle.std.proofs.Common.{◌≡◌, drop}
use Rattle.std.specs.Prelude.{slice_get}
use Rattle.ssq_fakes.specs.Inputs.{parts_of}
use Rattle.ssq_fakes.proofs.inputs.MemInputs.find_part.Given as goal

abbrev pub invariant-loop-part : goal.invariant-loop-part
invariant-loop-part l = slice_get (parts_of l.self.parts.items l.stream) l.number ≡ slice_get (parts_of (drop l.part-index l.self.parts.items) l.stream) l.left
