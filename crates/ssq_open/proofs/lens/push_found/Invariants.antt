use Rattle.std.proofs.Common.{◌≡◌, ◌++◌, drop}
use Rattle.ssq_open.specs.Lens.{found_in}
use Rattle.ssq_open.proofs.lens.push_found.Given as goal

abbrev pub invariant-loop-part : goal.invariant-loop-part
invariant-loop-part l = l.found ++ found_in l.stream l.part (drop l.part l.parts) ≡ l.initial.found ++ found_in l.stream 0 l.parts
