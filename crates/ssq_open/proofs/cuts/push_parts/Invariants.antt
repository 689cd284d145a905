use Rattle.std.proofs.Common.{◌≡◌, ◌++◌}
use Rattle.ssq_open.specs.Looking.{parts_of}
use Rattle.ssq_open.proofs.cuts.push_parts.Given as goal

abbrev pub invariant-loop-part : goal.invariant-loop-part
invariant-loop-part l = l.ends ≡ l.initial.ends ++ parts_of l.stream l.part
