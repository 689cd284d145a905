use Rattle.std.proofs.Common.{◌≡◌}
use Rattle.ssq_modes.specs.Modes.{are_shown}
use Rattle.ssq_modes.proofs.table.are_shown.Given as goal

abbrev pub invariant-loop-at : goal.invariant-loop-at
invariant-loop-at l = l.all ≡ are_shown l.outputs l.at
