use Rattle.std.proofs.Common.{◌≡◌, ◌-◌, ◌≤◌, length}
use Rattle.ssq_lex.specs.Cut.{closing}
use Rattle.ssq_lex.proofs.Closing.{closing_from}
use Rattle.ssq_lex.proofs.front.closing.Given as goal

abbrev pub invariant-loop-at : goal.invariant-loop-at
invariant-loop-at l = (l.at ≤ length l.bytes) × (closing_from l.at l.bytes ≡ closing l.bytes)

abbrev pub decreases-loop-at : goal.decreases-loop-at
decreases-loop-at l = length l.bytes - l.at
