-- The parts before this one begin at their ends here, and the others are as they were.
use Rattle.ssq_desk.specs.Room.{BeginsAt}
use Rattle.ssq_desk.proofs.Loops.{AreDoneTo}
use Rattle.ssq_desk.proofs.room.begin_at.Given as goal

abbrev pub invariant-loop-at : goal.invariant-loop-at
invariant-loop-at g l = AreDoneTo (BeginsAt l.ends) l.fn.part_logs l.part_logs l.at
