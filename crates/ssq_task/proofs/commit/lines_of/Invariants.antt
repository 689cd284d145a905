-- The lines so far and those of the streams that are left are those of all.
use Rattle.std.proofs.Common.{◌≡◌, ◌++◌, drop}
use Rattle.ssq_task.specs.Committing.{lines_of}
use Rattle.ssq_task.proofs.Commits.{lines_from}
use Rattle.ssq_task.proofs.commit.lines_of.Given as goal

abbrev pub invariant-loop-at : goal.invariant-loop-at
invariant-loop-at l = l.lines ++ lines_from l.at (drop l.at l.bound.streams) l.times ≡ lines_of l.bound l.times
