-- The lines so far and those of the streams that are left are those of all.
use Rattle.std.proofs.Common.{◌≡◌, ◌≤◌, ◌++◌, drop, length}
use Rattle.std.specs.Prelude.{vec_capacity}
use Rattle.ssq_task.specs.Committing.{lines_of}
use Rattle.ssq_task.proofs.Commits.{lines_from}
use Rattle.ssq_desk.proofs.closed.lines_in.Given as goal

abbrev pub invariant-loop-at : goal.invariant-loop-at
invariant-loop-at l = record {
  lines : l.lines.items ++ lines_from l.at (drop l.at l.bound.streams) l.times ≡ lines_of l.bound l.times;
  few : length l.lines.items ≤ l.at;
  room : length l.bound.streams ≤ vec_capacity l.lines;
}
