use Rattle.std.proofs.Common.{◌≡◌}
use Rattle.ssq_open.specs.Watermarks.{mark_by}
use Rattle.ssq_open.proofs.Marks.{least_after, marks_from}
use Rattle.ssq_open.proofs.streams.mark_by.Given as goal

abbrev pub invariant-loop-at : goal.invariant-loop-at
invariant-loop-at l = mark_by l.streams l.seen ≡ least_after l.least (marks_from l.at l.streams l.seen)
