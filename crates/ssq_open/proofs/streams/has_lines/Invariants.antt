use Rattle.std.proofs.Common.{◌≡◌}
use Rattle.ssq_open.specs.Watermarks.{has_lines}
use Rattle.ssq_open.proofs.Walks.{lines_from}
use Rattle.ssq_open.proofs.streams.has_lines.Given as goal

abbrev pub invariant-loop-at : goal.invariant-loop-at
invariant-loop-at l = has_lines l.streams l.seen ≡ lines_from l.at l.streams l.seen
