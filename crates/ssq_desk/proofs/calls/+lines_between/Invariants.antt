-- The parts that are left.
use Rattle.std.proofs.Common.{length}
use Rattle.ssq_desk.proofs.calls.+lines_between.Given as goal

abbrev pub decreases-lines_between : goal.decreases-lines_between
decreases-lines_between g l = length l.part_logs.now
