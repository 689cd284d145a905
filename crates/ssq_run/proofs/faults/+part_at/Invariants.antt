use Rattle.std.proofs.Common.{length}
use Rattle.ssq_run.proofs.faults.+part_at.Given as goal

-- the streams that are left
abbrev pub decreases-part_at : goal.decreases-part_at
decreases-part_at l = length l.counts.now
