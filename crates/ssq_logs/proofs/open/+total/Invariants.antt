use Rattle.std.proofs.Common.{length}
use Rattle.ssq_logs.proofs.open.+total.Given as goal

-- the counts that are left
abbrev pub decreases-total : goal.decreases-total
decreases-total l = length l.counts.now
