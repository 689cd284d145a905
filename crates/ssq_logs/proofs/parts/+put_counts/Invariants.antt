use Rattle.std.proofs.Common.{length}
use Rattle.ssq_logs.proofs.parts.+put_counts.Given as goal

-- the streams that are left
abbrev pub decreases-put_counts : goal.decreases-put_counts
decreases-put_counts g l = length l.streams.now
