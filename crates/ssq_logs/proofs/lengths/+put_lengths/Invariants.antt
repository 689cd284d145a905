use Rattle.std.proofs.Common.{length}
use Rattle.ssq_logs.proofs.lengths.+put_lengths.Given as goal

-- the logs that are left
abbrev pub decreases-put_lengths : goal.decreases-put_lengths
decreases-put_lengths g l = length l.logs.now
