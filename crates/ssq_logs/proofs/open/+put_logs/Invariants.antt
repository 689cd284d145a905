use Rattle.std.proofs.Common.{length}
use Rattle.ssq_logs.proofs.open.+put_logs.Given as goal

-- the streams that are left
abbrev pub decreases-put_logs : goal.decreases-put_logs
decreases-put_logs g l = length l.streams.now
