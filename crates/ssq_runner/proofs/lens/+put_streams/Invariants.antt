use Rattle.std.proofs.Common.{length}
use Rattle.ssq_runner.proofs.lens.+put_streams.Given as goal

-- the streams that are left
abbrev pub decreases-put_streams : goal.decreases-put_streams
decreases-put_streams l = length l.counts.now
