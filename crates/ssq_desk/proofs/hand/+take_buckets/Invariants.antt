use Rattle.std.proofs.Common.{length}
use Rattle.ssq_desk.proofs.hand.+take_buckets.Given as goal

-- the parts that are left
abbrev pub decreases-take_buckets : goal.decreases-take_buckets
decreases-take_buckets g l = length l.part_logs.now
