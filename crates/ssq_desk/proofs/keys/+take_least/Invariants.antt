use Rattle.std.proofs.Common.{length}
use Rattle.ssq_desk.proofs.keys.+take_least.Given as goal

-- the partitions that are left
abbrev pub decreases-take_least : goal.decreases-take_least
decreases-take_least g l = length l.shares.now
