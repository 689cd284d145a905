use Rattle.std.proofs.Common.{length}
use Rattle.ssq_desk.proofs.room.+begin_deltas.Given as goal

-- the partitions that are left
abbrev pub decreases-begin_deltas : goal.decreases-begin_deltas
decreases-begin_deltas g l = length l.shares.now
