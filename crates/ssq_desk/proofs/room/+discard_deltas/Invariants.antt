use Rattle.std.proofs.Common.{length}
use Rattle.ssq_desk.proofs.room.+discard_deltas.Given as goal

-- the partitions that are left
abbrev pub decreases-discard_deltas : goal.decreases-discard_deltas
decreases-discard_deltas g l = length l.shares.now
