use Rattle.std.proofs.Common.{length}
use Rattle.ssq_desk.proofs.hand.+take_rows.Given as goal

-- the partitions that are left
abbrev pub decreases-take_rows : goal.decreases-take_rows
decreases-take_rows g l = length l.shares.now
