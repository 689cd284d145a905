use Rattle.std.proofs.Common.{length}
use Rattle.ssq_desk.proofs.hand.+raise_all.Given as goal

-- the parts that are left
abbrev pub decreases-raise_all : goal.decreases-raise_all
decreases-raise_all g l = length l.part_logs.now
