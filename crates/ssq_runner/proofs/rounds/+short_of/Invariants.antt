use Rattle.std.proofs.Common.{length}
use Rattle.ssq_runner.proofs.rounds.+short_of.Given as goal

-- the parts that are left
abbrev pub decreases-short_of : goal.decreases-short_of
decreases-short_of l = length l.ends.now
