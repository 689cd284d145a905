use Rattle.std.proofs.Common.{length}
use Rattle.ssq_ledger.proofs.ends.+has_line.Given as goal

-- the parts that are left
abbrev pub decreases-has_line : goal.decreases-has_line
decreases-has_line l = length l.from.now
