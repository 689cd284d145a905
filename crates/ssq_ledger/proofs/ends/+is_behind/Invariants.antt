use Rattle.std.proofs.Common.{length}
use Rattle.ssq_ledger.proofs.ends.+is_behind.Given as goal

-- the parts that are left
abbrev pub decreases-is_behind : goal.decreases-is_behind
decreases-is_behind l = length l.ends.now
