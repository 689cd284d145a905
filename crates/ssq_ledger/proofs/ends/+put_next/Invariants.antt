use Rattle.std.proofs.Common.{length}
use Rattle.ssq_ledger.proofs.ends.+put_next.Given as goal

-- the parts that are left
abbrev pub decreases-put_next : goal.decreases-put_next
decreases-put_next l = length l.ends.now
