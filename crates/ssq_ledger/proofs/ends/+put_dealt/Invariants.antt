use Rattle.std.proofs.Common.{length}
use Rattle.ssq_ledger.proofs.ends.+put_dealt.Given as goal

-- the parts that are left
abbrev pub decreases-put_dealt : goal.decreases-put_dealt
decreases-put_dealt l = length l.from.now
