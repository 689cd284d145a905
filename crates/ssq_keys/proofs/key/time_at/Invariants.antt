use Rattle.ssq_keys.proofs.Timing.{IsReadTo}
use Rattle.ssq_keys.proofs.key.time_at.Given as goal

abbrev pub invariant-loop-at : goal.invariant-loop-at
invariant-loop-at l = IsReadTo l.bytes l.count l.place l.at l.rest l.time
