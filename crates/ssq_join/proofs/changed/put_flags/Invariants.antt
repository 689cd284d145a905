use Rattle.ssq_join.proofs.Saying.{FlagsTo}
use Rattle.ssq_join.proofs.changed.put_flags.Given as goal

abbrev pub invariant-loop-key : goal.invariant-loop-key
invariant-loop-key l = FlagsTo l.state l.met.keys l.fn.draft l.key-iterator l.draft
