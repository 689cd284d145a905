use Rattle.ssq_agg.proofs.Saying.{AreEntries}
use Rattle.ssq_agg.proofs.changed.changed.Given as goal

abbrev pub invariant-loop-key : goal.invariant-loop-key
invariant-loop-key l = AreEntries l.closed l.touched.entries l.key-iterator l.entries.items
