use Rattle.std.specs.List.Sorted.{IsStrictlySortedBy}
use Rattle.ssq_step.specs.Indexing.{seen}
use Rattle.ssq_step.specs.Indexing.{by_time}
use Rattle.ssq_step.proofs.Timing.{ArePastTo}
use Rattle.ssq_step.proofs.closing.Closing.past.Given as goal

abbrev pub invariant-loop-entry : goal.invariant-loop-entry
invariant-loop-entry l = ArePastTo l.now l.self l.entry-iterator (seen l.keys.items) × IsStrictlySortedBy by_time l.entry-iterator
