use Rattle.ssq_version.proofs.Values.{IsRest}
use Rattle.ssq_step.proofs.Indexed.{AreTimedTo}
use Rattle.ssq_step.proofs.index.entries_of.Given as goal

abbrev pub invariant-loop-key : goal.invariant-loop-key
invariant-loop-key l =
    (goal.iterator-loop-key).can_next l.key-iterator
    × (goal.iterator-loop-key).is_finite l.key-iterator
    × IsRest l.state l.key-iterator
    × AreTimedTo l.bound.shape l.bound l.state l.key-iterator l.entries.keys
