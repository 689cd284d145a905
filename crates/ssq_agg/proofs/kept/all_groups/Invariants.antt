use Rattle.ssq_agg.proofs.Reading.{IsReadTo}
use Rattle.ssq_agg.proofs.kept.all_groups.Given as goal

abbrev pub invariant-loop-key : goal.invariant-loop-key
invariant-loop-key l =
    (goal.iterator-loop-key).can_next l.key-iterator
    × (goal.iterator-loop-key).is_finite l.key-iterator
    × IsReadTo l.grouping l.state l.key-iterator l.groups.items
