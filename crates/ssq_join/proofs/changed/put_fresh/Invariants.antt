use Rattle.ssq_version.specs.State.{Ascends}
use Rattle.ssq_join.proofs.Saying.{FreshTo}
use Rattle.ssq_join.proofs.changed.put_fresh.Given as goal

abbrev pub invariant-loop-key : goal.invariant-loop-key
invariant-loop-key l =
    (goal.iterator-loop-key).can_next l.key-iterator
    × (goal.iterator-loop-key).is_finite l.key-iterator
    × Ascends l.key-iterator
    × FreshTo l.fn.fresh.entries l.met.keys l.fn.draft l.key-iterator l.draft
