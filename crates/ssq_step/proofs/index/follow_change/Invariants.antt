use Rattle.ssq_version.specs.State.{IsAfter, State}
use Rattle.ssq_version.proofs.Values.{IsRest}
use Rattle.ssq_step.specs.Indexing.{IsIndex}
use Rattle.ssq_step.proofs.Indexed.{AreFollowed}
use Rattle.ssq_step.proofs.index.follow_change.Given as goal

abbrev pub invariant-loop-key : goal.invariant-loop-key
invariant-loop-key l =
    (goal.iterator-loop-key).can_next l.key-iterator
    × (goal.iterator-loop-key).is_finite l.key-iterator
    × IsRest l.change l.key-iterator
    × ((new : State) → IsAfter l.change l.state new → IsIndex l.bound l.state l.fn.entries.keys → AreFollowed l.bound.shape l.bound l.state new l.key-iterator l.entries.keys)
