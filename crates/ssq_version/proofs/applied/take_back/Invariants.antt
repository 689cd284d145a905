-- Without those that are left, the state is the first one.
use Rattle.std.proofs.Common.{◌≡◌, length}
use Rattle.std.specs.Vec.Iter.{into_iter_items, into_iter_len}
use Rattle.ssq_version.specs.State.{State, IsWithout}
use Rattle.ssq_version.proofs.applied.take_back.Given as goal

abbrev pub invariant-loop-key : goal.invariant-loop-key
invariant-loop-key l =
    (goal.iterator-loop-key).can_next l.key-iterator
    × (goal.iterator-loop-key).is_finite l.key-iterator
    × ((start : State) → IsWithout (λ key. key.now) l.fn.added.items start l.initial.state → IsWithout (λ key. key.now) (into_iter_items l.key-iterator) start l.state)
    × (into_iter_len l.key-iterator ≡ length (into_iter_items l.key-iterator))
