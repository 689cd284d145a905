-- Each key that is given a value is there, but for those that are left.
use Rattle.std.specs.List.{AllByRecursion}
use Rattle.ssq_version.specs.declared.form.Form.TheVariants.{Delta}
use Rattle.ssq_version.specs.State.{State, SaysSame, IsWithout}
use Rattle.ssq_version.specs.Text.{IsSpelled}
use Rattle.ssq_version.proofs.Values.{IsRest, RoomBut}
use Rattle.ssq_version.proofs.applied.make_rooms.Given as goal

abbrev pub invariant-loop-key : goal.invariant-loop-key
invariant-loop-key l =
    (goal.iterator-loop-key).can_next l.key-iterator
    × (goal.iterator-loop-key).is_finite l.key-iterator
    × IsRest l.change l.key-iterator
    × RoomBut l.state l.change l.key-iterator
    × SaysSame l.change l.initial.state l.state
    × ((start : State) → IsWithout (λ key. key.now) l.initial.added.items start l.initial.state → IsWithout (λ key. key.now) l.added.items start l.state)
    × AllByRecursion (IsSpelled Delta) l.key-iterator
