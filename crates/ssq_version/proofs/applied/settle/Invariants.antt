-- What is left of the change leads to what all of it leads to, and has room.
use Rattle.std.specs.List.{AllByRecursion}
use Rattle.ssq_version.specs.declared.form.Form.TheVariants.{Delta}
use Rattle.ssq_version.specs.State.{Ascends, HasRoom}
use Rattle.ssq_version.specs.Text.{IsSpelled}
use Rattle.ssq_version.proofs.Values.{LeadsTo}
use Rattle.ssq_version.proofs.applied.settle.Given as goal

abbrev pub invariant-loop-key : goal.invariant-loop-key
invariant-loop-key l =
    (goal.iterator-loop-key).can_next l.key-iterator
    × (goal.iterator-loop-key).is_finite l.key-iterator
    × LeadsTo l.fn.change l.initial.state l.key-iterator l.state
    × HasRoom l.state l.key-iterator
    × Ascends l.key-iterator
    × AllByRecursion (IsSpelled Delta) l.key-iterator
