-- What is written so far, with the entries that are left, is all.
use Rattle.std.proofs.Common.{◌≡◌, ◌++◌}
use Rattle.std.specs.List.{AllByRecursion}
use Rattle.ssq_version.specs.declared.form.Form.TheVariants.{Delta}
use Rattle.ssq_version.specs.Text.{entries_text, IsSpelled}
use Rattle.ssq_version.proofs.delta.put_change.Given as goal

abbrev pub invariant-loop-key : goal.invariant-loop-key
invariant-loop-key l =
    (goal.iterator-loop-key).can_next l.key-iterator
    × (goal.iterator-loop-key).is_finite l.key-iterator
    × (l.out ++ entries_text Delta l.key-iterator ≡ l.initial.out ++ entries_text Delta l.change)
    × AllByRecursion (IsSpelled Delta) l.key-iterator
