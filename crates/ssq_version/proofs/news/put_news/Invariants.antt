-- What is written so far, with what is left that is new, is all.
use Rattle.std.proofs.Common.{◌≡◌, ◌+◌, ◌≤◌, ◌++◌, length}
use Rattle.std.specs.List.{AllByRecursion}
use Rattle.ssq_version.specs.declared.form.Form.TheVariants.{Delta}
use Rattle.ssq_version.specs.State.{news}
use Rattle.ssq_version.specs.Text.{entries_text, IsSpelled}
use Rattle.ssq_version.proofs.news.put_news.Given as goal

abbrev pub invariant-loop-key : goal.invariant-loop-key
invariant-loop-key l =
    (goal.iterator-loop-key).can_next l.key-iterator
    × (goal.iterator-loop-key).is_finite l.key-iterator
    × (l.out ++ entries_text Delta (news l.state l.key-iterator) ≡ l.initial.out ++ entries_text Delta (news l.state l.change))
    × (l.count + length (news l.state l.key-iterator) ≡ length (news l.state l.change))
    × (l.count + length l.key-iterator ≤ length l.change)
    × AllByRecursion (IsSpelled Delta) l.key-iterator
