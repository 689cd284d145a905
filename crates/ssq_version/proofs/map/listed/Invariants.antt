-- What is taken in, with what is left from the key on, is all from the key on.
use Rattle.std.proofs.Common.{◌≡◌, ◌++◌}
use Rattle.ssq_version.specs.State.{from_key}
use Rattle.ssq_version.specs.Map.{shown}
use Rattle.ssq_version.proofs.map.listed.Given as goal

abbrev pub invariant-loop-entry : goal.invariant-loop-entry
invariant-loop-entry l =
    (goal.iterator-loop-entry).can_next l.entry-iterator
    × (goal.iterator-loop-entry).is_finite l.entry-iterator
    × (shown l.list.items ++ from_key l.key l.entry-iterator ≡ from_key l.key l.table.entries)
