-- What is listed so far, with the entries that are left, is all.
use Rattle.std.proofs.Common.{◌≡◌, ◌++◌}
use Rattle.ssq_version.specs.Text.{said_of, shown}
use Rattle.ssq_version.proofs.snapshot.entries_of.Given as goal

abbrev pub invariant-loop-key : goal.invariant-loop-key
invariant-loop-key l =
    (goal.iterator-loop-key).can_next l.key-iterator
    × (goal.iterator-loop-key).is_finite l.key-iterator
    × (shown l.entries.items ++ said_of l.key-iterator ≡ said_of l.map)
