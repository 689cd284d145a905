-- What is made, with what the entries that are left give, is all.
use Rattle.std.proofs.Common.{◌≡◌, ◌++◌}
use Rattle.ssq_version.specs.State.{given_by}
use Rattle.ssq_version.proofs.applied.given.Given as goal

abbrev pub invariant-loop-key : goal.invariant-loop-key
invariant-loop-key l =
    (goal.iterator-loop-key).can_next l.key-iterator
    × (goal.iterator-loop-key).is_finite l.key-iterator
    × (l.given.items ++ given_by l.key-iterator ≡ given_by l.fn.change)
