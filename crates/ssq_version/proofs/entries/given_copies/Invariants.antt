-- What is copied, with what the entries that are left give, is all.
use Rattle.std.proofs.Common.{◌≡◌, ◌++◌, drop}
use Rattle.ssq_version.specs.State.{given_by}
use Rattle.ssq_version.specs.Text.{shown}
use Rattle.ssq_version.proofs.entries.given_copies.Given as goal

abbrev pub invariant-loop-entry : goal.invariant-loop-entry
invariant-loop-entry l = l.given.items ++ given_by (shown (drop l.entry-index l.entries)) ≡ given_by (shown l.entries)
