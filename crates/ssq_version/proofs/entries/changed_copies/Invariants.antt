-- What is copied, with the entries that are left, is all.
use Rattle.std.proofs.Common.{◌≡◌, ◌++◌, drop}
use Rattle.ssq_version.specs.Text.{shown}
use Rattle.ssq_version.proofs.entries.changed_copies.Given as goal

abbrev pub invariant-loop-entry : goal.invariant-loop-entry
invariant-loop-entry l = l.made.items ++ shown (drop l.entry-index l.entries) ≡ shown l.entries
