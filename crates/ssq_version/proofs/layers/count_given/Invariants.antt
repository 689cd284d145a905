-- Those that were counted and those that are left are all.
use Rattle.std.proofs.Common.{◌≡◌, ◌≤◌, ◌+◌, drop, length}
use Rattle.ssq_version.specs.State.{given_by}
use Rattle.ssq_version.specs.Text.{shown}
use Rattle.ssq_version.proofs.layers.count_given.Given as goal

abbrev pub invariant-loop-entry : goal.invariant-loop-entry
invariant-loop-entry l = record {
  all : l.count + length (given_by (shown (drop l.entry-index l.entries))) ≡ length (given_by (shown l.entries));
  few : l.count ≤ l.entry-index;
}
