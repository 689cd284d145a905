-- The entries so far and those that are left of both lists are all.
use Rattle.std.proofs.Common.{◌≡◌, ◌≤◌, ◌+◌, ◌-◌, ◌++◌, length}
use Rattle.ssq_version.specs.State.{laid}
use Rattle.ssq_version.specs.Text.{shown}
use Rattle.ssq_version.proofs.Laid.{left}
use Rattle.ssq_version.proofs.layers.merge.Given as goal

abbrev pub invariant-loop-entry : goal.invariant-loop-entry
invariant-loop-entry l = record {
  whole : shown l.made.items ++ left l.old l.new l.older l.newer ≡ laid (shown l.newer) (shown l.older);
  old : l.old ≤ length l.older;
  new : l.new ≤ length l.newer;
}

abbrev pub decreases-loop-entry : goal.decreases-loop-entry
decreases-loop-entry l = (length l.older - l.old) + (length l.newer - l.new)
