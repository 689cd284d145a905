-- None of the versions that were looked at has a snapshot.
use Rattle.std.proofs.Common.{◌≤◌}
use Rattle.ssq_store.specs.Loaded.{files_in, HaveNone}
use Rattle.ssq_store.proofs.listed.newest_in.Given as goal

abbrev pub invariant-loop-left : goal.invariant-loop-left
invariant-loop-left l = record { below : l.left ≤ l.versions; none : HaveNone (files_in l.files) l.partition l.left l.versions }

abbrev pub decreases-loop-left : goal.decreases-loop-left
decreases-loop-left l = l.left
