-- None of the versions that were looked at has a snapshot.
use Rattle.std.proofs.Common.{◌≡◌, ◌≤◌}
use Rattle.ssq_outside.specs.History.{files_now}
use Rattle.ssq_store.specs.Loaded.{HaveNone}
use Rattle.ssq_store.proofs.load.newest_snapshot.Given as goal

abbrev pub invariant-loop-left : goal.invariant-loop-left
invariant-loop-left g l = record {
  below : l.left ≤ l.versions;
  none : g.D.Disk.tells → HaveNone (files_now (g.D.Disk.history l.initial.disk)) l.partition l.left l.versions;
  same : g.D.Disk.tells → g.D.Disk.history l.disk ≡ g.D.Disk.history l.initial.disk;
  clock : (g.D.Disk.history l.initial.disk).moment ≤ (g.D.Disk.history l.disk).moment;
  counted : g.D.Disk.faults l.initial.disk ≤ g.D.Disk.faults l.disk;
}

abbrev pub decreases-loop-left : goal.decreases-loop-left
decreases-loop-left g l = l.left
