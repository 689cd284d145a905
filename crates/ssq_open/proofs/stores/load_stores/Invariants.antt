use Rattle.std.proofs.Common.{◌≡◌, ◌≤◌}
use Rattle.ssq_outside.specs.History.{files_now}
use Rattle.ssq_open.specs.Stores.{AreStores, AreLoaded}
use Rattle.ssq_open.proofs.stores.load_stores.Given as goal

abbrev pub invariant-loop-partition : goal.invariant-loop-partition
invariant-loop-partition g l = record {
  numbers : AreStores l.partition l.committed l.stores;
  loaded : g.D.Disk.tells → AreLoaded (files_now (g.D.Disk.history l.initial.disk)) l.partition l.committed l.stores;
  same : g.D.Disk.tells → g.D.Disk.history l.disk ≡ g.D.Disk.history l.initial.disk;
  counted : g.D.Disk.faults l.initial.disk ≤ g.D.Disk.faults l.disk;
}
