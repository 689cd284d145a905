use Rattle.std.proofs.Common.{◌≡◌, ◌+◌, ◌≤◌, length}
use Rattle.ssq_outside.specs.History.{files_now}
use Rattle.ssq_open.specs.Epochs.{AreCommitted}
use Rattle.ssq_open.specs.Numbers.{AreTimesInOrder}
use Rattle.ssq_open.proofs.commits.commits_to.Given as goal

abbrev pub invariant-loop-epoch : goal.invariant-loop-epoch
invariant-loop-epoch g l = record {
  committed : g.D.Disk.tells → AreCommitted l.streams (files_now (g.D.Disk.history l.initial.disk)) l.epoch l.found.marks l.found.seen;
  count : length l.found.marks ≡ l.epoch + 1;
  in_order : AreTimesInOrder l.streams l.found.seen;
  same : g.D.Disk.tells → g.D.Disk.history l.disk ≡ g.D.Disk.history l.initial.disk;
  counted : g.D.Disk.faults l.initial.disk ≤ g.D.Disk.faults l.disk;
}
