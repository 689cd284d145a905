use Rattle.std.proofs.Common.{◌≡◌, ◌≤◌, length}
use Rattle.ssq_outside.specs.History.{files_now}
use Rattle.ssq_open.specs.Epochs.{ArePlanned}
use Rattle.ssq_open.specs.Numbers.{ArePlansInOrder}
use Rattle.ssq_open.proofs.plans.plans_to.Given as goal

abbrev pub invariant-loop-epoch : goal.invariant-loop-epoch
invariant-loop-epoch g l = record {
  planned : g.D.Disk.tells → ArePlanned (files_now (g.D.Disk.history l.initial.disk)) l.first l.plans;
  count : length l.plans ≡ l.epoch;
  few : l.epoch ≤ 4294967295;
  in_order : ArePlansInOrder l.first l.plans;
  same : g.D.Disk.tells → g.D.Disk.history l.disk ≡ g.D.Disk.history l.initial.disk;
  counted : g.D.Disk.faults l.initial.disk ≤ g.D.Disk.faults l.disk;
}
