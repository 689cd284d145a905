-- The state so far is what the files make of the versions so far.
use Rattle.std.proofs.Common.{◌≡◌, ◌≤◌}
use Rattle.ssq_outside.specs.History.{files_now}
use Rattle.ssq_store.specs.Loaded.{HaveNone, Makes}
use Rattle.ssq_store.proofs.load.follow_all.Given as goal

abbrev pub invariant-loop-version : goal.invariant-loop-version
invariant-loop-version g l = record {
  made : g.D.Disk.tells → Makes (files_now (g.D.Disk.history l.initial.disk)) l.partition l.fn.standing.versions l.fn.standing.state → HaveNone (files_now (g.D.Disk.history l.initial.disk)) l.partition l.fn.standing.versions l.versions → Makes (files_now (g.D.Disk.history l.initial.disk)) l.partition l.version l.state;
  same : g.D.Disk.tells → g.D.Disk.history l.disk ≡ g.D.Disk.history l.initial.disk;
  clock : (g.D.Disk.history l.initial.disk).moment ≤ (g.D.Disk.history l.disk).moment;
  counted : g.D.Disk.faults l.initial.disk ≤ g.D.Disk.faults l.disk;
}
