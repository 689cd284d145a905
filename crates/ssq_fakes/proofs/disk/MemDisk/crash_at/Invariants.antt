use Rattle.std.proofs.Common.{◌≡◌, [], None, take}
use Rattle.ssq_fakes.specs.Records.{events_of, had_after}
use Rattle.ssq_fakes.specs.Crashes.{picked}
use Rattle.ssq_fakes.specs.Disks.{disk_faults, disk_plan, disk_calls, disk_stages, IsSureDisk}
use Rattle.ssq_fakes.proofs.Crashes.{Holds}
use Rattle.ssq_fakes.proofs.disk.MemDisk.crash_at.Given as goal

abbrev pub invariant-loop-name : goal.invariant-loop-name
invariant-loop-name l = record {
  files : Holds (events_of l.disk.record) (take l.name-index l.name-items) (picked (had_after (events_of l.past)) l.changed.items l.image);
  clock : l.disk.clock ≡ 0;
  count : disk_faults l.disk ≡ 0;
  plan : disk_plan l.disk ≡ record { named = []; stop_after = None };
  calls : disk_calls l.disk ≡ 0;
  stages : disk_stages l.disk ≡ 0;
  sure : IsSureDisk l.disk;
}
