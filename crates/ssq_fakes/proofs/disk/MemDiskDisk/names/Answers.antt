use Rattle.ssq_outside.specs.History.{files_now}
use Rattle.ssq_fakes.specs.Records.{events_of}
use Rattle.ssq_fakes.specs.Disks.{disk_history}
use Rattle.ssq_fakes.proofs.Histories.{files_now-is}
use Rattle.ssq_fakes.proofs.NameLists.{are_names}
use Rattle.ssq_fakes.proofs.disk.MemDiskDisk.names.Goals as goal

pub returns-in-Ok-clause-found : goal.returns-in-Ok-clause-found
returns-in-Ok-clause-found c =
    let old = c.args.self.now in
    are_names (files_now (disk_history old)) (events_of old.record) c.in-Ok.names.items (files_now-is (events_of old.record) old.clock) c.in-Ok.ensures
