use Rattle.std.proofs.Common.{◌∙◌, sym}
use Rattle.ssq_fakes.proofs.Histories.{files_now-is}
use Rattle.ssq_fakes.specs.Records.{events_of}
use Rattle.ssq_fakes.proofs.disk.MemDiskDisk.read.Goals as goal

pub returns-in-Ok-clause-found : goal.returns-in-Ok-clause-found
returns-in-Ok-clause-found c = c.in-Ok.ensures ∙ c.content.ensures ∙ sym (files_now-is (events_of c.args.self.now.record) c.args.self.now.clock c.args.name)
