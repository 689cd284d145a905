use Rattle.std.proofs.Common.{refl}
use Rattle.ssq_fakes.proofs.Rooms.{sure_put}
use Rattle.ssq_fakes.proofs.disk.MemDisk.fill.Goals as goal

pub returns-in_ok-room-clause-sure : goal.returns-in_ok-room-clause-sure
returns-in_ok-room-clause-sure c = λ sure.
    sure_put c.args.self.now _ c.args.name c.in_ok-bytes.bytes sure (rw c.keep_room-publish.ensures.faults refl) c.keep_room-publish.ensures.spare (rw (← c.keep_room-publish.ensures.record) c.push.ensures)
