use Rattle.ssq_shape.specs.Late.{closes}
use Rattle.ssq_board.proofs.Readies.{sync_due}
use Rattle.ssq_drive.proofs.Turning.{synced}
use Rattle.ssq_ledger.specs.Shown.{HasRisen}
use Rattle.ssq_drive.proofs.Goods.{synced_good}
use Rattle.ssq_drive.proofs.turn.sync.Goals as goal

pub sync-requires : goal.sync-requires
sync-requires g c = (sync_due c.args.desk.now.scope c.args.desk.now.core c.requires.next).0

pub returns-clause-turn : goal.returns-clause-turn
returns-clause-turn g c = synced g.D.Disk.faults (closes c.args.desk.now.opening.view.bound.now) c.args.desk.now c.sync.new.self c.sync.result c.requires.rest c.requires.next c.sync.ensures.done c.sync.ensures.stopped c.sync.ensures.counted

pub returns-clause-good : goal.returns-clause-good
returns-clause-good g c = λ t good. synced_good g.L.Log.lines c.args.desk.now c.sync.new.self c.sync.result (λ f. HasRisen f (g.D.Disk.faults c.args.desk.now.disk) (g.D.Disk.faults c.sync.new.self.disk)) c.sync.ensures.done c.sync.ensures.stopped good
