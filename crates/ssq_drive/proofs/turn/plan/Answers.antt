use Rattle.ssq_shape.specs.Late.{closes}
use Rattle.ssq_drive.proofs.Turning.{planned}
use Rattle.ssq_ledger.specs.Shown.{IsUnplanned}
use Rattle.ssq_drive.proofs.Goods.{planned_good}
use Rattle.ssq_drive.proofs.turn.plan.Goals as goal

pub returns-clause-turn : goal.returns-clause-turn
returns-clause-turn g c =
    planned g.D.Disk.faults (closes c.args.desk.now.opening.view.bound.now) c.args.desk.now c.plan.new.self c.plan.result c.requires.cap c.is_in_order.ensures.sound c.requires.rest c.requires.next c.is_numbered.ensures.epochs
    c.plan.ensures.done c.plan.ensures.stopped c.plan.ensures.full c.plan.ensures.counted

pub returns-clause-good : goal.returns-clause-good
returns-clause-good g c = λ t good. planned_good g.L.Log.lines c.args.desk.now c.plan.new.self c.plan.result (IsUnplanned c.args.desk.now.core.front.planned (g.D.Disk.faults c.args.desk.now.disk) (g.D.Disk.faults c.plan.new.self.disk)) c.requires.next c.plan.ensures.done c.plan.ensures.stopped good
