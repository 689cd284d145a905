use Rattle.std.proofs.Common.{◌≡◌, true}
use Rattle.ssq_shape.specs.Late.{closes}
use Rattle.ssq_drive.proofs.Turning.{committed}
use Rattle.ssq_outside.specs.Faults.{Rises}
use Rattle.ssq_outside.specs.declared.disk.DiskFault.{DiskFault}
use Rattle.ssq_drive.proofs.Goods.{committed_good}
use Rattle.ssq_drive.proofs.turn.commit.Goals as goal

pub returns-clause-turn : goal.returns-clause-turn
returns-clause-turn g c =
    committed g.D.Disk.faults (closes c.args.desk.now.opening.view.bound.now) c.args.desk.now c.commit.new.self c.commit.result c.is_in_order.ensures.sound c.requires.rest c.requires.next
    c.commit.ensures.done c.commit.ensures.stopped c.commit.ensures.counted

pub returns-clause-good : goal.returns-clause-good
returns-clause-good g c = λ t good. committed_good g.L.Log.lines c.args.desk.now c.commit.new.self DiskFault (Rises (g.D.Disk.faults c.args.desk.now.disk) (g.D.Disk.faults c.commit.new.self.disk)) (λ due. due ≡ true → closes c.args.desk.now.opening.view.bound.now ≡ true) c.commit.result c.requires.next c.commit.ensures.done c.commit.ensures.stopped good
