use Rattle.ssq_shape.specs.Late.{closes}
use Rattle.ssq_board.specs.Rounds.{left}
use Rattle.ssq_drive.specs.Damaged.{HasDamaged}
use Rattle.ssq_drive.specs.Driven.{IsDriven}
use Rattle.ssq_drive.specs.Good.{KeepsGood}
use Rattle.ssq_drive.proofs.round.run_round.Given as goal

abbrev pub invariant-loop-desk : goal.invariant-loop-desk
invariant-loop-desk g l = record {
  driven : IsDriven g.D.Disk.faults (HasDamaged g.D.Disk.tells g.L.Log.tells g.D.Disk.history g.L.Log.lines) (closes l.initial.desk.opening.view.bound.now) l.initial.desk l.desk;
  good : KeepsGood g.L.Log.lines (g.D.Disk.tells × g.L.Log.tells) l.initial.desk l.desk;
}

abbrev pub decreases-loop-desk : goal.decreases-loop-desk
decreases-loop-desk g l = left l.desk.scope l.desk.core
