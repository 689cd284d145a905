use Rattle.ssq_ledger.specs.Shown.{shelf_of}
use Rattle.ssq_desk.specs.Contents.{keeping_in}
use Rattle.ssq_desk.specs.Round.{setting_of}
use Rattle.ssq_desk.specs.Whole.{opening_in}
use Rattle.ssq_drive.specs.Damaged.{HasDamaged}
use Rattle.ssq_drive.specs.Driven.{unmade}
use Rattle.ssq_drive.specs.Good.{KeepsGood}
use Rattle.ssq_drive.proofs.Tidying.{IsMaking}
use Rattle.ssq_drive.proofs.keep.make_due.Given as goal

abbrev pub invariant-loop : goal.invariant-loop
invariant-loop g l = record { making : IsMaking g.L.Log.lines g.D.Disk.faults (HasDamaged g.D.Disk.tells g.L.Log.tells g.D.Disk.history g.L.Log.lines) l.fn.desk l.desk; good : KeepsGood g.L.Log.lines (g.D.Disk.tells × g.L.Log.tells) l.fn.desk l.desk }

abbrev pub decreases-loop : goal.decreases-loop
decreases-loop g l = unmade (keeping_in (setting_of g.L.Log.lines l.fn.desk.opening)) l.desk.core (shelf_of (opening_in g.L.Log.lines) l.desk)
