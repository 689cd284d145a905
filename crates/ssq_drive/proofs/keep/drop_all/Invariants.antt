use Rattle.ssq_desk.specs.Whole.{opening_in}
use Rattle.ssq_drive.specs.Damaged.{HasDamaged}
use Rattle.ssq_drive.specs.Good.{KeepsGood}
use Rattle.ssq_drive.proofs.KeepLemmas.{count_of}
use Rattle.ssq_drive.proofs.Tidying.{IsDropping}
use Rattle.ssq_drive.proofs.keep.drop_all.Given as goal

abbrev pub invariant-loop : goal.invariant-loop
invariant-loop g l = record { dropping : IsDropping g.L.Log.lines g.D.Disk.faults (HasDamaged g.D.Disk.tells g.L.Log.tells g.D.Disk.history g.L.Log.lines) l.fn.desk l.desk; good : KeepsGood g.L.Log.lines (g.D.Disk.tells × g.L.Log.tells) l.fn.desk l.desk }

abbrev pub decreases-loop : goal.decreases-loop
decreases-loop g l = count_of (opening_in g.L.Log.lines) l.desk
