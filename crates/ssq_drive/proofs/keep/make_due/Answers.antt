use Rattle.std.proofs.Common.{refl, subst}
use Rattle.ssq_shape.specs.Late.{closes}
use Rattle.ssq_desk.specs.Contents.{keeping_in}
use Rattle.ssq_desk.specs.Round.{setting_of}
use Rattle.ssq_desk.specs.Whole.{opening_in}
use Rattle.ssq_drive.specs.Damaged.{HasDamaged}
use Rattle.ssq_drive.specs.Driven.{IsMade}
use Rattle.ssq_drive.proofs.KeepLemmas.{keeps_still}
use Rattle.ssq_drive.proofs.Tidying.{making_ends, making_keeps, making_less, making_on, making_runs}
use Rattle.ssq_drive.proofs.keep.make_due.Goals as goal

pub loop-init : goal.loop-init
loop-init g c =
    record { making = record { kept = keeps_still g.D.Disk.faults (HasDamaged g.D.Disk.tells g.L.Log.tells g.D.Disk.history g.L.Log.lines) (closes c.args.desk.now.opening.view.bound.now) c.args.desk.now c.args.desk.now refl c.requires.rest; core = refl }; good = λ t good. good }

pub make_next-requires-clause-running : goal.make_next-requires-clause-running
make_next-requires-clause-running g c κs within =
    making_runs g.L.Log.lines g.D.Disk.faults (HasDamaged g.D.Disk.tells g.L.Log.tells g.D.Disk.history g.L.Log.lines) c.args.desk.now c.loop.desk c.loop.invariant.making c.requires.running

pub make_next-requires-clause-rest : goal.make_next-requires-clause-rest
make_next-requires-clause-rest g c κs within =
    c.loop.invariant.making.kept.driven.rest

pub loop-preserved : goal.loop-preserved
loop-preserved g c =
    record { making = making_on g.L.Log.lines g.D.Disk.faults (HasDamaged g.D.Disk.tells g.L.Log.tells g.D.Disk.history g.L.Log.lines) c.args.desk.now c.loop.desk c.make_next.new.desk c.loop.invariant.making c.requires.running c.make_next.ensures.kept (subst (IsMade (opening_in g.L.Log.lines) (keeping_in (setting_of g.L.Log.lines c.loop.desk.opening)) c.loop.desk c.make_next.new.desk) c.if-branch.true c.in_ok-make_next.ensures.made); good = λ t good. c.make_next.ensures.good t (c.loop.invariant.good t good) }

pub loop-smaller : goal.loop-smaller
loop-smaller g c =
    making_less g.L.Log.lines g.D.Disk.faults (HasDamaged g.D.Disk.tells g.L.Log.tells g.D.Disk.history g.L.Log.lines) c.args.desk.now c.loop.desk c.make_next.new.desk c.loop.invariant.making c.requires.running (subst (IsMade (opening_in g.L.Log.lines) (keeping_in (setting_of g.L.Log.lines c.loop.desk.opening)) c.loop.desk c.make_next.new.desk) c.if-branch.true c.in_ok-make_next.ensures.made)

pub returns-in_err-make_next-clause-kept : goal.returns-in_err-make_next-clause-kept
returns-in_err-make_next-clause-kept g c =
    making_keeps g.L.Log.lines g.D.Disk.faults (HasDamaged g.D.Disk.tells g.L.Log.tells g.D.Disk.history g.L.Log.lines) c.args.desk.now c.loop.desk c.make_next.new.desk c.loop.invariant.making c.requires.running c.make_next.ensures.kept

pub returns-in_err-make_next-clause-good : goal.returns-in_err-make_next-clause-good
returns-in_err-make_next-clause-good g c =
    λ t good. c.make_next.ensures.good t (c.loop.invariant.good t good)

pub returns-clause-kept : goal.returns-clause-kept
returns-clause-kept g c =
    making_keeps g.L.Log.lines g.D.Disk.faults (HasDamaged g.D.Disk.tells g.L.Log.tells g.D.Disk.history g.L.Log.lines) c.args.desk.now c.loop.desk c.make_next.new.desk c.loop.invariant.making c.requires.running c.make_next.ensures.kept

pub returns-clause-good : goal.returns-clause-good
returns-clause-good g c =
    λ t good. c.make_next.ensures.good t (c.loop.invariant.good t good)

pub returns-clause-made : goal.returns-clause-made
returns-clause-made g c =
    making_ends g.L.Log.lines g.D.Disk.faults (HasDamaged g.D.Disk.tells g.L.Log.tells g.D.Disk.history g.L.Log.lines) c.args.desk.now c.loop.desk c.make_next.new.desk c.loop.invariant.making c.requires.running (subst (IsMade (opening_in g.L.Log.lines) (keeping_in (setting_of g.L.Log.lines c.loop.desk.opening)) c.loop.desk c.make_next.new.desk) c.if-branch.false c.in_ok-make_next.ensures.made)
