use Rattle.std.proofs.Common.{Bool, Ok, refl, subst}
use Rattle.ssq_outside.specs.Faults.{Rises}
use Rattle.ssq_shape.specs.Late.{closes}
use Rattle.ssq_ledger.specs.Upkept.{IsDropped}
use Rattle.ssq_desk.specs.Contents.{keeping_in}
use Rattle.ssq_desk.specs.Round.{setting_of}
use Rattle.ssq_desk.specs.Whole.{opening_in}
use Rattle.ssq_drive.specs.Damaged.{HasDamaged}
use Rattle.ssq_drive.proofs.Ending.{on_err}
use Rattle.ssq_drive.proofs.KeepLemmas.{keeps_still, none_cleared}
use Rattle.ssq_drive.proofs.Tidying.{dropping_ends, dropping_fails, dropping_good, dropping_less, dropping_on, dropping_runs, dropping_same, dropping_still}
use Rattle.ssq_drive.proofs.keep.drop_all.Goals as goal

pub loop-init : goal.loop-init
loop-init g c =
    record { dropping = record { kept = keeps_still g.D.Disk.faults (HasDamaged g.D.Disk.tells g.L.Log.tells g.D.Disk.history g.L.Log.lines) (closes c.args.desk.now.opening.view.bound.now) c.args.desk.now c.args.desk.now refl c.requires.rest; clearing = none_cleared (opening_in g.L.Log.lines) (keeping_in (setting_of g.L.Log.lines c.args.desk.now.opening)) c.args.desk.now }; good = λ t good. good }

pub drop_old-requires : goal.drop_old-requires
drop_old-requires g c =
    dropping_runs g.L.Log.lines g.D.Disk.faults (HasDamaged g.D.Disk.tells g.L.Log.tells g.D.Disk.history g.L.Log.lines) c.args.desk.now c.loop.desk c.loop.invariant.dropping c.requires.running

pub loop-preserved : goal.loop-preserved
loop-preserved g c =
    record { dropping = dropping_on g.L.Log.lines g.D.Disk.faults (HasDamaged g.D.Disk.tells g.L.Log.tells g.D.Disk.history g.L.Log.lines) c.args.desk.now c.loop.desk c.drop_old.new.self c.loop.invariant.dropping c.requires.running c.drop_old.ensures.counted (subst (λ (b : Bool). IsDropped (opening_in g.L.Log.lines) c.loop.desk c.drop_old.new.self (Ok b) (Rises (g.D.Disk.faults c.loop.desk.disk) (g.D.Disk.faults c.drop_old.new.self.disk))) c.if-branch.true c.in_ok-drop_old.ensures.did); good = λ t good. dropping_good g.L.Log.lines g.D.Disk.faults (HasDamaged g.D.Disk.tells g.L.Log.tells g.D.Disk.history g.L.Log.lines) c.args.desk.now c.loop.desk c.drop_old.new.self c.loop.invariant.dropping c.requires.running c.drop_old.ensures.counted (subst (λ (b : Bool). IsDropped (opening_in g.L.Log.lines) c.loop.desk c.drop_old.new.self (Ok b) (Rises (g.D.Disk.faults c.loop.desk.disk) (g.D.Disk.faults c.drop_old.new.self.disk))) c.if-branch.true c.in_ok-drop_old.ensures.did) (c.loop.invariant.good t good) }

pub loop-smaller : goal.loop-smaller
loop-smaller g c =
    dropping_less g.L.Log.lines g.D.Disk.faults (HasDamaged g.D.Disk.tells g.L.Log.tells g.D.Disk.history g.L.Log.lines) c.args.desk.now c.loop.desk c.drop_old.new.self c.loop.invariant.dropping c.requires.running c.drop_old.ensures.counted (subst (λ (b : Bool). IsDropped (opening_in g.L.Log.lines) c.loop.desk c.drop_old.new.self (Ok b) (Rises (g.D.Disk.faults c.loop.desk.disk) (g.D.Disk.faults c.drop_old.new.self.disk))) c.if-branch.true c.in_ok-drop_old.ensures.did)

pub returns-in_err-drop_old-clause-kept : goal.returns-in_err-drop_old-clause-kept
returns-in_err-drop_old-clause-kept g c =
    (dropping_fails g.L.Log.lines g.D.Disk.faults (HasDamaged g.D.Disk.tells g.L.Log.tells g.D.Disk.history g.L.Log.lines) c.args.desk.now c.loop.desk c.drop_old.new.self c.loop.invariant.dropping c.requires.running c.drop_old.ensures.counted c.in_err-drop_old.field-0.0 c.in_err-drop_old.ensures.did).0

pub returns-in_err-drop_old-clause-good : goal.returns-in_err-drop_old-clause-good
returns-in_err-drop_old-clause-good g c =
    λ t good. (dropping_fails g.L.Log.lines g.D.Disk.faults (HasDamaged g.D.Disk.tells g.L.Log.tells g.D.Disk.history g.L.Log.lines) c.args.desk.now c.loop.desk c.drop_old.new.self c.loop.invariant.dropping c.requires.running c.drop_old.ensures.counted c.in_err-drop_old.field-0.0 c.in_err-drop_old.ensures.did).2 (c.loop.invariant.good t good)

pub returns-in_err-drop_old-clause-stopped : goal.returns-in_err-drop_old-clause-stopped
returns-in_err-drop_old-clause-stopped g c =
    on_err c.from_residual.result (dropping_fails g.L.Log.lines g.D.Disk.faults (HasDamaged g.D.Disk.tells g.L.Log.tells g.D.Disk.history g.L.Log.lines) c.args.desk.now c.loop.desk c.drop_old.new.self c.loop.invariant.dropping c.requires.running c.drop_old.ensures.counted c.in_err-drop_old.field-0.0 c.in_err-drop_old.ensures.did).1

pub returns-clause-kept : goal.returns-clause-kept
returns-clause-kept g c =
    dropping_still g.L.Log.lines g.D.Disk.faults (HasDamaged g.D.Disk.tells g.L.Log.tells g.D.Disk.history g.L.Log.lines) c.args.desk.now c.loop.desk c.drop_old.new.self c.loop.invariant.dropping c.requires.running c.drop_old.ensures.counted (subst (λ (b : Bool). IsDropped (opening_in g.L.Log.lines) c.loop.desk c.drop_old.new.self (Ok b) (Rises (g.D.Disk.faults c.loop.desk.disk) (g.D.Disk.faults c.drop_old.new.self.disk))) c.if-branch.false c.in_ok-drop_old.ensures.did)

pub returns-clause-good : goal.returns-clause-good
returns-clause-good g c =
    λ t good. dropping_same g.L.Log.lines g.D.Disk.faults (HasDamaged g.D.Disk.tells g.L.Log.tells g.D.Disk.history g.L.Log.lines) c.args.desk.now c.loop.desk c.drop_old.new.self c.loop.invariant.dropping c.requires.running c.drop_old.ensures.counted (subst (λ (b : Bool). IsDropped (opening_in g.L.Log.lines) c.loop.desk c.drop_old.new.self (Ok b) (Rises (g.D.Disk.faults c.loop.desk.disk) (g.D.Disk.faults c.drop_old.new.self.disk))) c.if-branch.false c.in_ok-drop_old.ensures.did) (c.loop.invariant.good t good)

pub returns-clause-cleared : goal.returns-clause-cleared
returns-clause-cleared g c =
    dropping_ends g.L.Log.lines g.D.Disk.faults (HasDamaged g.D.Disk.tells g.L.Log.tells g.D.Disk.history g.L.Log.lines) c.args.desk.now c.loop.desk c.drop_old.new.self c.loop.invariant.dropping c.requires.running c.drop_old.ensures.counted (subst (λ (b : Bool). IsDropped (opening_in g.L.Log.lines) c.loop.desk c.drop_old.new.self (Ok b) (Rises (g.D.Disk.faults c.loop.desk.disk) (g.D.Disk.faults c.drop_old.new.self.disk))) c.if-branch.false c.in_ok-drop_old.ensures.did)
