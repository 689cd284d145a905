use Rattle.std.proofs.Common.{ap, ◌∙◌}
use Rattle.ssq_desk.specs.Round.{Owns}
use Rattle.ssq_desk.specs.Whole.{opening_in}
use Rattle.ssq_board.specs.Core.{Core}
use Rattle.ssq_drive.specs.Damaged.{HasDamaged}
use Rattle.ssq_drive.proofs.KeepLemmas.{between_of}
use Rattle.ssq_drive.proofs.Tidying.{all_running, all_upkept, keeps_on, last_keeps, led_by, made_run, tidied_keeps, tidied_run}
use Rattle.ssq_drive.proofs.keep.keep_up.Goals as goal

pub make_due-requires-clause-running : goal.make_due-requires-clause-running
make_due-requires-clause-running g c κs within =
    (between_of c.args.desk.now.scope c.args.desk.now.core c.requires.between).running

-- names are settled
pub tidy-requires-clause-running : goal.tidy-requires-clause-running
tidy-requires-clause-running g c =
    made_run g.L.Log.lines g.D.Disk.faults (HasDamaged g.D.Disk.tells g.L.Log.tells g.D.Disk.history g.L.Log.lines) c.args.desk.now c.make_due.new.desk (between_of c.args.desk.now.scope c.args.desk.now.core c.requires.between) c.in_ok-make_due.ensures.made.0

pub tidy-requires-clause-rest : goal.tidy-requires-clause-rest
tidy-requires-clause-rest g c =
    c.make_due.ensures.kept.driven.rest

pub returns-in_err-tidy-clause-kept : goal.returns-in_err-tidy-clause-kept
returns-in_err-tidy-clause-kept g c =
    keeps_on g.L.Log.lines g.D.Disk.faults (HasDamaged g.D.Disk.tells g.L.Log.tells g.D.Disk.history g.L.Log.lines) c.args.desk.now c.make_due.new.desk c.tidy.new.desk c.make_due.ensures.kept (made_run g.L.Log.lines g.D.Disk.faults (HasDamaged g.D.Disk.tells g.L.Log.tells g.D.Disk.history g.L.Log.lines) c.args.desk.now c.make_due.new.desk (between_of c.args.desk.now.scope c.args.desk.now.core c.requires.between) c.in_ok-make_due.ensures.made.0) c.tidy.ensures.kept

pub returns-in_err-tidy-clause-good : goal.returns-in_err-tidy-clause-good
returns-in_err-tidy-clause-good g c =
    λ t good. c.tidy.ensures.good t (c.make_due.ensures.good t good)

-- files are removed
pub drop_all-requires-clause-running : goal.drop_all-requires-clause-running
drop_all-requires-clause-running g c =
    tidied_run g.L.Log.lines g.D.Disk.faults (HasDamaged g.D.Disk.tells g.L.Log.tells g.D.Disk.history g.L.Log.lines) c.args.desk.now c.make_due.new.desk c.tidy.new.desk (between_of c.args.desk.now.scope c.args.desk.now.core c.requires.between) c.make_due.ensures.kept c.in_ok-make_due.ensures.made c.tidy.ensures.kept c.in_ok-tidy.ensures.tidied

pub drop_all-requires-clause-rest : goal.drop_all-requires-clause-rest
drop_all-requires-clause-rest g c =
    c.tidy.ensures.kept.driven.rest

pub returns-in_err-drop_all-clause-kept : goal.returns-in_err-drop_all-clause-kept
returns-in_err-drop_all-clause-kept g c =
    keeps_on g.L.Log.lines g.D.Disk.faults (HasDamaged g.D.Disk.tells g.L.Log.tells g.D.Disk.history g.L.Log.lines) c.args.desk.now c.tidy.new.desk c.drop_all.new.desk (tidied_keeps g.L.Log.lines g.D.Disk.faults (HasDamaged g.D.Disk.tells g.L.Log.tells g.D.Disk.history g.L.Log.lines) c.args.desk.now c.make_due.new.desk c.tidy.new.desk (between_of c.args.desk.now.scope c.args.desk.now.core c.requires.between) c.make_due.ensures.kept c.in_ok-make_due.ensures.made c.tidy.ensures.kept c.in_ok-tidy.ensures.tidied) (tidied_run g.L.Log.lines g.D.Disk.faults (HasDamaged g.D.Disk.tells g.L.Log.tells g.D.Disk.history g.L.Log.lines) c.args.desk.now c.make_due.new.desk c.tidy.new.desk (between_of c.args.desk.now.scope c.args.desk.now.core c.requires.between) c.make_due.ensures.kept c.in_ok-make_due.ensures.made c.tidy.ensures.kept c.in_ok-tidy.ensures.tidied) c.drop_all.ensures.kept

pub returns-in_err-drop_all-clause-good : goal.returns-in_err-drop_all-clause-good
returns-in_err-drop_all-clause-good g c =
    λ t good. c.drop_all.ensures.good t (c.tidy.ensures.good t (c.make_due.ensures.good t good))

-- and names are settled once more
pub tidy-requires-2-clause-running : goal.tidy-requires-2-clause-running
tidy-requires-2-clause-running g c =
    ap (λ (x : Core). x.front.stop) c.in_ok-drop_all.ensures.cleared.core ∙ tidied_run g.L.Log.lines g.D.Disk.faults (HasDamaged g.D.Disk.tells g.L.Log.tells g.D.Disk.history g.L.Log.lines) c.args.desk.now c.make_due.new.desk c.tidy.new.desk (between_of c.args.desk.now.scope c.args.desk.now.core c.requires.between) c.make_due.ensures.kept c.in_ok-make_due.ensures.made c.tidy.ensures.kept c.in_ok-tidy.ensures.tidied

pub tidy-requires-2-clause-rest : goal.tidy-requires-2-clause-rest
tidy-requires-2-clause-rest g c =
    c.drop_all.ensures.kept.driven.rest

pub returns-clause-kept : goal.returns-clause-kept
returns-clause-kept g c =
    last_keeps g.L.Log.lines g.D.Disk.faults (HasDamaged g.D.Disk.tells g.L.Log.tells g.D.Disk.history g.L.Log.lines) c.args.desk.now c.make_due.new.desk c.tidy.new.desk (between_of c.args.desk.now.scope c.args.desk.now.core c.requires.between) c.make_due.ensures.kept c.in_ok-make_due.ensures.made c.tidy.ensures.kept c.in_ok-tidy.ensures.tidied c.drop_all.new.desk c.tidy-2.new.desk c.drop_all.ensures.kept c.in_ok-drop_all.ensures.cleared c.tidy-2.ensures.kept

pub returns-clause-good : goal.returns-clause-good
returns-clause-good g c =
    λ t good. c.tidy-2.ensures.good t (c.drop_all.ensures.good t (c.tidy.ensures.good t (c.make_due.ensures.good t good)))

pub returns-clause-done : goal.returns-clause-done
returns-clause-done g c =
    all_upkept g.L.Log.lines g.D.Disk.faults (HasDamaged g.D.Disk.tells g.L.Log.tells g.D.Disk.history g.L.Log.lines) c.args.desk.now c.make_due.new.desk c.tidy.new.desk (between_of c.args.desk.now.scope c.args.desk.now.core c.requires.between) c.make_due.ensures.kept c.in_ok-make_due.ensures.made c.tidy.ensures.kept c.in_ok-tidy.ensures.tidied c.drop_all.new.desk c.tidy-2.new.desk c.drop_all.ensures.kept c.in_ok-drop_all.ensures.cleared c.tidy-2.ensures.kept (led_by (Owns g.D.Disk.tells g.L.Log.tells g.D.Disk.history g.L.Log.lines c.args.desk.now) g.D.Disk.history (opening_in g.L.Log.lines) c.args.desk.now c.is_legal.ensures) c.tidy-2.result c.tidy-2.ensures.tidied

pub returns-clause-running : goal.returns-clause-running
returns-clause-running g c =
    all_running g.L.Log.lines g.D.Disk.faults (HasDamaged g.D.Disk.tells g.L.Log.tells g.D.Disk.history g.L.Log.lines) c.args.desk.now c.make_due.new.desk c.tidy.new.desk (between_of c.args.desk.now.scope c.args.desk.now.core c.requires.between) c.make_due.ensures.kept c.in_ok-make_due.ensures.made c.tidy.ensures.kept c.in_ok-tidy.ensures.tidied c.drop_all.new.desk c.tidy-2.new.desk c.drop_all.ensures.kept c.in_ok-drop_all.ensures.cleared c.tidy-2.ensures.kept c.tidy-2.result c.tidy-2.ensures.tidied
