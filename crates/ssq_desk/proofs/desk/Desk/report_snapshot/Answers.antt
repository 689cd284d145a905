use Rattle.std.proofs.Common.{Result, sym, subst}
use Rattle.std.specs.Prelude.{IfErr}
use Rattle.ssq_course.specs.Setting.{course_of}
use Rattle.ssq_board.specs.declared.front.Cause.{Cause}
use Rattle.ssq_ledger.specs.Shown.{cuts_of}
use Rattle.ssq_desk.specs.Round.{Owns, setting_of}
use Rattle.ssq_desk.specs.Upkeep.{FailsFor, IsMalformed}
use Rattle.ssq_desk.specs.Whole.{opening_in}
use Rattle.ssq_desk.proofs.Upkeeps.{malformed, never_malformed, snapshot_right, taken_fails}
use Rattle.ssq_desk.proofs.desk.Desk.report_snapshot.Goals as goal

pub take_snapshot-requires-clause-right : goal.take_snapshot-requires-clause-right
take_snapshot-requires-clause-right g c =
    let s = c.args.self.now in
    snapshot_right (Owns g.D.Disk.tells g.L.Log.tells g.D.Disk.history g.L.Log.lines s) g.D.Stage.Stage.tells g.D.Stage.Stage.written g.D.Stage.Stage.sealed g.D.Stage.Stage.faults (course_of (setting_of g.L.Log.lines s.opening) (cuts_of (opening_in g.L.Log.lines) s))
    c.requires.of.0 c.args.done c.requires.of.1 c.requires.of.2 c.numbers_fit.ensures.partition c.numbers_fit.ensures.version c.loading_is_exact.ensures.one (λ t. g.met.D.Disk.stages_tell t.0) c.in-Ok.file c.in-Ok.is

pub take_unmade-requires-clause-never : goal.take_unmade-requires-clause-never
take_unmade-requires-clause-never g c =
    let s = c.args.self.now in
    never_malformed (Owns g.D.Disk.tells g.L.Log.tells g.D.Disk.history g.L.Log.lines s) g.D.Stage.Stage.tells g.D.Stage.Stage.written g.D.Stage.Stage.sealed g.D.Stage.Stage.faults (course_of (setting_of g.L.Log.lines s.opening) (cuts_of (opening_in g.L.Log.lines) s))
    c.requires.of.0 c.args.done c.requires.of.1 c.requires.of.2 c.numbers_fit.ensures.partition c.numbers_fit.ensures.version c.loading_is_exact.ensures.sound c.in-Err.stage c.in-Err.fault c.in-Err.is

pub returns-in-Ok-clause-cause : goal.returns-in-Ok-clause-cause
returns-in-Ok-clause-cause g c task of is =
    let s = c.args.self.now in
    let n = c.take_snapshot.new.self in
    taken_fails s n c.args.done.partition c.args.done.version c.take_snapshot.result (IsMalformed (Owns g.D.Disk.tells g.L.Log.tells g.D.Disk.history g.L.Log.lines s) task.files.items task.partition task.version) (g.D.Disk.faults s.disk) (g.D.Disk.faults n.disk) c.take_snapshot.ensures.taken

pub returns-in-Err-clause-cause : goal.returns-in-Err-clause-cause
returns-in-Err-clause-cause g c task of is =
    let s = c.args.self.now in
    let n = c.take_unmade.new.self in
    subst (λ (r : Result (Unit {0}) Cause). IfErr r (FailsFor (IsMalformed (Owns g.D.Disk.tells g.L.Log.tells g.D.Disk.history g.L.Log.lines s) task.files.items task.partition task.version) (g.D.Disk.faults s.disk) (g.D.Disk.faults n.disk))) (sym c.take_unmade.ensures.answer)
    (malformed (Owns g.D.Disk.tells g.L.Log.tells g.D.Disk.history g.L.Log.lines s) g.D.Stage.Stage.tells g.D.Stage.Stage.written g.D.Stage.Stage.sealed g.D.Stage.Stage.faults (course_of (setting_of g.L.Log.lines s.opening) (cuts_of (opening_in g.L.Log.lines) s))
    task c.args.done of is c.numbers_fit.ensures.partition c.numbers_fit.ensures.version c.loading_is_exact.ensures.sound c.in-Err.stage c.in-Err.fault c.in-Err.is (g.D.Disk.faults s.disk) (g.D.Disk.faults n.disk) c.take_unmade.ensures.risen)
