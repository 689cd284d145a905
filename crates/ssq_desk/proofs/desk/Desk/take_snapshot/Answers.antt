use Rattle.std.proofs.Common.{◌≡◌, sym, subst}
use Rattle.ssq_outside.specs.declared.name.Name.TheVariants as name
use Rattle.ssq_outside.specs.Faults.{Rises}
use Rattle.ssq_core.specs.Course.{truth}
use Rattle.ssq_course.specs.Setting.{course_of}
use Rattle.ssq_ledger.specs.Shown.{Shown, cuts_of}
use Rattle.ssq_desk.specs.declared.round.Round.{Round}
use Rattle.ssq_desk.specs.Round.{Owns, setting_of}
use Rattle.ssq_desk.specs.Whole.{opening_in}
use Rattle.ssq_desk.proofs.Entries.{after_taken}
use Rattle.ssq_desk.proofs.desk.Desk.take_snapshot.Goals as goal

pub report_snapshot-requires-clause-right : goal.report_snapshot-requires-clause-right
report_snapshot-requires-clause-right g c =
    subst (λ (x : Shown g.row.D.Denot (Round g.row.L.Denot)). Owns g.D.Disk.tells g.L.Log.tells g.D.Disk.history g.L.Log.lines x → g.D.Stage.Stage.sealed c.args.file ≡ truth (course_of (setting_of g.L.Log.lines x.opening) (cuts_of (opening_in g.L.Log.lines) x)) (name.Snapshot c.args.partition c.args.version))
    (sym c.self.view_is) c.requires.right

pub invariant_of-self : goal.invariant_of-self
invariant_of-self g c =
    let s = c.self.inside in
    after_taken g.D.Disk.tells g.L.Log.tells g.D.Disk.history g.L.Log.lines g.L.Log.available g.L.Log.answers g.L.Log.faults g.D.Stage.Stage.written g.D.Stage.Stage.sealed s.ledger s.load c.self.invariant c.report_snapshot.new.self
    (Rises (g.D.Disk.faults s.ledger.disk) (g.D.Disk.faults c.report_snapshot.new.self.disk)) c.args.partition c.args.version c.report_snapshot.result c.report_snapshot.ensures.did
