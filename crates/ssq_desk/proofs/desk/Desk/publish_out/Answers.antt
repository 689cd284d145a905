use Rattle.std.proofs.Common.{sym, subst}
use Rattle.std.specs.Prelude.{IfErr}
use Rattle.ssq_task.specs.Gathering.{GatherCause}
use Rattle.ssq_ledger.specs.Shown.{Shown}
use Rattle.ssq_desk.specs.declared.round.Round.{Round}
use Rattle.ssq_desk.specs.Handed.{IsOutOf}
use Rattle.ssq_desk.specs.Published.{AreRowsOf, IsCommitOf}
use Rattle.ssq_desk.proofs.Publishing.{rows_right, commit_right, seal_cause}
use Rattle.ssq_desk.proofs.desk.Desk.publish_out.Goals as goal

pub take_files-requires-clause-rows : goal.take_files-requires-clause-rows
take_files-requires-clause-rows g c =
    let s = c.self.inside in
    let of = subst (λ (x : Shown g.row.D.Denot (Round g.row.L.Denot)). IsOutOf g.D.Disk.tells g.L.Log.tells g.D.Disk.history g.L.Log.lines g.D.Stage.Stage.written x c.requires.of.0) (sym c.self.view_is) c.requires.of.1 in
    subst (λ (file : g.row.D-Stage-Sealed.Denot). AreRowsOf g.D.Disk.tells g.L.Log.tells g.D.Disk.history g.L.Log.lines g.D.Stage.Stage.sealed c.args.self.now file) (sym c.apart-rows.ensures.rows)
    (subst (λ (x : Shown g.row.D.Denot (Round g.row.L.Denot)). AreRowsOf g.D.Disk.tells g.L.Log.tells g.D.Disk.history g.L.Log.lines g.D.Stage.Stage.sealed x c.in-Ok.files.rows) c.self.view_is
    (rows_right _ _ _ _ _ _ _ _ _ s.ledger s.load c.self.invariant c.tasks_bring_the_epoch.ensures.shown g.D.Stage.Stage.tells (λ t. g.met.D.Disk.stages_tell t.0) g.D.Stage.Stage.faults c.requires.of.0 c.args.done of c.requires.of.2 c.in-Ok.files c.in-Ok.is))

pub take_files-requires-clause-commit : goal.take_files-requires-clause-commit
take_files-requires-clause-commit g c =
    let s = c.self.inside in
    let of = subst (λ (x : Shown g.row.D.Denot (Round g.row.L.Denot)). IsOutOf g.D.Disk.tells g.L.Log.tells g.D.Disk.history g.L.Log.lines g.D.Stage.Stage.written x c.requires.of.0) (sym c.self.view_is) c.requires.of.1 in
    subst (λ p. IsCommitOf g.D.Disk.tells g.L.Log.tells g.D.Disk.history g.L.Log.lines g.D.Stage.Stage.sealed c.args.self.now p) (sym c.apart-rows.ensures.commit)
    (subst (λ (x : Shown g.row.D.Denot (Round g.row.L.Denot)). IsCommitOf g.D.Disk.tells g.L.Log.tells g.D.Disk.history g.L.Log.lines g.D.Stage.Stage.sealed x (record { commit = c.in-Ok.files.commit; seen = c.args.done.seen; count = c.in-Ok.files.count })) c.self.view_is
    (commit_right _ _ _ _ _ _ _ _ _ s.ledger s.load c.self.invariant c.tasks_bring_the_epoch.ensures.counted g.D.Stage.Stage.tells (λ t. g.met.D.Disk.stages_tell t.0) g.D.Stage.Stage.faults c.requires.of.0 c.args.done of c.requires.of.2 c.in-Ok.files c.in-Ok.is))

pub take_left-requires-clause-cause : goal.take_left-requires-clause-cause
take_left-requires-clause-cause g c is =
    let has = subst (λ o. IfErr o (λ failed. GatherCause g.D.Stage.Stage.faults failed.0 c.requires.of.0.stages failed.1)) c.in-Err.is c.requires.of.2.cause in
    (c.requires.of.0.stages, seal_cause g.D.Stage.Stage.faults c.in-Err.fault c.requires.of.0.stages c.in-Err.left has is)
