use Rattle.std.proofs.Common.{sym, subst}
use Rattle.ssq_board.specs.declared.front.Entry.TheVariants as entry
use Rattle.ssq_board.specs.Core.{May}
use Rattle.ssq_ledger.specs.Shown.{Shown}
use Rattle.ssq_desk.specs.declared.round.Round.{Round}
use Rattle.ssq_desk.specs.Published.{AreRowsOf, IsCommitOf}
use Rattle.ssq_desk.proofs.Publishing.{after_rows}
use Rattle.ssq_desk.proofs.desk.Desk.publish_rows.Goals as goal

pub publish_rows-requires-clause-right : goal.publish_rows-requires-clause-right
publish_rows-requires-clause-right g c =
    subst (λ (x : Shown g.row.D.Denot (Round g.row.L.Denot)). AreRowsOf g.D.Disk.tells g.L.Log.tells g.D.Disk.history g.L.Log.lines g.D.Stage.Stage.sealed x c.args.rows) (sym c.self.view_is) c.requires.rows

pub invariant_of-self : goal.invariant_of-self
invariant_of-self g c =
    let m = subst (λ (x : Shown g.row.D.Denot (Round g.row.L.Denot)). May x.scope x.core (entry.OutFile x.core.front.committed)) (sym c.self.view_is) c.requires.may in
    let is = subst (λ (x : Shown g.row.D.Denot (Round g.row.L.Denot)). IsCommitOf g.D.Disk.tells g.L.Log.tells g.D.Disk.history g.L.Log.lines g.D.Stage.Stage.sealed x c.args.pending) (sym c.self.view_is) c.requires.commit in
    after_rows _ _ _ _ _ _ _ _ _ c.self.inside.ledger c.self.inside.load c.self.invariant c.publish_rows.new.self c.publish_rows.result _ c.args.pending m is c.publish_rows.ensures.done c.publish_rows.ensures.stopped
