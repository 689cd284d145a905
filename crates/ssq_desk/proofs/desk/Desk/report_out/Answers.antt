use Rattle.std.proofs.Common.{sym, subst}
use Rattle.std.specs.Prelude.{IfSome}
use Rattle.ssq_board.specs.declared.front.Entry.TheVariants as entry
use Rattle.ssq_board.specs.Core.{May, HasCause}
use Rattle.ssq_ledger.specs.Shown.{Shown}
use Rattle.ssq_desk.specs.declared.round.Round.{Round}
use Rattle.ssq_desk.specs.Tasks.{out_id}
use Rattle.ssq_desk.specs.Whole.{IsWhole}
use Rattle.ssq_desk.proofs.Publishing.{out_back}
use Rattle.ssq_desk.proofs.desk.Desk.report_out.Goals as goal

pub invariant_of-self : goal.invariant_of-self
invariant_of-self g c =
    let s = c.self.inside in
    let m = subst (λ (x : Shown g.row.D.Denot (Round g.row.L.Denot)). May x.scope x.core (entry.Report (out_id c.args.epoch) c.args.fault)) (sym c.self.view_is) c.requires.may in
    let has = subst (λ (x : Shown g.row.D.Denot (Round g.row.L.Denot)). IfSome c.args.fault (HasCause x.scope x.core)) (sym c.self.view_is) c.requires.cause in
    subst (λ (x : Shown g.row.D.Denot (Round g.row.L.Denot)). IsWhole g.D.Disk.tells g.L.Log.tells g.D.Disk.history g.L.Log.lines g.L.Log.available g.L.Log.answers g.L.Log.faults g.D.Stage.Stage.written g.D.Stage.Stage.sealed x s.load) (sym c.report.ensures.did)
    (out_back _ _ _ _ _ _ _ _ _ s.ledger s.load c.self.invariant c.is_in_order.ensures s.ledger.disk c.args.epoch c.args.fault m has)
