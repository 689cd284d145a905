use Rattle.std.proofs.Common.{◌≤◌, Some, length, sym, ap, ◌∙◌, subst}
use Rattle.ssq_outside.specs.Faults.{Rises}
use Rattle.ssq_board.specs.Core.{due}
use Rattle.ssq_ledger.specs.Shown.{Shown, answer}
use Rattle.ssq_desk.specs.declared.round.Round.{Round}
use Rattle.ssq_desk.specs.Tasks.{out_id}
use Rattle.ssq_desk.specs.Whole.{IsWhole}
use Rattle.ssq_desk.proofs.Publishing.{left_risen}
use Rattle.ssq_desk.proofs.Wholes.{still_whole}
use Rattle.ssq_desk.proofs.desk.Desk.take_left.Goals as goal

pub invariant_of-self : goal.invariant_of-self
invariant_of-self g c =
    let s = c.self.inside in
    subst (λ (x : Shown g.row.D.Denot (Round g.row.L.Denot)). IsWhole g.D.Disk.tells g.L.Log.tells g.D.Disk.history g.L.Log.lines g.L.Log.available g.L.Log.answers g.L.Log.faults g.D.Stage.Stage.written g.D.Stage.Stage.sealed x s.load) (sym c.discard.ensures.did)
    (still_whole _ _ _ _ _ _ _ _ _ s.ledger s.load c.self.invariant c.discard.new.ledger.disk)

pub returns-clause-cause : goal.returns-clause-cause
returns-clause-cause g c =
    let mid = c.discard.new.ledger in
    let few = subst (λ (x : Shown g.row.D.Denot (Round g.row.L.Denot)). length x.core.outs ≤ 1) (sym c.discard.ensures.did) c.is_in_order.ensures.sound.outs in
    let answered = c.report_out.ensures.answer ∙ ap (λ f. answer (due mid.core (out_id c.args.epoch) (Some f))) c.cause_of_gather.ensures in
    left_risen mid.core c.args.epoch c.args.fault c.report_out.result _ _ few answered
    (λ is. (let h = c.requires.cause is in
    subst (λ (x : Shown g.row.D.Denot (Round g.row.L.Denot)). Rises (g.D.Disk.faults c.args.self.now.disk) (g.D.Disk.faults x.disk)) (sym c.report_out.ensures.did)
    (subst (λ (x : Shown g.row.D.Denot (Round g.row.L.Denot)). Rises (g.D.Disk.faults x.disk) (g.D.Disk.faults mid.disk)) c.self.view_is (c.discard.ensures.cause h.0 h.1))))
