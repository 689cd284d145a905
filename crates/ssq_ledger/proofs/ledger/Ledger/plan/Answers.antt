use Rattle.std.proofs.Common.{◌≡◌, ◌<◌, ◌∙◌, [], ◌∷◌, sym, ap, subst, arith}
use Rattle.ssq_plans.specs.Records.{plan_text}
use Rattle.ssq_board.specs.declared.front.Entry.TheVariants as entry
use Rattle.ssq_board.specs.Core.{after, next_ends}
use Rattle.ssq_board.proofs.Readies.{plan_may}
use Rattle.ssq_ledger.specs.Shown.{Shown, IsNoPlan, cuts_of, did, TellsPlans}
use Rattle.ssq_ledger.proofs.Planning.{no_plan_is, no_plan_may, plan_runs, plan_true}
use Rattle.ssq_ledger.proofs.ledger.Ledger.plan.Goals as goal

pub publish_plan-requires-clause-may : goal.publish_plan-requires-clause-may
publish_plan-requires-clause-may g c =
    let x = c.args.self.now in
    let few : x.core.front.planned < 4294967295 = subst (λ (y : Shown g.row.D.Denot g.row.O.Denot). y.core.front.planned < 4294967295) c.self.view_is c.in-Ok.ensures.few in
    plan_may x.scope x.core c.requires.ready few

pub publish_plan-requires-clause-right : goal.publish_plan-requires-clause-right
publish_plan-requires-clause-right g c = (λ t.
    let x = c.args.self.now in
    let text = subst (λ (y : Shown g.row.D.Denot g.row.O.Denot). c.in-Ok.next.text ≡ plan_text (record { epoch = y.core.front.planned; watermark = c.args.watermark; ends = next_ends y.scope.cap y.core.ends y.scope.available })) c.self.view_is c.in-Ok.ensures.text in
    let plans = subst (λ (y : Shown g.row.D.Denot g.row.O.Denot). TellsPlans (g.O.Opening.opening y.opening).job) c.self.view_is c.self.invariant.0.plans in
    text ∙ plan_true (g.O.Opening.opening x.opening).job x.scope x.core (cuts_of g.O.Opening.opening x) c.args.watermark plans (c.requires.right t))

pub publish_plan-requires-clause-board : goal.publish_plan-requires-clause-board
publish_plan-requires-clause-board g c =
    subst (λ (y : Shown g.row.D.Denot g.row.O.Denot). c.in-Ok.next.board ≡ after y.scope y.core (entry.Plan y.core.front.planned)) c.self.view_is c.in-Ok.ensures.board

pub stop-requires-clause-running : goal.stop-requires-clause-running
stop-requires-clause-running g c = plan_runs c.args.self.now.scope c.args.self.now.core c.requires.ready

pub stop-requires-clause-cause : goal.stop-requires-clause-cause
stop-requires-clause-cause g c =
    let x = c.args.self.now in
    no_plan_may x.scope x.core c.in-Err.cause c.requires.ready (subst (λ (y : Shown g.row.D.Denot g.row.O.Denot). IsNoPlan y.core.front.planned c.in-Err.cause) c.self.view_is c.in-Err.ensures.cause)

pub returns-in-Err-clause-stopped : goal.returns-in-Err-clause-stopped
returns-in-Err-clause-stopped g c =
    let x = c.args.self.now in
    let now = c.stop.new.self in
    let f = c.in-Err.cause in
    let disk = ap (λ (y : Shown g.row.D.Denot g.row.O.Denot). y.disk) c.stop.ensures in (
      c.stop.ensures ∙ ap (λ d. did x d (entry.Stop f ∷ [])) (sym disk),
      no_plan_is x.core.front.planned (g.D.Disk.faults x.disk) (g.D.Disk.faults now.disk) f (subst (λ (y : Shown g.row.D.Denot g.row.O.Denot). IsNoPlan y.core.front.planned f) c.self.view_is c.in-Err.ensures.cause),
    )

pub returns-in-Ok-clause-full : goal.returns-in-Ok-clause-full
returns-in-Ok-clause-full g c = λ full. (
    let few : c.args.self.now.core.front.planned < 4294967295 = subst (λ (y : Shown g.row.D.Denot g.row.O.Denot). y.core.front.planned < 4294967295) c.self.view_is c.in-Ok.ensures.few in
    absurd (omega (arith, few, full)))
