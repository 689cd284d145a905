use Rattle.std.proofs.lemmas.Result.{err_from_is_err_and}
use Rattle.ssq_open.proofs.Planning.{planned_to, planned_next}
use Rattle.ssq_open.proofs.InOrder.{plans_next}
use Rattle.ssq_open.proofs.plans.advance.Goals as goal

pub returns-in_err-plan-clause-refused : goal.returns-in_err-plan-clause-refused
returns-in_err-plan-clause-refused g c = λ tells planned.
    let p = err_from_is_err_and c.from_residual.result c.from_residual.ensures.1 in
    rw (p.1, p.2) (c.in_err-plan.ensures.refused tells c.args.first.now
    (rw (c.last_ends.ensures, c.as_slice.ensures) (planned_to _ c.args.first.now c.args.plans.now c.args.epoch c.requires planned)))

pub returns-clause-planned : goal.returns-clause-planned
returns-clause-planned g c = λ tells planned.
    rw c.in_ok-push.ensures.ok (planned_next _ c.args.first.now c.args.plans.now c.args.epoch c.in_ok-plan.plan c.requires planned (c.in_ok-plan.ensures.plan tells)
    (rw (c.last_ends.ensures, c.as_slice.ensures) at c.in_ok-plan.ensures.next))

pub returns-clause-in_order : goal.returns-clause-in_order
returns-clause-in_order g c = λ order.
    rw c.in_ok-push.ensures.ok (plans_next c.args.first.now c.args.plans.now c.args.epoch c.in_ok-plan.plan c.requires order
    (rw (c.last_ends.ensures, c.as_slice.ensures) at c.in_ok-plan.ensures.next) c.in_ok-plan.ensures.in_range)
