use Rattle.std.proofs.Common.{sym, subst, ◌∙◌}
use Rattle.ssq_step.specs.Rows.{HasTime}
use Rattle.ssq_step.proofs.RowTimes.{no_time, row_has_time}
use Rattle.ssq_step.proofs.rows.row_time.Goals as goal

pub returns : goal.returns
returns c =
    row_has_time c.args.bound.now c.args.joining.now c.args.key.now c.args.value.now c.in_ok-left.left (λ l rest is. c.in_ok-left.ensures.each l rest (c.as_slice.ensures ∙ is)) c.event_time-time.result c.last_time.result
    c.event_time-time.ensures c.last_time.ensures.found c.last_time.ensures.each

pub returns-in_err-left : goal.returns-in_err-left
returns-in_err-left c =
    subst (HasTime c.args.bound.now c.args.joining.now c.args.key.now c.args.value.now) (sym c.from_residual.ensures)
    (no_time c.args.bound.now c.args.joining.now c.args.key.now c.args.value.now (λ left rest is. c.in_err-left.ensures.each left rest (c.as_slice.ensures ∙ is)))
