use Rattle.std.proofs.Common.{ap, sym, subst, ◌∙◌}
use Rattle.std.specs.Prelude.{IfSome}
use Rattle.ssq_shape.specs.Evaluation.{cell_at, time_in}
use Rattle.ssq_meaning.specs.Join.{event_column}
use Rattle.ssq_step.specs.Rows.{HasEventTime}
use Rattle.ssq_step.proofs.RowTimes.{HasTimeIn, has_event_time, no_event, no_event_time, parts_as}
use Rattle.ssq_step.proofs.rows.event_time.Goals as goal

pub returns : goal.returns
returns c =
    let own = c.in_ok-left.field-0 in
    let time = c.time_at.result in
    has_event_time c.args.bound.now c.args.joining.now c.args.key.now c.args.value.now c.in_ok-limits.limits own.left own.met own.values.now time c.in_ok-limits.was
    (parts_as c.args.key.now c.args.value.now c.as_slice.result.now c.as_slice-2.result.now own.left own.values.now own.met c.as_slice.ensures c.as_slice-2.ensures c.in_ok-left.ensures.found)
    (subst (λ n. IfSome time (HasTimeIn own.values.now n (event_column own.left c.in_ok-limits.limits))) c.width_of.ensures (subst (λ column. IfSome time (HasTimeIn own.values.now c.width_of.result column)) c.event_column.ensures c.time_at.ensures.found))
    (λ values fit many is. c.time_at.ensures.each values fit (many ∙ sym c.width_of.ensures) is ∙ ap (λ column. time_in (cell_at values column)) c.event_column.ensures)
    (λ left values met is.
    c.in_ok-left.ensures.each left values met (parts_as c.as_slice.result.now c.as_slice-2.result.now c.args.key.now c.args.value.now left values met (sym c.as_slice.ensures) (sym c.as_slice-2.ensures) is))

pub returns-in_err-limits : goal.returns-in_err-limits
returns-in_err-limits c = subst (HasEventTime c.args.bound.now c.args.joining.now c.args.key.now c.args.value.now) (sym c.from_residual.ensures) (no_event_time c.args.bound.now c.args.joining.now c.args.key.now c.args.value.now c.in_err-limits.was)

pub returns-in_err-left : goal.returns-in_err-left
returns-in_err-left c =
    subst (HasEventTime c.args.bound.now c.args.joining.now c.args.key.now c.args.value.now) (sym c.from_residual-in_err-left.ensures)
    (no_event c.args.bound.now c.args.joining.now c.args.key.now c.args.value.now (λ left values met is.
    c.in_err-left.ensures.each left values met (parts_as c.as_slice.result.now c.as_slice-2.result.now c.args.key.now c.args.value.now left values met (sym c.as_slice.ensures) (sym c.as_slice-2.ensures) is)))
