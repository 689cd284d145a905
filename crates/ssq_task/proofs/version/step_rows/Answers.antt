use Rattle.std.proofs.Common.{◌≡◌, ◌∙◌, List, sym, subst, IfOk, IfErr}
use Rattle.std.specs.Prelude.{All, not}
use Rattle.std.proofs.lemmas.List.Elements.{All-filter}
use Rattle.ssq_meaning.specs.FedRows.{FedRow}
use Rattle.ssq_meaning.specs.Epochs.{timely}
use Rattle.ssq_meaning.specs.Fit.{IsFitRow}
use Rattle.ssq_meaning.specs.Operator.{operator_of}
use Rattle.ssq_meaning.specs.Times.{is_past}
use Rattle.ssq_step.specs.Steps.{IsCause, IsStep}
use Rattle.ssq_task.specs.Lists.{joined_vecs}
use Rattle.ssq_task.specs.Stepping.{CanStep}
use Rattle.ssq_task.proofs.Keeping.{timely_is}
use Rattle.ssq_task.proofs.version.step_rows.Goals as goal

pub step_operator-requires : goal.step_operator-requires
step_operator-requires c =
    subst (λ (rows : List FedRow). All IsFitRow rows) (sym (c.as_slice.ensures.value ∙ c.in_ok-rows.ensures))
    (All-filter (λ row. not (is_past c.args.watermark row.time)) IsFitRow (joined_vecs c.args.parts.items) c.requires)

pub returns-clause-stepped : goal.returns-clause-stepped
returns-clause-stepped c old before can =
    let query = c.args.bound.now in
    let held = c.args.held.now in
    let rows = joined_vecs c.args.parts.items in
    let new : c.as_slice.result.now ≡ timely query c.args.watermark rows =
    c.as_slice.ensures.value ∙ c.in_ok-rows.ensures ∙ timely_is query held.store.state held.closing old (timely query c.args.watermark rows) before c.args.watermark can rows in
    subst (λ (new : List FedRow). CanStep query held.store.state held.closing old new before c.args.watermark → IfOk c.step_operator.result (IsStep (operator_of query) held.store.state old new before c.args.watermark)) new
    (c.step_operator.ensures.stepped old before) can

pub returns-clause-cause : goal.returns-clause-cause
returns-clause-cause c old before can =
    let query = c.args.bound.now in
    let held = c.args.held.now in
    let rows = joined_vecs c.args.parts.items in
    let new : c.as_slice.result.now ≡ timely query c.args.watermark rows =
    c.as_slice.ensures.value ∙ c.in_ok-rows.ensures ∙ timely_is query held.store.state held.closing old (timely query c.args.watermark rows) before c.args.watermark can rows in
    subst (λ (new : List FedRow). CanStep query held.store.state held.closing old new before c.args.watermark → IfErr c.step_operator.result (IsCause (operator_of query) old new before c.args.watermark)) new
    (c.step_operator.ensures.cause old before) can
