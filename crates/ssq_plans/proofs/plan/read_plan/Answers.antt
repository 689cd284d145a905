-- A plan's record is read line by line.
use Rattle.std.proofs.Common.{List, ℕ, Some, codes, ◌++◌, sym, ap, ◌∙◌}
use Rattle.std.proofs.lemmas.Bool.{false≢true}
use Rattle.ssq_plans.specs.declared.plan.Plan.{Plan}
use Rattle.ssq_plans.specs.Records.{lines, part_line, time_or_none}
use Rattle.ssq_plans.proofs.Spelled.{plan_split, plan_joined, plan_is, no_part}
use Rattle.ssq_plans.proofs.plan.read_plan.Goals as goal

abbrev ends_text : Plan → List ℕ
ends_text plan = lines (λ at part. part_line part) 0 plan.ends ++ codes "end\n"

abbrev mark_text : Plan → List ℕ
mark_text plan = codes "watermark " ++ (time_or_none plan.watermark ++ (codes "\n" ++ ends_text plan))

pub returns-in_default-clause-each : goal.returns-in_default-clause-each
returns-in_default-clause-each c plan fits is =
    absurd (c.in_default.ensures.each plan.epoch (mark_text plan) fits.0 (is ∙ plan_split plan))

pub returns-in_default-time_line_after-clause-each : goal.returns-in_default-time_line_after-clause-each
returns-in_default-time_line_after-clause-each c plan fits is =
    let first = c.in-Some.ensures.each plan.epoch (mark_text plan) fits.0 (is ∙ plan_split plan) in
    absurd (c.in_default-time_line_after.ensures.each plan.watermark (ends_text plan) fits.1 first.1)

pub returns-then-is_all-clause-found : goal.returns-then-is_all-clause-found
returns-then-is_all-clause-found c =
    plan_joined (record { epoch = c.in-Some.epoch; watermark = c.in-Some-time_line_after.watermark; ends = c.in_ok-ends.ends }) c.args.text.now _ _ _
    c.in-Some.ensures.found c.in-Some-time_line_after.ensures.found c.in_ok-ends.ensures.found (c.is_all.ensures.only c.if-is_all.true)

pub returns-then-is_all-clause-each : goal.returns-then-is_all-clause-each
returns-then-is_all-clause-each c plan fits is =
    let first = c.in-Some.ensures.each plan.epoch (mark_text plan) fits.0 (is ∙ plan_split plan) in
    let second = c.in-Some-time_line_after.ensures.each plan.watermark (ends_text plan) fits.1 first.1 in
    let third = c.in_ok-ends.ensures.each plan.ends (codes "end\n") fits.2 no_part second.1 in
    ap Some (plan_is plan _ _ _ first.0 second.0 third.0)

pub returns-else-is_all-clause-each : goal.returns-else-is_all-clause-each
returns-else-is_all-clause-each c plan fits is =
    let first = c.in-Some.ensures.each plan.epoch (mark_text plan) fits.0 (is ∙ plan_split plan) in
    let second = c.in-Some-time_line_after.ensures.each plan.watermark (ends_text plan) fits.1 first.1 in
    let third = c.in_ok-ends.ensures.each plan.ends (codes "end\n") fits.2 no_part second.1 in
    absurd (false≢true (sym c.if-is_all.false ∙ c.is_all.ensures.each third.1))
