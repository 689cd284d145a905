-- The pieces are put one after the other.
use Rattle.std.proofs.Common.{◌∙◌}
use Rattle.ssq_plans.specs.Records.{plan_text}
use Rattle.ssq_plans.proofs.Spelled.{plan_written}
use Rattle.ssq_plans.proofs.plan.write_plan.Goals as goal

pub returns : goal.returns
returns c =
    let plan = c.args.plan.now in
    let lines = c.put_ends.ensures _ (c.put_time_line.ensures _ (c.put_number_line.ensures _ c.new-out.ensures)) in
    c.finish.ensures (plan_text plan) (λ whole. c.put.ensures _ lines whole ∙ plan_written plan _ c.as_slice.ensures)
