use Rattle.std.proofs.Common.{ap, ◌∙◌}
use Rattle.std.specs.Ordering.{is_lt}
use Rattle.ssq_value.specs.Order.{values_cmp}
use Rattle.ssq_step.proofs.Exceeding.{less_is_least}
use Rattle.ssq_step.proofs.shown.is_least.Goals as goal

pub returns-in-Some : goal.returns-in-Some
returns-in-Some c =
    less_is_least c.args.key.now c.in-Some.other c.args.least.now c.is_lt.result c.in-Some.is (c.is_lt.ensures ∙ ap is_lt (c.order_rows.ensures ∙ ap (values_cmp c.args.key.now) c.as_slice.ensures))
