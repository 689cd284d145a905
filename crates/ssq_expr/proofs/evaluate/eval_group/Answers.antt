use Rattle.ssq_time.specs.Time.{IsStampTime}
use Rattle.ssq_value.specs.declared.value.Value.{Value}
use Rattle.ssq_value.specs.Kind.{IfTime}
use Rattle.ssq_shape.specs.Evaluation.{evaluated_with}
use Rattle.ssq_expr.proofs.Years.{group_years, told}
use Rattle.ssq_expr.proofs.evaluate.eval_group.Goals as goal

pub returns-clause-years : goal.returns-clause-years
returns-clause-years c =
    let keys = c.args.keys.now in
    let aggregates = c.args.aggregates.now in
    let x = c.args.expression.now in
    let P : Value → Type 0 = IfTime IsStampTime in
    λ found all. told P c.value_of.result (evaluated_with aggregates x keys) c.value_of.ensures (group_years aggregates keys x found all)
