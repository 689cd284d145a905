use Rattle.ssq_time.specs.Time.{IsStampTime}
use Rattle.ssq_value.specs.declared.value.Value.{Value}
use Rattle.ssq_value.specs.Kind.{IfTime}
use Rattle.ssq_shape.specs.Evaluation.{evaluated}
use Rattle.ssq_shape.specs.Fit.{IsFit}
use Rattle.ssq_expr.proofs.Years.{value_years, told}
use Rattle.ssq_expr.proofs.evaluate.eval.Goals as goal

pub returns-clause-years : goal.returns-clause-years
returns-clause-years c =
    let row = c.args.row.now in
    let x = c.args.expression.now in
    let P : Value → Type 0 = IfTime IsStampTime in
    λ all. told P c.value_of.result (evaluated x row) c.value_of.ensures (value_years row x all)

pub returns-clause-fit : goal.returns-clause-fit
returns-clause-fit c =
    let row = c.args.row.now in
    let x = c.args.expression.now in
    λ all. told IsFit c.value_of.result (evaluated x row) c.value_of.ensures (c.values_stay_fit.ensures row x all)
