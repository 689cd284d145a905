use Rattle.std.proofs.Common.{List, Ok}
use Rattle.std.specs.Prelude.{All}
use Rattle.ssq_value.specs.declared.value.Value.{Value}
use Rattle.ssq_time.specs.Time.{IsStampTime}
use Rattle.ssq_value.specs.Kind.{IfTime}
use Rattle.ssq_shape.specs.Fit.{IsFit}
use Rattle.ssq_shape.specs.Plain.{projected}
use Rattle.ssq_expr.proofs.Years.{values_years, values_fit, told}
use Rattle.ssq_expr.proofs.plain.project.Goals as goal

pub returns-clause-years : goal.returns-clause-years
returns-clause-years c =
    let row = c.args.row.now in
    let outputs = c.args.outputs.now in
    let P : List Value → Type 0 = All (IfTime IsStampTime) in
    λ all. told P (Ok c.from_vec.result) (projected outputs row) (rw c.from_vec.ensures c.in_ok-values.ensures) (values_years row outputs all)

pub returns-clause-fit : goal.returns-clause-fit
returns-clause-fit c =
    let row = c.args.row.now in
    let outputs = c.args.outputs.now in
    let P : List Value → Type 0 = All IsFit in
    λ all. told P (Ok c.from_vec.result) (projected outputs row) (rw c.from_vec.ensures c.in_ok-values.ensures) (values_fit row outputs (λ x. c.values_stay_fit.ensures row x all))
