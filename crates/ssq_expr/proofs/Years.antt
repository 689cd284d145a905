-- Where each time of a row can be printed, so can each time that is made of it.
use Rattle.std.proofs.Common.{◌≡◌, ℤ, ◌≤ℤ◌, int_le, true, List, [], ◌∷◌, Option, Result, Ok, Err, arith, subst}
use Rattle.std.specs.Prelude.{All, IfOk, IfSome}
use Rattle.std.proofs.lemmas.Int.{ints}
use Rattle.std.proofs.lemmas.Bool.{and_parts}
use Rattle.std.proofs.lemmas.List.Elements.{All-nil, All-cons, recursion_from_All}
use Rattle.ssq_time.specs.Time.{IsStampTime, is_stamp_time}
use Rattle.ssq_value.specs.declared.value.Value.{Value}
use Rattle.ssq_value.specs.Kind.{IfTime}
use Rattle.ssq_shape.specs.Evaluation.{Overflow, Evaluated, and_then, evaluated, evaluated_with}
use Rattle.ssq_shape.specs.Fit.{IsFit}
use Rattle.ssq_shape.specs.Plain.{projected}
use Rattle.ssq_shape.specs.Laws.{value_timed}
use Rattle.ssq_shape.specs.declared.typed.Typed.{Typed}
use Rattle.ssq_shape.specs.declared.bound.Output.{Output}
use Rattle.ssq_expr.specs.declared.fault.EvalFault.{EvalFault}
use Rattle.ssq_expr.specs.declared.fault.EvalFault.TheVariants as fault
use Rattle.ssq_expr.specs.Answers.{Answers, itself}

at_most : (a b : ℤ) → int_le a b ≡ true → a ≤ℤ b
at_most a b is = grind (arith, ints)

printable : (t : ℤ) → is_stamp_time t ≡ true → IsStampTime t
printable t is =
    let parts = and_parts _ _ is in
    (at_most _ t parts.0, at_most t _ parts.1)

-- what holds of each value that is meant holds of each that is answered
pub told : {A : Type 0} (P : A → Type 0) (result : Result A EvalFault) (meant : Result A Overflow) → Answers itself result meant → IfOk meant P → IfOk result P
told P (Ok value) meant is holds = subst (λ r. IfOk r P) is holds
told P (Err fault.Overflow) meant is holds = tt
told P (Err fault.NoMemory) meant is holds = tt

pub value_years : (row : List Value) (x : Typed) → All (IfTime IsStampTime) row → IfOk (evaluated x row) (IfTime IsStampTime)
value_years row x all = value_timed IsStampTime printable [] tt row all x

pub group_years : (aggregates : List (Option Value)) (keys : List Value) (x : Typed) → All (λ aggregate. IfSome aggregate (IfTime IsStampTime)) aggregates → All (IfTime IsStampTime) keys → IfOk (evaluated_with aggregates x keys) (IfTime IsStampTime)
group_years aggregates keys x found all = value_timed IsStampTime printable aggregates (recursion_from_All (λ aggregate. IfSome aggregate (IfTime IsStampTime)) aggregates found) keys all x

-- what holds of each item's value holds of all
values_have : (P : Value → Type 0) (row : List Value) (outputs : List Output) → ((x : Typed) → IfOk (evaluated x row) P) → IfOk (projected outputs row) (All P)
unfolding projected
values_have P row [] each = All-nil P
values_have P row (output ∷ outputs) each = step (evaluated output.value row) (projected outputs row) (each output.value) (values_have P row outputs each) where
  step : (first : Evaluated) (others : Result (List Value) Overflow) → IfOk first P → IfOk others (All P) → IfOk (and_then first (λ value. and_then others (λ values. Ok (value ∷ values)))) (All P)
  step (Err e) others one more = tt
  step (Ok value) (Err e) one more = tt
  step (Ok value) (Ok values) one more = All-cons P value values one more

pub values_years : (row : List Value) (outputs : List Output) → All (IfTime IsStampTime) row → IfOk (projected outputs row) (All (IfTime IsStampTime))
values_years row outputs all = values_have (IfTime IsStampTime) row outputs (λ x. value_years row x all)

pub values_fit : (row : List Value) (outputs : List Output) → ((x : Typed) → IfOk (evaluated x row) IsFit) → IfOk (projected outputs row) (All IsFit)
values_fit row outputs each = values_have IsFit row outputs each
