-- The items of SELECT on a group, one after the other.
use Rattle.std.proofs.Common.{◌≡◌, ◌++◌, [], ◌∷◌, List, Option, Ok, Err, refl, ap, sym, ◌∙◌, append_assoc}
use Rattle.std.specs.Prelude.{Result}
use Rattle.ssq_value.specs.declared.value.Value.{Value}
use Rattle.ssq_shape.specs.declared.bound.Output.{Output}
use Rattle.ssq_shape.specs.Evaluation.{Overflow, and_then, evaluated_with}
use Rattle.ssq_expr.specs.Answers.{Answers, itself}
use Rattle.ssq_expr.specs.declared.fault.EvalFault.{EvalFault}
use Rattle.ssq_expr.specs.declared.fault.EvalFault.TheVariants as fault
use Rattle.ssq_meaning.specs.Group.{group_items}

behind : (so_far pushed : List Value) (value : Value) (rest : Result (List Value) Overflow) → pushed ≡ so_far ++ value ∷ []
    → and_then rest (λ values. Ok (pushed ++ values)) ≡ and_then (and_then rest (λ values. Ok (value ∷ values))) (λ values. Ok (so_far ++ values))
behind so_far pushed value (Ok values) push = ap Ok (ap (λ (l : List Value). l ++ values) push ∙ append_assoc so_far (value ∷ []) values)
behind so_far pushed value (Err error) push = refl

pub items_on : (outputs left : List Output) (output : Output) (key : List Value) (aggregates : List (Option Value)) (so_far pushed : List Value) (value : Value) (all : Result (List Value) Overflow)
    → outputs ≡ output ∷ left → evaluated_with aggregates output.value key ≡ Ok value → pushed ≡ so_far ++ value ∷ []
    → and_then (group_items outputs key aggregates) (λ values. Ok (so_far ++ values)) ≡ all
    → and_then (group_items left key aggregates) (λ values. Ok (pushed ++ values)) ≡ all
unfolding group_items
items_on outputs left output key aggregates so_far pushed value all step is push was =
    behind so_far pushed value (group_items left key aggregates) push
    ∙ ap (λ r. and_then (and_then r (λ value. and_then (group_items left key aggregates) (λ values. Ok (value ∷ values)))) (λ values. Ok (so_far ++ values))) (sym is)
    ∙ ap (λ l. and_then (group_items l key aggregates) (λ values. Ok (so_far ++ values))) (sym step)
    ∙ was

-- where the next item fails all of them do
pub items_fail : {A : Type 0} (seen : A → List Value) (outputs left : List Output) (output : Output) (key : List Value) (aggregates : List (Option Value)) (so_far : List Value) (all : Result (List Value) Overflow)
    (cause : EvalFault) → outputs ≡ output ∷ left → Answers itself (Err cause) (evaluated_with aggregates output.value key)
    → and_then (group_items outputs key aggregates) (λ values. Ok (so_far ++ values)) ≡ all → Answers seen (Err cause) all
unfolding group_items
items_fail seen outputs left output key aggregates so_far all fault.Overflow step is was =
    sym was
    ∙ ap (λ l. and_then (group_items l key aggregates) (λ values. Ok (so_far ++ values))) step
    ∙ ap (λ r. and_then (and_then r (λ value. and_then (group_items left key aggregates) (λ values. Ok (value ∷ values)))) (λ values. Ok (so_far ++ values))) is
items_fail seen outputs left output key aggregates so_far all fault.NoMemory step is was = tt
