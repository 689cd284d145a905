-- The arguments of aggregates, one after the other.
use Rattle.std.proofs.Common.{◌≡◌, ◌<◌, ◌+◌, ◌++◌, ℕ, suc, [], ◌∷◌, List, Ok, Err, refl, ap, sym, ◌∙◌, drop, drop-cons, add-one, length, get_or, append_assoc}
use Rattle.std.specs.Prelude.{Result}
use Rattle.ssq_value.specs.declared.value.Value.{Value}
use Rattle.ssq_shape.specs.declared.bound.Aggregate.{Aggregate}
use Rattle.ssq_shape.specs.Evaluation.{Overflow, and_then}
use Rattle.ssq_expr.specs.Answers.{Answers, itself}
use Rattle.ssq_expr.specs.declared.fault.EvalFault.{EvalFault}
use Rattle.ssq_expr.specs.declared.fault.EvalFault.TheVariants as fault
use Rattle.ssq_meaning.specs.Group.{argument_of, arguments_of}

-- the item that comes next
pub step_is : {T : Type 0} (all : List T) (at : ℕ) (item : T) → at < length all → item ≡ get_or all at item → drop at all ≡ item ∷ drop (at + 1) all
step_is all at item inside is = rw (add-one, drop-cons all at item inside) (ap (λ a. a ∷ drop (suc at) all) (sym is))

behind : (so_far pushed : List Value) (value : Value) (rest : Result (List Value) Overflow) → pushed ≡ so_far ++ value ∷ []
    → and_then rest (λ values. Ok (pushed ++ values)) ≡ and_then (and_then rest (λ values. Ok (value ∷ values))) (λ values. Ok (so_far ++ values))
behind so_far pushed value (Ok values) push = ap Ok (ap (λ (l : List Value). l ++ values) push ∙ append_assoc so_far (value ∷ []) values)
behind so_far pushed value (Err error) push = refl

pub arguments_on : (aggregates left : List Aggregate) (aggregate : Aggregate) (row so_far pushed : List Value) (value : Value) (all : Result (List Value) Overflow)
    → aggregates ≡ aggregate ∷ left → argument_of aggregate.argument row ≡ Ok value → pushed ≡ so_far ++ value ∷ []
    → and_then (arguments_of aggregates row) (λ values. Ok (so_far ++ values)) ≡ all
    → and_then (arguments_of left row) (λ values. Ok (pushed ++ values)) ≡ all
unfolding arguments_of
arguments_on aggregates left aggregate row so_far pushed value all step is push was =
    behind so_far pushed value (arguments_of left row) push
    ∙ ap (λ r. and_then (and_then r (λ value. and_then (arguments_of left row) (λ values. Ok (value ∷ values)))) (λ values. Ok (so_far ++ values))) (sym is)
    ∙ ap (λ l. and_then (arguments_of l row) (λ values. Ok (so_far ++ values))) (sym step)
    ∙ was

-- where the next argument fails all of them do
pub arguments_fail : {A : Type 0} (seen : A → List Value) (aggregates left : List Aggregate) (aggregate : Aggregate) (row so_far : List Value) (all : Result (List Value) Overflow) (cause : EvalFault)
    → aggregates ≡ aggregate ∷ left → Answers itself (Err cause) (argument_of aggregate.argument row)
    → and_then (arguments_of aggregates row) (λ values. Ok (so_far ++ values)) ≡ all → Answers seen (Err cause) all
unfolding arguments_of
arguments_fail seen aggregates left aggregate row so_far all fault.Overflow step is was =
    sym was
    ∙ ap (λ l. and_then (arguments_of l row) (λ values. Ok (so_far ++ values))) step
    ∙ ap (λ r. and_then (and_then r (λ value. and_then (arguments_of left row) (λ values. Ok (value ∷ values)))) (λ values. Ok (so_far ++ values))) is
arguments_fail seen aggregates left aggregate row so_far all fault.NoMemory step is was = tt
