-- The items of SELECT on a row, one after the other.
use Rattle.std.proofs.Common.{◌≡◌, ℕ, ◌+◌, ◌<◌, ◌≤◌, [], ◌∷◌, ◌++◌, List, length, drop, get_or, Ok, Err, refl, ap, sym, ◌∙◌, append_assoc, append-nil}
use Rattle.std.specs.Prelude.{Result}
use Rattle.std.proofs.lemmas.List.{drop_all, drop_more}
use Rattle.ssq_value.specs.declared.value.Value.{Value}
use Rattle.ssq_shape.specs.declared.bound.Output.{Output}
use Rattle.ssq_shape.specs.Evaluation.{Overflow, and_then, evaluated}
use Rattle.ssq_shape.specs.Plain.{projected}
use Rattle.ssq_expr.specs.Answers.{Answers, itself}
use Rattle.ssq_expr.specs.declared.fault.EvalFault.{EvalFault}
use Rattle.ssq_expr.specs.declared.fault.EvalFault.TheVariants as fault

-- values that were made already, before those of the items that are left
abbrev pub behind : List Value → Result (List Value) Overflow → Result (List Value) Overflow
behind so_far left = and_then left (λ values. Ok (so_far ++ values))

behind_none : (left : Result (List Value) Overflow) → behind [] left ≡ left
behind_none (Ok values) = refl
behind_none (Err error) = refl

pub none_so_far : (so_far : List Value) (left : Result (List Value) Overflow) → so_far ≡ [] → behind so_far left ≡ left
none_so_far so_far left none = ap (λ values. behind values left) none ∙ behind_none left

one_behind : (so_far pushed : List Value) (value : Value) (left : Result (List Value) Overflow) → pushed ≡ so_far ++ value ∷ [] → behind pushed left ≡ behind so_far (and_then left (λ values. Ok (value ∷ values)))
one_behind so_far pushed value (Ok values) push = ap Ok (ap (λ (l : List Value). l ++ values) push ∙ append_assoc so_far (value ∷ []) values)
one_behind so_far pushed value (Err error) push = refl

module _ (outputs : List Output) (row : List Value) (at : ℕ) (so_far : List Value) (all : Result (List Value) Overflow) (was : behind so_far (projected (drop at outputs) row) ≡ all) where
  next_is : (output : Output) → at < length outputs → output ≡ get_or outputs at output
      → behind so_far (and_then (evaluated output.value row) (λ value. and_then (projected (drop (at + 1) outputs) row) (λ values. Ok (value ∷ values)))) ≡ all
  unfolding projected
  next_is output inside is =
      ap (λ left. behind so_far (projected left row)) (sym (drop_more outputs at output inside ∙ ap (λ next. next ∷ drop (at + 1) outputs) (sym is))) ∙ was

  -- one item more
  pub item_on : (output : Output) (pushed : List Value) (value : Value) → at < length outputs → output ≡ get_or outputs at output → evaluated output.value row ≡ Ok value → pushed ≡ so_far ++ value ∷ []
      → behind pushed (projected (drop (at + 1) outputs) row) ≡ all
  item_on output pushed value inside is made push =
      one_behind so_far pushed value (projected (drop (at + 1) outputs) row) push
      ∙ ap (λ r. behind so_far (and_then r (λ value. and_then (projected (drop (at + 1) outputs) row) (λ values. Ok (value ∷ values))))) (sym made)
      ∙ next_is output inside is

  -- where the next item fails all of them do
  pub item_fails : {A : Type 0} (seen : A → List Value) (output : Output) (cause : EvalFault) → at < length outputs → output ≡ get_or outputs at output → Answers itself (Err cause) (evaluated output.value row)
      → Answers seen (Err cause) all
  item_fails seen output fault.Overflow inside is made =
      sym (next_is output inside is) ∙ ap (λ r. behind so_far (and_then r (λ value. and_then (projected (drop (at + 1) outputs) row) (λ values. Ok (value ∷ values))))) made
  item_fails seen output fault.NoMemory inside is made = tt

  -- no item is left
  pub items_end : length outputs ≤ at → all ≡ Ok so_far
  unfolding projected
  items_end none = sym was ∙ ap (λ left. behind so_far (projected left row)) (drop_all at outputs none) ∙ ap Ok (append-nil so_far)
