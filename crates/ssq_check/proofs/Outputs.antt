-- The names of outputs.
use Rattle.std.proofs.Common.{◌≡◌, ◌∙◌, sym, ap, subst, refl, ℕ, Bool, true, false, ◌||◌, if◌then◌else◌, List, [], ◌∷◌, ◌++◌}
use Rattle.std.specs.Str.{bytes_eq}
use Rattle.std.proofs.lemmas.Cmp.{nat_list_eq_equiv}
use Rattle.std.proofs.lemmas.List.Folds.{list_any-append}
use Rattle.std.proofs.lemmas.Slice.Eq.{bytes_eq-Decides}
use mathlib.Core.Bool.{or-false}
use Rattle.ssq_ast.specs.declared.query.Item.{Item}
use Rattle.ssq_check.specs.Lists.{has_name, with_name, names_from, item_name}
use Rattle.ssq_check.specs.Clauses.{is_output}

or_third : (a b c : Bool) → ((a || b) || c) ≡ (a || (b || c))
or_third true b c = refl
or_third false b c = refl

-- a name that is put to others is one of them then
with_one : (n m : List ℕ) (seen : List (List ℕ)) → has_name n (with_name seen m) ≡ (has_name n seen || bytes_eq m n)
with_one n m seen = by (has_name m seen) (bytes_eq m n) refl refl
  where
    by : (there same : Bool) → has_name m seen ≡ there → bytes_eq m n ≡ same → has_name n (if there then seen else seen ++ m ∷ []) ≡ (has_name n seen || same)
    by true false is eq = sym (or-false (has_name n seen))
    by true true is eq =
        let one : m ≡ n = (bytes_eq-Decides m n).0 eq in
        let both : has_name n seen ≡ true = subst (λ (name : List ℕ). has_name name seen ≡ true) one is in
        both ∙ sym (ap (λ (b : Bool). b || true) both)
    by false same is eq =
        list_any-append (bytes_eq n) seen (m ∷ []) ∙ ap (λ (b : Bool). has_name n seen || b) (or-false (bytes_eq n m) ∙ nat_list_eq_equiv.symm n m ∙ eq)

outputs_from : (n : List ℕ) (seen : List (List ℕ)) (items : List Item) → has_name n (names_from item_name seen items) ≡ (has_name n seen || is_output items n)
unfolding names_from
outputs_from n seen [] = sym (or-false (has_name n seen))
outputs_from n seen (x ∷ items) =
    outputs_from n (with_name seen (item_name x)) items
    ∙ ap (λ (b : Bool). b || is_output items n) (with_one n (item_name x) seen)
    ∙ or_third (has_name n seen) (bytes_eq (item_name x) n) (is_output items n)

-- the names of all outputs
pub are_outputs : (n : List ℕ) (items : List Item) → has_name n (names_from item_name [] items) ≡ is_output items n
are_outputs n items = outputs_from n [] items
