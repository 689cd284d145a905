-- Lists of places.
use Rattle.std.proofs.Common.{◌≡◌, ◌<◌, ◌||◌, ℕ, zero, suc, Bool, true, false, List, [], ◌∷◌, length, get_or, sym, refl, ap, ◌∙◌, arith}
use Rattle.std.specs.List.{list_any}
use mathlib.Core.Option.{some, some-injective, some-ne-none}
use lib.ListN.{get_elem?}

module _ {A : Type 0} where
  pub at_index : (l : List A) (i : ℕ) (a : A) → i < length l → get_elem? l i ≡ some (get_or l i a)
  at_index [] i a h = absurd (omega arith)
  at_index (x ∷ xs) zero a h = refl
  at_index (x ∷ xs) (suc i) a h = at_index xs i a (omega arith)

  pub any_at : (p : A → Bool) (l : List A) (t : ℕ) (a : A) → get_elem? l t ≡ some a → p a ≡ true → list_any p l ≡ true
  any_at p [] t a e yes_it = absurd (some-ne-none a (sym e))
  any_at p (x ∷ xs) zero a e yes_it = ap (λ b. b || list_any p xs) (ap p (some-injective x a e) ∙ yes_it)
  any_at p (x ∷ xs) (suc t) a e yes_it = or_true (p x) (any_at p xs t a e yes_it)
    where
      or_true : (b : Bool) {c : Bool} → c ≡ true → (b || c) ≡ true
      or_true true e = refl
      or_true false e = e

  pub none_at : (p : A → Bool) (l : List A) → ((t : ℕ) (a : A) → get_elem? l t ≡ some a → p a ≡ false) → list_any p l ≡ false
  none_at p [] none_of = refl
  none_at p (x ∷ xs) none_of = (λ i. none_of 0 x refl i || none_at p xs (λ t a e. none_of (suc t) a e) i)
