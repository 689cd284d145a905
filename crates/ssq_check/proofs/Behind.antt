-- The first element that passes a test, looked for from the left.
use Rattle.std.proofs.Common.{◌≡◌, ◌∙◌, ap, sym, refl, arith, ℕ, suc, ◌+◌, ◌<◌, ◌≤◌, Bool, true, false, not, cond, nat_lt, List, [], ◌∷◌, length, drop, get_or, drop-cons, lt-ltb, position, Option, Some, None}
use Rattle.std.specs.Prelude.{if◌then◌else◌}
use Rattle.std.specs.List.{position_or_len}
use Rattle.std.specs.Option.{option_map}
use Rattle.std.proofs.Math.ListN.{drop_of_length-le}
use Rattle.ssq_check.proofs.KeyLemmas.{one_less}

none_behind : (n : ℕ) → n ≡ n + 0
none_behind n = omega arith

pub all_behind : (n : ℕ) → 0 + n ≡ n
all_behind n = omega arith

one_behind : (n k : ℕ) → (n + 1) + k ≡ n + (1 + k)
one_behind n k = omega arith

more_behind : (n k : ℕ) (b : Bool) → option_map (λ i. (n + 1) + i) (cond b (Some k) None) ≡ option_map (λ i. n + i) (cond b (Some (1 + k)) None)
more_behind n k true = ap Some (one_behind n k)
more_behind n k false = refl

whole : (o : Option ℕ) → option_map (λ i. 0 + i) o ≡ o
whole None = refl
whole (Some n) = ap Some (all_behind n)

module _ {A : Type 0} (test : A → Bool) where
  -- where the first of these stands, after so many others
  abbrev pub first_behind : ℕ → List A → Option ℕ
  first_behind before [] = None
  first_behind before (x ∷ xs) = if test x then Some before else first_behind (before + 1) xs

  is_behind : (n : ℕ) (xs : List A) → first_behind n xs ≡ option_map (λ i. n + i) (position test xs)
  is_behind n [] = refl
  is_behind n (x ∷ xs) = by (test x) (is_behind (n + 1) xs)
    where
      place : ℕ
      place = position_or_len test xs

      by : (b : Bool) → first_behind (n + 1) xs ≡ option_map (λ i. (n + 1) + i) (position test xs)
          → (if b then Some n else first_behind (n + 1) xs)
          ≡ option_map (λ i. n + i) (cond (nat_lt (cond (not b) (1 + place) 0) (suc (length xs))) (Some (cond (not b) (1 + place) 0)) None)
      by true rest = ap Some (none_behind n) ∙ (λ i. option_map (λ k. n + k) (cond (sym (lt-ltb 0 (suc (length xs)) (omega arith)) i) (Some 0) None))
      by false rest = rest ∙ more_behind n place (nat_lt place (length xs)) ∙ (λ i. option_map (λ k. n + k) (cond (sym (one_less place (length xs)) i) (Some (1 + place)) None))

  first_is : (xs : List A) → first_behind 0 xs ≡ position test xs
  first_is xs = is_behind 0 xs ∙ whole (position test xs)

  module _ (xs : List A) (at : ℕ) (same : first_behind at (drop at xs) ≡ first_behind 0 xs) where
    -- the next one passes
    pub one_found : (x : A) → at < length xs → x ≡ get_or xs at x → test x ≡ true → position test xs ≡ Some at
    one_found x inside is passes =
        let rest : drop at xs ≡ x ∷ drop (suc at) xs = drop-cons xs at x inside ∙ ap (λ y. y ∷ drop (suc at) xs) (sym is) in
        sym (first_is xs) ∙ sym same ∙ ap (first_behind at) rest ∙ (λ i. if passes i then Some at else first_behind (at + 1) (drop (suc at) xs))

    -- none is left
    pub none_found : length xs ≤ at → position test xs ≡ None
    none_found past = sym (first_is xs) ∙ sym same ∙ ap (first_behind at) (drop_of_length-le xs past)
