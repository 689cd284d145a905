-- The first element of a list that passes a test.
use Rattle.std.proofs.Common.{◌≡◌, ◌∙◌, ap, sym, refl, arith, ℕ, suc, ◌+◌, ◌<◌, Bool, true, false, not, ◌||◌, nat_lt, cond, List, [], ◌∷◌, length, Some, None}
use Rattle.std.specs.Prelude.{slice_get, position}
use Rattle.std.specs.List.{list_any, position_or_len}
use Rattle.std.proofs.lemmas.Bool.{lt-ltb}

module _ {A : Type 0} (test : A → Bool) where
  pub record IsFound (xs : List A) : Type 0 where
    pub at : ℕ
    pub element : A
    pub first : position_or_len test xs ≡ at
    pub within : at < length xs
    pub there : slice_get xs at ≡ Some element
    pub passes : test element ≡ true

  one_more : (n m : ℕ) → n ≡ m → 1 + n ≡ suc m
  one_more n m is = omega (arith, is)

  pub found : (xs : List A) → list_any test xs ≡ true → IsFound xs
  found [] is = absurd cc
  found (x ∷ xs) is = by (test x) refl (λ other. found xs other)
    where
      by : (b : Bool) → test x ≡ b → (list_any test xs ≡ true → IsFound xs) → IsFound (x ∷ xs)
      by true own more = record { at = 0; element = x; first = ap (λ b. cond (not b) (1 + position_or_len test xs) 0) own; within = omega arith; there = refl; passes = own }
      by false own more =
          let rest : IsFound xs = more (sym (ap (λ b. b || list_any test xs) own) ∙ is) in
          record {
            at = suc rest.at;
            element = rest.element;
            first = ap (λ b. cond (not b) (1 + position_or_len test xs) 0) own ∙ one_more (position_or_len test xs) rest.at rest.first;
            within = omega (arith, rest.within);
            there = rest.there;
            passes = rest.passes;
          }

  -- it is where the list has its position
  pub found_is : (xs : List A) (is : IsFound xs) → position test xs ≡ Some is.at
  found_is xs is =
      ap (λ n. cond (nat_lt n (length xs)) (Some n) None) is.first
      ∙ ap (λ b. cond b (Some is.at) None) (lt-ltb is.at (length xs) is.within)
