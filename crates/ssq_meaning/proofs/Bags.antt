-- Lists in which each key stands as often show the same rows.
use Rattle.std.proofs.Common.{◌≡◌, ◌+◌, ◌++◌, [], ◌∷◌, ℕ, suc, List, Option, Some, None, Bool, true, false, refl, ap, sym, ◌∙◌, subst, arith, filter, length}
use Rattle.std.specs.Prelude.{filter_map, if◌then◌else◌}
use Rattle.std.specs.List.{cons_option}
use Rattle.std.specs.List.Sorted.{IsPermutation}
use Rattle.std.proofs.lemmas.List.{length-append}
use Rattle.std.proofs.lemmas.List.Elements.{filter-append, filter_map-append}
use Rattle.std.proofs.lemmas.List.Sorted.{IsPermutation-refl, IsPermutation-cons, IsPermutation-middle, IsPermutation-trans, IsPermutation-sym}
use Rattle.ssq_meaning.specs.Group.{is_same}
use Rattle.ssq_meaning.specs.GroupLaws.{times}
use Rattle.ssq_meaning.specs.Meaning.{Values}
use Rattle.ssq_meaning.proofs.Keys.{same_is, same_itself}

pub times-append : (key : Values) (xs ys : List Values) → times key (xs ++ ys) ≡ times key xs + times key ys
times-append key xs ys = ap (λ l. length l) (filter-append (is_same key) xs ys) ∙ length-append (filter (is_same key) xs) (filter (is_same key) ys)

pub times-cons : (key one : Values) (xs : List Values) → times key (one ∷ xs) ≡ (if is_same key one then 1 else 0) + times key xs
times-cons key one xs = by (is_same key one)
  where
    by : (b : Bool) → length (if b then one ∷ filter (is_same key) xs else filter (is_same key) xs) ≡ (if b then 1 else 0) + length (filter (is_same key) xs)
    by true = omega arith
    by false = omega arith

times_itself : (key : Values) (xs : List Values) → times key (key ∷ xs) ≡ suc (times key xs)
times_itself key xs = ap (λ b. length (if b then key ∷ filter (is_same key) xs else filter (is_same key) xs)) (same_itself key)

-- where a key stands in a list
found_at : (key : Values) (ys : List Values) (n : ℕ) → times key ys ≡ suc n → (a : List Values) × (b : List Values) × (ys ≡ a ++ key ∷ b)
found_at key [] n is = absurd (omega (arith, is))
found_at key (y ∷ ys) n is = by (found_at key ys n) (is_same key y) refl
  where
    by : (times key ys ≡ suc n → (a : List Values) × (b : List Values) × (ys ≡ a ++ key ∷ b)) → (b : Bool) → is_same key y ≡ b → (a : List Values) × (b : List Values) × (y ∷ ys ≡ a ++ key ∷ b)
    by rest true same = ([], ys, ap (λ x. x ∷ ys) (sym (same_is key y same)))
    by rest false same =
        let none : times key (y ∷ ys) ≡ times key ys = ap (λ b. length (if b then y ∷ filter (is_same key) ys else filter (is_same key) ys)) same in
        let there = rest (sym none ∙ is) in
        (y ∷ there.0, there.1, ap (λ l. y ∷ l) there.2)

module _ {B : Type 0} (f : Values → Option B) where
  front : (shown : Option B) (xs a b : List B) → IsPermutation xs (a ++ b) → IsPermutation (cons_option shown xs) (a ++ cons_option shown b)
  front None xs a b same = same
  front (Some y) xs a b same =
      IsPermutation-trans _ _ _ (IsPermutation-cons y xs (a ++ b) same) (IsPermutation-sym (a ++ y ∷ b) (y ∷ (a ++ b)) (IsPermutation-middle a y b))

  pub same_bag : (xs ys : List Values) → ((key : Values) → times key xs ≡ times key ys) → IsPermutation (filter_map f xs) (filter_map f ys)
  same_bag [] [] same = IsPermutation-refl []
  same_bag [] (y ∷ ys) same = absurd (let no : 0 ≡ suc (times y ys) = same y ∙ times_itself y ys in omega (arith, no))
  same_bag (x ∷ xs) ys same =
      let there = found_at x ys (times x xs) (sym (same x) ∙ times_itself x xs) in
      let fewer : (key : Values) → times key xs ≡ times key (there.0 ++ there.1) = λ key.
      let all : times key (x ∷ xs) ≡ times key (there.0 ++ x ∷ there.1) = same key ∙ ap (times key) there.2 in
      let left = times-cons key x xs in
      let right = times-append key there.0 (x ∷ there.1) in
      let inner = times-cons key x there.1 in
      let goal = times-append key there.0 there.1 in
      omega (arith, all, left, right, inner, goal) in
      let rest : IsPermutation (filter_map f xs) (filter_map f there.0 ++ filter_map f there.1) =
      subst (IsPermutation (filter_map f xs)) (filter_map-append f there.0 there.1) (same_bag xs (there.0 ++ there.1) fewer) in
      subst (λ l. IsPermutation (filter_map f (x ∷ xs)) l) (sym (ap (filter_map f) there.2 ∙ filter_map-append f there.0 (x ∷ there.1)))
      (front (f x) (filter_map f xs) (filter_map f there.0) (filter_map f there.1) rest)
