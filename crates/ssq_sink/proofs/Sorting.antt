-- A sorted list has the items of the list in the one order that there is.
use Rattle.std.proofs.Common.{◌≡◌, ℕ, suc, ◌+◌, ◌<◌, Bool, true, false, cond, not, ◌&&◌, List, [], ◌∷◌, ◌++◌, count_by, refl, sym, ap, ◌∙◌, arith}
use Rattle.std.specs.Cmp.{IsStrictWeakOrder}
use Rattle.std.specs.List.Sorted.{IsPermutation, IsSortedBy}
use Rattle.std.proofs.lemmas.Bool.{false≢true}
use Rattle.std.proofs.lemmas.List.Sorted.{sum_by-IsPermutation}
use Rattle.std.proofs.lemmas.List.Sums.{sum_by-append}
use Rattle.ssq_sink.specs.Sorted.{placed, sorted}

module _ {X : Type 0} {is_below : X → X → Bool} (order : IsStrictWeakOrder is_below) (ties : (x y : X) → is_below x y ≡ false → is_below y x ≡ false → x ≡ y) where
  below_by : (x y z : X) (yx : Bool) → is_below y x ≡ yx → is_below z y ≡ false → is_below z x ≡ true → is_below y x ≡ true
  below_by x y z true is zy zx = is
  below_by x y z false is zy zx = absurd (false≢true (sym (order.chain z y x zy is) ∙ zx))

  -- what is not above z is below what z is below
  below : (x y z : X) → is_below z y ≡ false → is_below z x ≡ true → is_below y x ≡ true
  below x y z = below_by x y z (is_below y x) refl

  pair_by : (x y : X) (zs : List X) (yx xy : Bool) → is_below y x ≡ yx → is_below x y ≡ xy → cond yx (y ∷ x ∷ zs) (x ∷ y ∷ zs) ≡ cond xy (x ∷ y ∷ zs) (y ∷ x ∷ zs)
  pair_by x y zs true true is is' = absurd (false≢true (sym (order.one_way y x is) ∙ is'))
  pair_by x y zs true false is is' = refl
  pair_by x y zs false true is is' = refl
  pair_by x y zs false false is is' = let same : x ≡ y = ties x y is' is in cc

  pair : (x y : X) (zs : List X) → cond (is_below y x) (y ∷ x ∷ zs) (x ∷ y ∷ zs) ≡ cond (is_below x y) (x ∷ y ∷ zs) (y ∷ x ∷ zs)
  pair x y zs = pair_by x y zs (is_below y x) (is_below x y) refl refl

  placed-placed_by : (x y z : X) (zs : List X) (zx zy : Bool) → is_below z x ≡ zx → is_below z y ≡ zy → placed is_below x (placed is_below y zs) ≡ placed is_below y (placed is_below x zs) → placed is_below x (cond zy (z ∷ placed is_below y zs) (y ∷ z ∷ zs)) ≡ placed is_below y (cond zx (z ∷ placed is_below x zs) (x ∷ z ∷ zs))
  unfolding placed
  placed-placed_by x y z zs true true zx zy after = rw (zx, zy) (ap (λ left. z ∷ left) after)
  placed-placed_by x y z zs true false zx zy after = rw (below x y z zy zx, zx, zy) refl
  placed-placed_by x y z zs false true zx zy after = rw (below y x z zx zy, zx, zy) refl
  placed-placed_by x y z zs false false zx zy after = rw (zx, zy) (pair x y (z ∷ zs))

  -- two items may be placed in either order
  placed-placed : (x y : X) (zs : List X) → placed is_below x (placed is_below y zs) ≡ placed is_below y (placed is_below x zs)
  unfolding placed
  placed-placed x y [] = pair x y []
  placed-placed x y (z ∷ zs) = placed-placed_by x y z zs (is_below z x) (is_below z y) refl refl (placed-placed x y zs)

  -- an item in the middle may be placed last
  sorted-middle : (front back : List X) (x : X) → sorted is_below (front ++ x ∷ back) ≡ placed is_below x (sorted is_below (front ++ back))
  unfolding sorted
  sorted-middle [] back x = refl
  sorted-middle (y ∷ front) back x =
      ap (placed is_below y) (sorted-middle front back x) ∙ placed-placed y x (sorted is_below (front ++ back))

  irreflexive_by : (x : X) (xx : Bool) → is_below x x ≡ xx → is_below x x ≡ false
  irreflexive_by x true is = order.one_way x x is
  irreflexive_by x false is = is

  irreflexive : (x : X) → is_below x x ≡ false
  irreflexive x = irreflexive_by x (is_below x x) refl

  -- whether neither is below the other
  abbrev is_tied : X → X → Bool
  is_tied x y = not (is_below x y) && not (is_below y x)

  tied-same_by : (x y : X) (xy yx : Bool) → is_below x y ≡ xy → is_below y x ≡ yx → (not xy && not yx) ≡ true → x ≡ y
  tied-same_by x y true yx is is' tied = absurd (false≢true tied)
  tied-same_by x y false true is is' tied = absurd (false≢true tied)
  tied-same_by x y false false is is' tied = ties x y is is'

  tied-same : (x y : X) → is_tied x y ≡ true → x ≡ y
  tied-same x y tied = tied-same_by x y (is_below x y) (is_below y x) refl refl tied

  tied_itself : (x : X) → is_tied x x ≡ true
  tied_itself x = rw (irreflexive x) refl

  count_by-cons : (test : X → Bool) (x : X) (xs : List X) → count_by test (x ∷ xs) ≡ cond (test x) 1 0 + count_by test xs
  count_by-cons test x xs = omega (arith, sum_by-append (λ y. cond (test y) 1 0) (x ∷ []) xs)

  -- where an item stands that passes the test
  record Found (test : X → Bool) (xs : List X) : Type 0 where
    front : List X
    item : X
    back : List X
    is : xs ≡ front ++ item ∷ back
    passes : test item ≡ true

  find_by : (test : X → Bool) (x : X) (xs : List X) (passes : Bool) → test x ≡ passes → 0 < cond passes 1 0 + count_by test xs → (0 < count_by test xs → Found test xs) → Found test (x ∷ xs)
  find_by test x xs true is some after = record { front = []; item = x; back = xs; is = refl; passes = is }
  find_by test x xs false is some after =
      let found : Found test xs = after (omega arith) in
      record { front = x ∷ found.front; item = found.item; back = found.back; is = ap (λ left. x ∷ left) found.is; passes = found.passes }

  find_one : (test : X → Bool) (xs : List X) → 0 < count_by test xs → Found test xs
  find_one test [] some = absurd (omega arith)
  find_one test (x ∷ xs) some =
      find_by test x xs (test x) refl (omega (arith, count_by-cons test x xs)) (find_one test xs)

  abbrev pub SameBag : List X → List X → Type 0
  SameBag xs ys = (test : X → Bool) → count_by test xs ≡ count_by test ys

  count_by-middle : (test : X → Bool) (front : List X) (x : X) (back : List X) → count_by test (front ++ x ∷ back) ≡ cond (test x) 1 0 + count_by test (front ++ back)
  count_by-middle test front x back =
      let counted : X → ℕ = λ y. cond (test y) 1 0 in
      omega (arith, sum_by-append counted front (x ∷ back), sum_by-append counted front back, count_by-cons test x back)

  -- the rest of a bag, where one item is taken out of the middle of the other list
  bag_without : (x y : X) (xs front back ys : List X) → x ≡ y → ys ≡ front ++ y ∷ back → SameBag (x ∷ xs) ys → SameBag xs (front ++ back)
  bag_without x y xs front back ys same is bag test =
      let counted : X → ℕ = λ z. cond (test z) 1 0 in
      omega (arith, bag test, ap (count_by test) is, count_by-cons test x xs, count_by-middle test front y back, ap counted same)

  nothing : (ys : List X) → SameBag [] ys → ys ≡ []
  nothing [] bag = refl
  nothing (y ∷ ys) bag = absurd (omega (arith, bag (λ _. true), count_by-cons (λ _. true) y ys))

  sorted-SameBag_by : (x : X) (xs ys : List X) → ((zs : List X) → SameBag xs zs → sorted is_below xs ≡ sorted is_below zs) → SameBag (x ∷ xs) ys → Found (is_tied x) ys → sorted is_below (x ∷ xs) ≡ sorted is_below ys
  unfolding sorted
  sorted-SameBag_by x xs ys after bag found =
      let same : x ≡ found.item = tied-same x found.item found.passes in
      ap (placed is_below x) (after (found.front ++ found.back) (bag_without x found.item xs found.front found.back ys same found.is bag)) ∙ ap (λ y. placed is_below y (sorted is_below (found.front ++ found.back))) same ∙ sym (sorted-middle found.front found.back found.item) ∙ ap (sorted is_below) (sym found.is)

  has_tied : (x : X) (xs ys : List X) → SameBag (x ∷ xs) ys → 0 < count_by (is_tied x) ys
  has_tied x xs ys bag =
      let counted : Bool → ℕ = λ tied. cond tied 1 0 in
      omega (arith, bag (is_tied x), count_by-cons (is_tied x) x xs, ap counted (tied_itself x))

  -- lists of one bag are sorted alike
  pub sorted-SameBag : (xs ys : List X) → SameBag xs ys → sorted is_below xs ≡ sorted is_below ys
  sorted-SameBag [] ys bag = ap (sorted is_below) (sym (nothing ys bag))
  sorted-SameBag (x ∷ xs) ys bag =
      sorted-SameBag_by x xs ys (sorted-SameBag xs) bag (find_one (is_tied x) ys (has_tied x xs ys bag))

  pub SameBag-permutation : (xs ys : List X) → IsPermutation xs ys → SameBag xs ys
  SameBag-permutation xs ys moved test = sym (sum_by-IsPermutation (λ x. cond (test x) 1 0) xs ys moved)

  placed_first : (x : X) (xs : List X) → IsSortedBy is_below (x ∷ xs) → placed is_below x xs ≡ x ∷ xs
  unfolding placed
  placed_first x [] up = refl
  placed_first x (y ∷ ys) up = let first : is_below y x ≡ false = up 0 x (omega arith) (omega arith) in rw first refl

  IsSortedBy-tail : (x : X) (xs : List X) → IsSortedBy is_below (x ∷ xs) → IsSortedBy is_below xs
  IsSortedBy-tail x xs up k d low high =
      let next : suc k + 1 ≡ suc (k + 1) = omega arith in
      rw next at (up (suc k) d (omega arith) (omega arith))

  -- a sorted list is its own order
  sorted-IsSortedBy : (xs : List X) → IsSortedBy is_below xs → sorted is_below xs ≡ xs
  unfolding sorted
  sorted-IsSortedBy [] up = refl
  sorted-IsSortedBy (x ∷ xs) up =
      ap (placed is_below x) (sorted-IsSortedBy xs (IsSortedBy-tail x xs up)) ∙ placed_first x xs up

  -- what a sort gives
  pub sorted_only : (xs ys : List X) → IsPermutation xs ys → IsSortedBy is_below ys → ys ≡ sorted is_below xs
  sorted_only xs ys moved up =
      sym (sorted-SameBag xs ys (SameBag-permutation xs ys moved) ∙ sorted-IsSortedBy ys up)
