-- Lists in another order: parts that change places, tests that split a list, and what is shown of them.
use Rattle.std.proofs.Common.{◌≡◌, ◌+◌, ◌++◌, [], ◌∷◌, ℕ, List, Option, Some, None, Bool, true, false, refl, ap, sym, ◌∙◌, subst, arith, filter}
use Rattle.std.specs.Prelude.{◌&&◌, ◌||◌, filter_map, if◌then◌else◌}
use Rattle.std.specs.List.{cons_option, flat_map, sum_by}
use Rattle.std.specs.List.Sorted.{IsPermutation}
use Rattle.std.proofs.lemmas.List.{append_assoc}
use Rattle.std.proofs.lemmas.List.Sorted.{IsPermutation-append_comm, IsPermutation-append_left, IsPermutation-append_right, IsPermutation-cons, IsPermutation-middle, IsPermutation-refl, IsPermutation-trans, sum_by-IsPermutation}
use Rattle.std.proofs.lemmas.List.Sums.{sum_by-cons}
use Rattle.ssq_meaning.specs.Group.{is_same, least_key}
use Rattle.ssq_meaning.specs.GroupLaws.{times}
use Rattle.ssq_meaning.specs.Meaning.{Values}
use Rattle.ssq_meaning.proofs.Bags.{same_bag, times-cons}
use Rattle.ssq_meaning.proofs.Leasts.{same_least}

-- ---- parts that change places

module _ {X : Type 0} where
  pub middle : (a b c d : List X) → IsPermutation ((a ++ b) ++ (c ++ d)) ((a ++ c) ++ (b ++ d))
  middle a b c d =
      let before : a ++ ((b ++ c) ++ d) ≡ (a ++ b) ++ (c ++ d) = ap (λ l. a ++ l) (append_assoc b c d) ∙ sym (append_assoc a b (c ++ d)) in
      let after : a ++ ((c ++ b) ++ d) ≡ (a ++ c) ++ (b ++ d) = ap (λ l. a ++ l) (append_assoc c b d) ∙ sym (append_assoc a c (b ++ d)) in
      let turned : IsPermutation (a ++ ((b ++ c) ++ d)) (a ++ ((c ++ b) ++ d)) =
      IsPermutation-append_right a ((b ++ c) ++ d) ((c ++ b) ++ d) (IsPermutation-append_left d (b ++ c) (c ++ b) (IsPermutation-append_comm b c)) in
      subst (λ l. IsPermutation l ((a ++ c) ++ (b ++ d))) before (subst (IsPermutation (a ++ ((b ++ c) ++ d))) after turned)

  -- two tests of which one passes exactly where a third does
  pub split_by : (p q r : X → Bool) → ((x : X) → r x ≡ (p x || q x)) → ((x : X) → (p x && q x) ≡ false) → (xs : List X) → IsPermutation (filter p xs ++ filter q xs) (filter r xs)
  split_by p q r either apart [] = IsPermutation-refl []
  split_by p q r either apart (x ∷ xs) = by (split_by p q r either apart xs) (p x) (q x) (r x) (either x) (apart x)
    where
      by : IsPermutation (filter p xs ++ filter q xs) (filter r xs) → (a b c : Bool) → c ≡ (a || b) → (a && b) ≡ false
          → IsPermutation ((if a then x ∷ filter p xs else filter p xs) ++ (if b then x ∷ filter q xs else filter q xs)) (if c then x ∷ filter r xs else filter r xs)
      by rest true true c is none = absurd cc
      by rest true false true is none = IsPermutation-cons x (filter p xs ++ filter q xs) (filter r xs) rest
      by rest true false false is none = absurd cc
      by rest false true true is none =
          IsPermutation-trans _ _ _ (IsPermutation-middle (filter p xs) x (filter q xs)) (IsPermutation-cons x (filter p xs ++ filter q xs) (filter r xs) rest)
      by rest false true false is none = absurd cc
      by rest false false true is none = absurd cc
      by rest false false false is none = rest

  -- tests that agree
  pub filter_same : (p q : X → Bool) → ((x : X) → p x ≡ q x) → (xs : List X) → filter p xs ≡ filter q xs
  filter_same p q agree [] = refl
  filter_same p q agree (x ∷ xs) = λ i. if agree x i then x ∷ filter_same p q agree xs i else filter_same p q agree xs i

-- what two functions give of a list is what both give of each of its elements
module _ {X Y : Type 0} (f g h : X → List Y) (both : (x : X) → h x ≡ f x ++ g x) where
  pub flat_both : (xs : List X) → IsPermutation (flat_map f xs ++ flat_map g xs) (flat_map h xs)
  flat_both [] = IsPermutation-refl []
  flat_both (x ∷ xs) =
      let left = flat_map f xs in
      let right = flat_map g xs in
      let turned : IsPermutation ((f x ++ left) ++ (g x ++ right)) ((f x ++ g x) ++ (left ++ right)) = middle (f x) left (g x) right in
      let rest : IsPermutation ((f x ++ g x) ++ (left ++ right)) ((f x ++ g x) ++ flat_map h xs) = IsPermutation-append_right (f x ++ g x) (left ++ right) (flat_map h xs) (flat_both xs) in
      subst (λ l. IsPermutation ((f x ++ left) ++ (g x ++ right)) (l ++ flat_map h xs)) (sym (both x)) (IsPermutation-trans _ _ _ turned rest)

-- ---- what is shown

all_some : (xs : List Values) → filter_map (λ x. Some x) xs ≡ xs
all_some [] = refl
all_some (x ∷ xs) = ap (λ rest. x ∷ rest) (all_some xs)

module _ {X : Type 0} (f : X → Option Values) where
  one_of : Values → Option Values → ℕ
  one_of key None = 0
  one_of key (Some own) = if is_same key own then 1 else 0

  times_front : (key : Values) (shown : Option Values) (rest : List Values) → times key (cons_option shown rest) ≡ one_of key shown + times key rest
  unfolding one_of
  times_front key None rest = omega arith
  times_front key (Some own) rest = times-cons key own rest

  times_shown : (key : Values) (xs : List X) → times key (filter_map f xs) ≡ sum_by (λ x. one_of key (f x)) xs
  times_shown key [] = refl
  times_shown key (x ∷ xs) =
      times_front key (f x) (filter_map f xs) ∙ ap (λ n. one_of key (f x) + n) (times_shown key xs) ∙ sym (sum_by-cons (λ x. one_of key (f x)) x xs)

  as_often : (xs ys : List X) → IsPermutation xs ys → (key : Values) → times key (filter_map f xs) ≡ times key (filter_map f ys)
  as_often xs ys same key =
      times_shown key xs ∙ sym (sum_by-IsPermutation (λ x. one_of key (f x)) xs ys same) ∙ sym (times_shown key ys)

  -- the same is shown of a list in another order
  pub shown_shuffled : (xs ys : List X) → IsPermutation xs ys → IsPermutation (filter_map f xs) (filter_map f ys)
  shown_shuffled xs ys same =
      subst (λ l. IsPermutation l (filter_map f ys)) (all_some (filter_map f xs))
      (subst (IsPermutation (filter_map (λ x. Some x) (filter_map f xs))) (all_some (filter_map f ys))
      (same_bag (λ x. Some x) (filter_map f xs) (filter_map f ys) (as_often xs ys same)))

  -- and its least is the same
  pub least_shuffled : (xs ys : List X) → IsPermutation xs ys → least_key (filter_map f xs) ≡ least_key (filter_map f ys)
  least_shuffled xs ys same = same_least (filter_map f xs) (filter_map f ys) (as_often xs ys same)
