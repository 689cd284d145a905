-- The rows that are kept, in their order, and the new ones.
use Rattle.std.proofs.Common.{◌≡◌, ◌++◌, ℕ, [], ◌∷◌, List, Some, Bool, true, false, ap, sym, ◌∙◌, subst, filter}
use Rattle.std.specs.Prelude.{if◌then◌else◌, option_map}
use Rattle.std.specs.BTreeMap.{is_at}
use Rattle.std.specs.List.{AllByRecursion}
use Rattle.std.proofs.lemmas.List.Elements.{All-from_recursion, recursion_from_All}
use Rattle.std.proofs.lemmas.List.Sorted.{All-permutation}
use Rattle.ssq_version.specs.State.{State, by_bytes, value_at}
use Rattle.ssq_version.proofs.Values.{is_itself, other_way}
use Rattle.ssq_shape.specs.declared.bound.Bound.{Bound}
use Rattle.ssq_shape.specs.declared.bound.Joining.{Joining}
use Rattle.ssq_meaning.specs.FedRows.{FedRow}
use Rattle.ssq_meaning.specs.Join.{row_key, row_value}
use Rattle.ssq_meaning.specs.JoinLaws.{AreApart, IsReordered}
use Rattle.ssq_meaning.proofs.Reordered.{permutes}
use Rattle.ssq_step.proofs.Lists.{front_all}
use Rattle.ssq_join.specs.Changing.{find_row}
use Rattle.ssq_join.specs.Meeting.{AreKept}
use Rattle.ssq_join.specs.Overs.{IsHeld}
use Rattle.ssq_join.specs.Steps.{IsKept}
use Rattle.ssq_join.proofs.Finding.{value_found}

-- ---- parts of a list

pub front_apart : (xs ys : List FedRow) → AreApart (xs ++ ys) → AreApart xs
front_apart [] ys apart = tt
front_apart (x ∷ xs) ys apart = (front_all (λ (own : FedRow). is_at (by_bytes (row_key x)) (row_key own) ≡ false) xs ys apart.0, front_apart xs ys apart.1)

pub back_apart : (xs ys : List FedRow) → AreApart (xs ++ ys) → AreApart ys
back_apart [] ys apart = apart
back_apart (x ∷ xs) ys apart = back_apart xs ys apart.1

-- some of the first rows go
filtered_all : (P : FedRow → Type 0) (p : FedRow → Bool) (xs ys : List FedRow) → AllByRecursion P (xs ++ ys) → AllByRecursion P (filter p xs ++ ys)
filtered_all P p [] ys all = all
filtered_all P p (x ∷ xs) ys all = by (p x) (filtered_all P p xs ys all.1)
  where
    by : (b : Bool) → AllByRecursion P (filter p xs ++ ys) → AllByRecursion P ((if b then x ∷ filter p xs else filter p xs) ++ ys)
    by true rest = (all.0, rest)
    by false rest = rest

pub filtered_apart : (p : FedRow → Bool) (xs ys : List FedRow) → AreApart (xs ++ ys) → AreApart (filter p xs ++ ys)
filtered_apart p [] ys apart = apart
filtered_apart p (x ∷ xs) ys apart = by (p x) (filtered_apart p xs ys apart.1)
  where
    by : (b : Bool) → AreApart (filter p xs ++ ys) → AreApart ((if b then x ∷ filter p xs else filter p xs) ++ ys)
    by true rest = (filtered_all (λ (other : FedRow). is_at (by_bytes (row_key x)) (row_key other) ≡ false) p xs ys apart.0, rest)
    by false rest = rest

-- ---- in another order

pub reordered_all : {X : Type 0} (P : X → Type 0) (xs ys : List X) → IsReordered xs ys → AllByRecursion P xs → AllByRecursion P ys
reordered_all P xs ys same all = recursion_from_All P ys (All-permutation P xs ys (permutes xs ys same) (All-from_recursion P xs all))

pub all_between : {X : Type 0} (P : X → Type 0) (front back : List X) (x : X) → P x → AllByRecursion P (front ++ back) → AllByRecursion P (front ++ x ∷ back)
all_between P [] back x own all = (own, all)
all_between P (y ∷ front) back x own all = (all.0, all_between P front back x own all.1)

apart_between : (front back : List FedRow) (x : FedRow) → AllByRecursion (λ (other : FedRow). is_at (by_bytes (row_key x)) (row_key other) ≡ false) (front ++ back) → AreApart (front ++ back) → AreApart (front ++ x ∷ back)
apart_between [] back x all apart = (all, apart)
apart_between (y ∷ front) back x all apart =
    (all_between (λ (other : FedRow). is_at (by_bytes (row_key y)) (row_key other) ≡ false) front back x (other_way (row_key x) (row_key y) all.0) apart.0, apart_between front back x all.1 apart.1)

pub reordered_apart : (xs ys : List FedRow) → IsReordered xs ys → AreApart xs → AreApart ys
unfolding IsReordered
reordered_apart [] ys same apart = subst AreApart (sym same) tt
reordered_apart (x ∷ xs) ys same apart =
    subst AreApart (sym same.2)
    (apart_between same.0 same.1 x (reordered_all (λ (other : FedRow). is_at (by_bytes (row_key x)) (row_key other) ≡ false) xs (same.0 ++ same.1) same.3 apart.0) (reordered_apart xs (same.0 ++ same.1) same.3 apart.1))

-- ---- each is found

found_more : (x : FedRow) (xs rows : List FedRow) → AllByRecursion (λ (other : FedRow). is_at (by_bytes (row_key x)) (row_key other) ≡ false) xs → AllByRecursion (λ (row : FedRow). find_row (row_key row) rows ≡ Some row) xs
    → AllByRecursion (λ (row : FedRow). find_row (row_key row) (x ∷ rows) ≡ Some row) xs
found_more x [] rows apart all = tt
found_more x (y ∷ xs) rows apart all =
    (ap (λ b. if b then Some x else find_row (row_key y) rows) (other_way (row_key x) (row_key y) apart.0) ∙ all.0, found_more x xs rows apart.1 all.1)

found_each : (rows : List FedRow) → AreApart rows → AllByRecursion (λ (row : FedRow). find_row (row_key row) rows ≡ Some row) rows
found_each [] apart = tt
found_each (x ∷ rows) apart = (ap (λ b. if b then Some x else find_row (row_key x) rows) (is_itself (row_key x)), found_more x rows rows apart.0 (found_each rows apart.1))

pub found_has : (P : FedRow → Type 0) (key : List ℕ) (rows : List FedRow) (row : FedRow) → AllByRecursion P rows → find_row key rows ≡ Some row → P row
found_has P key [] row all is = absurd cc
found_has P key (one ∷ rows) row all is = by (is_at (by_bytes key) (row_key one)) is (found_has P key rows row all.1)
  where
    by : (b : Bool) → (if b then Some one else find_row key rows) ≡ Some row → (find_row key rows ≡ Some row → P row) → P row
    by true is rest = let same : one ≡ row = cc in subst P same all.0
    by false is rest = rest is

module _ (query : Bound) (joining : Joining) (met : FedRow → Bool) (rows : List FedRow) (state : State) (kept : AreKept query joining met rows state) (apart : AreApart rows) where
  held_of : (xs : List FedRow) → AllByRecursion (IsKept query joining) xs → AllByRecursion (λ (row : FedRow). find_row (row_key row) rows ≡ Some row) xs → AllByRecursion (IsHeld query joining state met) xs
  held_of [] each found = tt
  held_of (row ∷ xs) each found = (
    record {
      own = each.0;
      value = ap (λ (s : State). value_at s (row_key row)) kept.listed ∙ value_found met rows (row_key row) ∙ ap (option_map (λ own. row_value (met own) own)) found.0;
    },
    held_of xs each.1 found.1,
  )

  pub held_each : AllByRecursion (IsHeld query joining state met) rows
  held_each = held_of rows kept.each (found_each rows apart)
