-- The items of all partitions together are all items.
use Rattle.std.proofs.Common.{◌≡◌, ◌≤◌, ◌+◌, ◌++◌, [], ◌∷◌, ℕ, zero, suc, List, Bool, true, false, refl, ap, sym, ◌∙◌, subst, arith, filter, map}
use Rattle.std.specs.Prelude.{◌==◌, ◌&&◌, if◌then◌else◌, nat_le, not}
use Rattle.std.specs.List.{flat_map, range_with_len}
use Rattle.std.specs.List.Sorted.{IsPermutation}
use Rattle.std.proofs.lemmas.Bool.Decides.{nat_tests}
use Rattle.std.proofs.lemmas.List.{map-append}
use Rattle.std.proofs.lemmas.List.Sorted.{IsPermutation-append, IsPermutation-filter_both, IsPermutation-map, IsPermutation-refl, IsPermutation-sym, IsPermutation-trans}
use Rattle.std.proofs.lemmas.Nat.{mod_below}
use Rattle.ssq_value.specs.Key.{keys_of}
use Rattle.ssq_route.specs.Place.{place_of, fnv_1a}
use Rattle.ssq_meaning.specs.FedRows.{FedRow}
use Rattle.ssq_meaning.specs.Epochs.{bucket}
use Rattle.ssq_meaning.specs.Meaning.{Values}

pub filter_both : {X : Type 0} (p q r : X → Bool) → ((x : X) → (q x && p x) ≡ r x) → (xs : List X) → filter p (filter q xs) ≡ filter r xs
filter_both p q r is [] = refl
filter_both {X} p q r is (x ∷ xs) = by (p x) (q x) (r x) refl (is x) (filter_both p q r is xs)
  where
    by : (a b c : Bool) → p x ≡ a → (b && p x) ≡ c → filter p (filter q xs) ≡ filter r xs → filter p (if b then x ∷ filter q xs else filter q xs) ≡ (if c then x ∷ filter r xs else filter r xs)
    by true true c here is rest = ap (λ b. if b then x ∷ filter p (filter q xs) else filter p (filter q xs)) here ∙ ap (λ rows. x ∷ rows) rest ∙ ap (λ b. if b then x ∷ filter r xs else filter r xs) (sym here ∙ is)
    by false true c here is rest = ap (λ b. if b then x ∷ filter p (filter q xs) else filter p (filter q xs)) here ∙ rest ∙ ap (λ b. if b then x ∷ filter r xs else filter r xs) (sym here ∙ is)
    by a false c here is rest = rest ∙ ap (λ b. if b then x ∷ filter r xs else filter r xs) is

filter_all : {X : Type 0} (p : X → Bool) → ((x : X) → p x ≡ true) → (xs : List X) → filter p xs ≡ xs
filter_all p all [] = refl
filter_all p all (x ∷ xs) = ap (λ b. if b then x ∷ filter p xs else filter p xs) (all x) ∙ ap (λ rest. x ∷ rest) (filter_all p all xs)

filter_no : {X : Type 0} (p : X → Bool) → ((x : X) → p x ≡ false) → (xs : List X) → filter p xs ≡ []
filter_no p none [] = refl
filter_no p none (x ∷ xs) = ap (λ b. if b then x ∷ filter p xs else filter p xs) (none x) ∙ filter_no p none xs

-- the items whose key has this place
abbrev pub at_place : {X : Type 0} → (X → Values) → (partitions p : ℕ) → List X → List X
at_place key partitions p items = filter (λ x. place_of (keys_of (key x)) partitions == p) items

module _ {X : Type 0} (key : X → Values) (partitions : ℕ) (some : 1 ≤ partitions) (items : List X) where
  place : X → ℕ
  place x = place_of (keys_of (key x)) partitions

  -- the items from this partition on
  from_on : ℕ → List X
  from_on at = filter (λ x. nat_le at (place x)) items

  next : (at : ℕ) → IsPermutation (at_place key partitions at items ++ from_on (at + 1)) (from_on at)
  unfolding place from_on
  next at =
      subst (λ (parts : List X). IsPermutation parts (from_on at))
      (λ i. filter_both (λ x. place x == at) (λ x. nat_le at (place x)) (λ x. place x == at) (λ x. grind (arith, nat_tests)) items i
      ++ filter_both (λ x. not (place x == at)) (λ x. nat_le at (place x)) (λ x. nat_le (at + 1) (place x)) (λ x. grind (arith, nat_tests)) items i)
      (IsPermutation-sym _ _ (IsPermutation-filter_both (λ x. place x == at) (λ x. not (place x == at)) (λ x. refl) (from_on at)))

  together : (at many : ℕ) → at + many ≡ partitions → IsPermutation (flat_map (λ p. at_place key partitions p items) (range_with_len at many)) (from_on at)
  unfolding place from_on
  together at zero end =
      let none : from_on at ≡ [] = filter_no (λ x. nat_le at (place x)) (λ x. let below = mod_below (fnv_1a (keys_of (key x))) partitions (omega (arith, some)) in grind (arith, nat_tests, below, end)) items in
      subst (IsPermutation []) (sym none) (IsPermutation-refl [])
  together at (suc many) end = IsPermutation-trans _ _ _ (IsPermutation-append _ _ _ _ (IsPermutation-refl (at_place key partitions at items)) (together (at + 1) many (omega (arith, end)))) (next at)

  pub all_together : IsPermutation (flat_map (λ p. at_place key partitions p items) (range_with_len 0 partitions)) items
  unfolding from_on
  all_together =
      subst (IsPermutation (flat_map (λ p. at_place key partitions p items) (range_with_len 0 partitions))) (filter_all (λ x. nat_le 0 (place x)) (λ x. grind (arith, nat_tests)) items) (together 0 partitions (omega arith))

map_each : {X Y Z : Type 0} (f : Y → Z) (g : X → List Y) (xs : List X) → flat_map (λ x. map f (g x)) xs ≡ map f (flat_map g xs)
map_each f g [] = refl
map_each f g (x ∷ xs) = ap (λ rest. map f (g x) ++ rest) (map_each f g xs) ∙ sym (map-append f (g x) (flat_map g xs))

-- so what these show, each row by itself, is what all rows show
pub shown_together : (partitions : ℕ) → 1 ≤ partitions → (rows : List FedRow) → IsPermutation (flat_map (λ p. map (λ row. row.values) (bucket partitions p rows)) (range_with_len 0 partitions)) (map (λ row. row.values) rows)
shown_together partitions some rows =
    subst (λ (shown : List Values). IsPermutation shown (map (λ row. row.values) rows)) (sym (map_each (λ (row : FedRow). row.values) (λ p. bucket partitions p rows) (range_with_len 0 partitions)))
    (IsPermutation-map (λ (row : FedRow). row.values) _ _ (all_together (λ (row : FedRow). row.key) partitions some rows))
