-- Keys that begin alike stand together, from their beginning on.
use Rattle.std.proofs.Common.{◌≡◌, ℕ, ◌<◌, arith, Bool, true, false, true≢false, ◌&&◌, ◌==◌, cond, is_le, Ordering, Less, Equal, Greater, nat_cmp, nat_eq, List, [], ◌∷◌, refl, sym, ap, ◌∙◌}
use Rattle.std.specs.Ordering.{ordering_then, MatchOrdering}
use Rattle.std.specs.List.{AllByRecursion, starts_with}
use Rattle.std.specs.List.Sorted.{IsStrictlySortedBy}
use Rattle.std.specs.Map.{keys_of}
use Rattle.std.proofs.lemmas.Cmp.{ranked}
use Rattle.ssq_version.specs.State.{by_bytes, Ascends, begins_with, front_with, all_with, from_key}
use Rattle.ssq_version.proofs.Values.{by_case}

-- the same number in front
pub same_number : (x : ℕ) → (x == x) ≡ true
same_number x = grind arith

equal_is : (x y : ℕ) → (x == y) ≡ true → x ≡ y
equal_is x y h = grind (arith, h)

other_number : (x y : ℕ) → x < y → (x == y) ≡ false
other_number x y h = grind (arith, h)

-- what begins with these bytes is not below them
begins_from : (prefix key : List ℕ) → begins_with prefix key ≡ true → is_le (by_bytes prefix key) ≡ true
begins_from [] [] begins = refl
begins_from [] (y ∷ key) begins = refl
begins_from (x ∷ prefix) [] begins = absurd (true≢false (sym begins))
begins_from (x ∷ prefix) (y ∷ key) begins = go (nat_cmp x y) (ranked x y (nat_cmp x y) refl) refl (x == y) refl begins (λ b. begins_from prefix key b)
  where
    go : (r : Ordering) → MatchOrdering r (x < y) (x ≡ y) (y < x) → nat_cmp x y ≡ r → (b : Bool) → (x == y) ≡ b → (b && begins_with prefix key) ≡ true → (begins_with prefix key ≡ true → is_le (by_bytes prefix key) ≡ true)
        → is_le (ordering_then (nat_cmp x y) (by_bytes prefix key)) ≡ true
    go Less how is b same begins behind = ap (λ (r : Ordering). is_le (ordering_then r (by_bytes prefix key))) is
    go Equal how is true same begins behind = ap (λ (r : Ordering). is_le (ordering_then r (by_bytes prefix key))) is ∙ behind begins
    go Equal how is false same begins behind = absurd (true≢false (sym begins))
    go Greater how is true same begins behind = absurd (let e = equal_is x y same in omega (arith, e, how))
    go Greater how is false same begins behind = absurd (true≢false (sym begins))

-- after a key that is not below these bytes and does not begin with them none does
ends_behind : (prefix key other : List ℕ) → is_le (by_bytes prefix key) ≡ true → begins_with prefix key ≡ false → by_bytes key other ≡ Less → begins_with prefix other ≡ false
ends_behind [] key other from not_so below = absurd (true≢false not_so)
ends_behind (x ∷ prefix) [] other from not_so below = absurd (true≢false (sym from))
ends_behind (x ∷ prefix) (y ∷ key) [] from not_so below = less_is_greater below
  where
    less_is_greater : Greater ≡ Less → begins_with (x ∷ prefix) [] ≡ false
    less_is_greater e = refl
ends_behind (x ∷ prefix) (y ∷ key) (z ∷ other) from not_so below =
    go (nat_cmp x y) (ranked x y (nat_cmp x y) refl) refl (nat_cmp y z) (ranked y z (nat_cmp y z) refl) refl (λ f n b. ends_behind prefix key other f n b)
  where
    apart : x < z → begins_with (x ∷ prefix) (z ∷ other) ≡ false
    apart less = ap (λ (b : Bool). b && begins_with prefix other) (other_number x z less)

    not_and : (b : Bool) → b ≡ false → (c : Bool) → (c && b) ≡ false
    not_and b none true = none
    not_and b none false = refl

    go : (r : Ordering) → MatchOrdering r (x < y) (x ≡ y) (y < x) → nat_cmp x y ≡ r → (s : Ordering) → MatchOrdering s (y < z) (y ≡ z) (z < y) → nat_cmp y z ≡ s
        → (is_le (by_bytes prefix key) ≡ true → begins_with prefix key ≡ false → by_bytes key other ≡ Less → begins_with prefix other ≡ false) → begins_with (x ∷ prefix) (z ∷ other) ≡ false
    go Less how is Less then_how then_is behind = apart (omega (arith, how, then_how))
    go Less how is Equal then_how then_is behind = apart (omega (arith, how, then_how))
    go Less how is Greater then_how then_is behind = absurd (greater_less (sym (ap (λ (o : Ordering). ordering_then o (by_bytes key other)) then_is) ∙ below))
      where
        greater_less : Greater ≡ Less → ⊥
        greater_less e = true≢false (ap is_le (sym e))
    go Equal how is Less then_how then_is behind = apart (omega (arith, how, then_how))
    go Equal how is Equal then_how then_is behind =
        not_and (begins_with prefix other)
        (behind (sym (ap (λ (o : Ordering). is_le (ordering_then o (by_bytes prefix key))) is) ∙ from)
        (sym (ap (λ (b : Bool). b && begins_with prefix key) (ap (λ (n : ℕ). x == n) (sym how) ∙ same_number x)) ∙ not_so)
        (sym (ap (λ (o : Ordering). ordering_then o (by_bytes key other)) then_is) ∙ below))
        (x == z)
    go Equal how is Greater then_how then_is behind = absurd (greater_less (sym (ap (λ (o : Ordering). ordering_then o (by_bytes key other)) then_is) ∙ below))
      where
        greater_less : Greater ≡ Less → ⊥
        greater_less e = true≢false (ap is_le (sym e))
    go Greater how is s then_how then_is behind = absurd (true≢false (sym from ∙ ap (λ (o : Ordering). is_le (ordering_then o (by_bytes prefix key))) is))

none_behind : {X : Type 0} (prefix key : List ℕ) (es : List (List ℕ × X)) → is_le (by_bytes prefix key) ≡ true → begins_with prefix key ≡ false → AllByRecursion (λ y. by_bytes key y ≡ Less) (keys_of es) → all_with prefix es ≡ []
none_behind prefix key [] from not_so above = refl
none_behind {X} prefix key (e ∷ es) from not_so above =
    ap (λ (b : Bool). cond b (e ∷ all_with prefix es) (all_with prefix es)) (ends_behind prefix key e.0 from not_so above.0) ∙ none_behind prefix key es from not_so above.1

-- all entries with a beginning are those in front of the entries from it on
pub stand_together : {X : Type 0} (prefix : List ℕ) (es : List (List ℕ × X)) → Ascends es → front_with prefix (from_key prefix es) ≡ all_with prefix es
unfolding IsStrictlySortedBy
stand_together prefix [] ascend = refl
stand_together {X} prefix (e ∷ es) ascend = go (stand_together prefix es ascend.1) (λ from not_so. none_behind prefix e.0 es from not_so ascend.0)
  where
    go : front_with prefix (from_key prefix es) ≡ all_with prefix es → (is_le (by_bytes prefix e.0) ≡ true → begins_with prefix e.0 ≡ false → all_with prefix es ≡ [])
        → front_with prefix (from_key prefix (e ∷ es)) ≡ all_with prefix (e ∷ es)
    go behind none = by_case (begins_with prefix e.0)
        (λ begins.
        ap (λ (b : Bool). front_with prefix (cond b (e ∷ from_key prefix es) (from_key prefix es))) (begins_from prefix e.0 begins)
        ∙ ap (λ (b : Bool). cond b (e ∷ front_with prefix (from_key prefix es)) []) begins
        ∙ ap (λ (xs : List (List ℕ × X)). e ∷ xs) behind
        ∙ sym (ap (λ (b : Bool). cond b (e ∷ all_with prefix es) (all_with prefix es)) begins))
        (λ not_so.
        by_case (is_le (by_bytes prefix e.0))
        (λ from.
        ap (λ (b : Bool). front_with prefix (cond b (e ∷ from_key prefix es) (from_key prefix es))) from
        ∙ ap (λ (b : Bool). cond b (e ∷ front_with prefix (from_key prefix es)) []) not_so
        ∙ sym (ap (λ (b : Bool). cond b (e ∷ all_with prefix es) (all_with prefix es)) not_so ∙ none from not_so))
        (λ below.
        ap (λ (b : Bool). front_with prefix (cond b (e ∷ from_key prefix es) (from_key prefix es))) below
        ∙ behind ∙ sym (ap (λ (b : Bool). cond b (e ∷ all_with prefix es) (all_with prefix es)) not_so)))

-- the test of slices is this one
pub same_test : (prefix key : List ℕ) → starts_with nat_eq key prefix ≡ begins_with prefix key
same_test [] key = refl
same_test (x ∷ prefix) [] = refl
same_test (x ∷ prefix) (y ∷ key) = ap (λ (b : Bool). (x == y) && b) (same_test prefix key)
