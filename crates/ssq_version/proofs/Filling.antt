-- A state that kept nothing, of what a change gives.
use Rattle.std.proofs.Common.{◌≡◌, ℕ, arith, length, true, false, Option, Some, None, List, [], ◌∷◌, ◌++◌, refl, sym, ap, subst, ◌∙◌, append_assoc}
use Rattle.std.specs.Prelude.{◌==◌}
use Rattle.std.specs.List.{AllByRecursion}
use Rattle.std.specs.List.Sorted.{IsStrictlySortedBy}
use Rattle.std.specs.Map.{keys_of, values_of}
use Rattle.std.specs.declared.cmp.Ordering.TheVariants.{Less}
use Rattle.std.specs.BTreeMap.{is_at}
use Rattle.std.proofs.lemmas.Bool.Decides.{nat_tests}
use Rattle.std.proofs.lemmas.List.{append-nil}
use Rattle.std.proofs.lemmas.List.Elements.{All-from_recursion, recursion_from_All}
use Rattle.ssq_version.specs.State.{State, Change, Ascends, IsAfter, IsChange, IsShort, IsShortOrNone, IsState, by_bytes, given_by, given_first, value_after, value_at}
use Rattle.ssq_version.proofs.Values.{by_case, one_key, first_at, others_at, none_behind, ascends_behind}

-- ---- entry by entry

given_on : (key : List ℕ) (value : Option (List ℕ)) (rest : State) → given_first key value [] ++ rest ≡ given_first key value rest
given_on key None rest = refl
given_on key (Some value) rest = refl

pub given_begins : (made : State) (all left : Change) → made ≡ [] → left ≡ all → made ++ given_by left ≡ given_by all
given_begins made all left none same = ap (λ (s : State). s ++ given_by left) none ∙ ap given_by same

pub given_more : (made more all : State) (left rest : Change) (key : List ℕ) (value : Option (List ℕ)) → more ≡ made ++ given_first key value [] → left ≡ (key, value) ∷ rest
    → made ++ given_by left ≡ all → more ++ given_by rest ≡ all
given_more made more all left rest key value push step is =
    ap (λ (s : State). s ++ given_by rest) push
    ∙ append_assoc made (given_first key value []) (given_by rest)
    ∙ ap (λ (s : State). made ++ s) (given_on key value (given_by rest))
    ∙ sym (ap (λ (l : Change). made ++ given_by l) step)
    ∙ is

pub given_ends : (made all : State) (left : Change) → left ≡ [] → made ++ given_by left ≡ all → made ≡ all
given_ends made all left none is = sym (append-nil made) ∙ sym (ap (λ (l : Change). made ++ given_by l) none) ∙ is

-- ---- all of them

-- what holds of keys and of values that are given
below_given : (k : List ℕ) (change : Change) → AllByRecursion (λ y. by_bytes k y ≡ Less) (keys_of change) → AllByRecursion (λ y. by_bytes k y ≡ Less) (keys_of (given_by change))
below_given k [] all = tt
below_given k (entry ∷ change) all = go entry.1 (below_given k change all.1)
  where
    go : (value : Option (List ℕ)) → AllByRecursion (λ y. by_bytes k y ≡ Less) (keys_of (given_by change)) → AllByRecursion (λ y. by_bytes k y ≡ Less) (keys_of (given_first entry.0 value (given_by change)))
    go None behind = behind
    go (Some value) behind = (all.0, behind)

ascend_given : (change : Change) → Ascends change → Ascends (given_by change)
unfolding IsStrictlySortedBy
ascend_given [] ascend = tt
ascend_given (entry ∷ change) ascend = go entry.1 (ascend_given change ascend.1)
  where
    go : (value : Option (List ℕ)) → Ascends (given_by change) → Ascends (given_first entry.0 value (given_by change))
    go None behind = behind
    go (Some value) behind = (below_given entry.0 change ascend.0, behind)

short_keys : (change : Change) → AllByRecursion IsShort (keys_of change) → AllByRecursion IsShort (keys_of (given_by change))
short_keys [] all = tt
short_keys (entry ∷ change) all = go entry.1 (short_keys change all.1)
  where
    go : (value : Option (List ℕ)) → AllByRecursion IsShort (keys_of (given_by change)) → AllByRecursion IsShort (keys_of (given_first entry.0 value (given_by change)))
    go None behind = behind
    go (Some value) behind = (all.0, behind)

short_values : (change : Change) → AllByRecursion IsShortOrNone (values_of change) → AllByRecursion IsShort (values_of (given_by change))
short_values [] all = tt
short_values (entry ∷ change) all = go entry.1 all.0 (short_values change all.1)
  where
    go : (value : Option (List ℕ)) → IsShortOrNone value → AllByRecursion IsShort (values_of (given_by change)) → AllByRecursion IsShort (values_of (given_first entry.0 value (given_by change)))
    go None short behind = behind
    go (Some value) short behind = (short, behind)

pub given_ascends : (change : Change) (made : State) → IsChange change → made ≡ given_by change → Ascends made
given_ascends change made kept given = subst (Ascends {X = List ℕ}) (sym given) (ascend_given change kept.ascend)

pub given_kept : (change : Change) → IsChange change → IsState (given_by change)
given_kept change kept = record {
  ascend = ascend_given change kept.ascend;
  keys = All-from_recursion IsShort (keys_of (given_by change)) (short_keys change (recursion_from_All IsShort (keys_of change) kept.keys));
  values = All-from_recursion IsShort (values_of (given_by change)) (short_values change (recursion_from_All IsShortOrNone (values_of change) kept.values));
}

-- what a key has in them is what the change gives it
pub given_at : (change : Change) → Ascends change → (key : List ℕ) → value_at (given_by change) key ≡ value_after (value_at change key) None
given_at [] ascend key = refl
given_at (entry ∷ change) ascend key =
    let behind : Ascends change = ascends_behind entry.0 entry.1 change ascend in
    by_case (is_at (by_bytes key) entry.0)
    (λ here. given_here entry.1 here (given_at change behind key) ∙ sym (ap (λ (said : Option (Option (List ℕ))). value_after said None) (first_at entry.0 entry.1 change key here)))
    (λ there. given_there entry.1 there ∙ given_at change behind key ∙ sym (ap (λ (said : Option (Option (List ℕ))). value_after said None) (others_at entry.0 entry.1 change key there)))
  where
    given_here : (value : Option (List ℕ)) → is_at (by_bytes key) entry.0 ≡ true → value_at (given_by change) key ≡ value_after (value_at change key) None
        → value_at (given_first entry.0 value (given_by change)) key ≡ value_after (Some value) None
    given_here None here is =
        is
        ∙ ap (λ (said : Option (Option (List ℕ))). value_after said None) (ap (λ (k : List ℕ). value_at change k) (one_key key entry.0 here) ∙ none_behind entry.0 entry.1 change ascend)
    given_here (Some value) here is = first_at entry.0 value (given_by change) key here

    given_there : (value : Option (List ℕ)) → is_at (by_bytes key) entry.0 ≡ false → value_at (given_first entry.0 value (given_by change)) key ≡ value_at (given_by change) key
    given_there None there = refl
    given_there (Some value) there = others_at entry.0 value (given_by change) key there

-- ---- the state

pub made_kept : (change : Change) (made new : State) → IsChange change → made ≡ given_by change → new ≡ made → IsState new
made_kept change made new kept given is = subst IsState (sym (is ∙ given)) (given_kept change kept)

pub made_after : (change : Change) (old made new : State) → IsChange change → old ≡ [] → made ≡ given_by change → new ≡ made → IsAfter change old new
made_after change old made new kept empty given is key =
    ap (λ (s : State). value_at s key) (is ∙ given)
    ∙ given_at change kept.ascend key
    ∙ sym (ap (λ (s : State). value_after (value_at change key) (value_at s key)) empty)

pub is_nothing : (state : State) → (length state == 0) ≡ true → state ≡ []
is_nothing [] is = refl
is_nothing (entry ∷ state) is = absurd (grind (arith, nat_tests, is))
