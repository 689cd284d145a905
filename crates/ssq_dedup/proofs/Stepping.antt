-- The step leads to the state over its rows too, and shows the epoch's rows, as a bag.
use Rattle.std.proofs.Common.{◌≡◌, ◌++◌, ℕ, ℤ, [], ◌∷◌, Some, None, List, Option, Bool, true, false, All, refl, ap, sym, subst, ◌∙◌, inl, inr, length}
use Rattle.std.specs.Prelude.{◌&&◌, ◌||◌, not, if◌then◌else◌, is_some}
use Rattle.std.specs.BTreeMap.{is_at}
use Rattle.std.specs.Cmp.Lexicographic.{slice_cmp}
use Rattle.std.specs.List.{AllByRecursion, list_any}
use Rattle.std.specs.List.Sorted.{IsPermutation}
use Rattle.std.specs.Map.{lookup}
use Rattle.std.specs.Ordering.{nat_cmp}
use Rattle.std.proofs.lemmas.List.{append-nil}
use Rattle.std.proofs.lemmas.List.Elements.{All-from_recursion, recursion_from_All}
use Rattle.std.proofs.lemmas.List.Sorted.{IsPermutation-refl}
use Rattle.ssq_value.specs.Key.{IsSpelled, keys_of}
use Rattle.ssq_version.specs.State.{Change, IsAfter, State, by_bytes, value_after, value_at}
use Rattle.ssq_shape.specs.declared.bound.Bound.{Bound}
use Rattle.ssq_shape.specs.declared.bound.Shape.{Shape}
use Rattle.ssq_meaning.specs.FedRows.{FedRow}
use Rattle.ssq_meaning.specs.Dedup.{closing_time, firsts, is_closed, kept, values_in}
use Rattle.ssq_meaning.specs.DedupLaws.{Follows, entry_if, is_held, is_held_next}
use Rattle.ssq_meaning.specs.Group.{has_key, is_same}
use Rattle.ssq_meaning.specs.GroupLaws.{IsKeySpelled}
use Rattle.ssq_meaning.specs.Keyed.{key_length_by, key_time_by}
use Rattle.ssq_meaning.specs.Meaning.{Values}
use Rattle.ssq_meaning.specs.Operator.{dedup}
use Rattle.ssq_meaning.proofs.Keys.{same_is}
use Rattle.ssq_step.specs.declared.stepped.Stepped.{Stepped}
use Rattle.ssq_step.specs.Forgetting.{IsGone}
use Rattle.ssq_step.specs.Indexing.{AreDueKeys, Indexes, IsIndexBy, IsReadableKey, Timed}
use Rattle.ssq_step.specs.Steps.{IsStep}
use Rattle.ssq_step.proofs.ByBytes.{any_by, spelled_key}
use Rattle.ssq_step.proofs.Lists.{back_all, front_all}
use Rattle.ssq_dedup.specs.Firsts.{HoldsKeys, IsKeyed, SaysFirsts, first_among, said_if}
use Rattle.ssq_dedup.specs.Steps.{Given, IsKept}
use Rattle.ssq_dedup.proofs.Taking.{among_are}

-- ---- the laws

abbrev pub AreFound : Type 0
AreFound = (query : Bound) (columns : List ℕ) (rows : List FedRow) (now : Option ℤ) (key : Values) → All IsSpelled key → AllByRecursion (λ (row : FedRow). IsKeySpelled (length key) row.key) rows
    → lookup (is_at (slice_cmp nat_cmp (keys_of key))) (kept query columns rows now) ≡ entry_if (is_held query columns rows now key)

abbrev pub AreOwn : Type 0
AreOwn = (query : Bound) (columns : List ℕ) (rows : List FedRow) (now : Option ℤ) (bytes value : List ℕ) → lookup (is_at (slice_cmp nat_cmp bytes)) (kept query columns rows now) ≡ Some value
    → (key : Values) × (bytes ≡ keys_of key) × (has_key rows key ≡ true)

abbrev pub AreNext : Type 0
AreNext = (query : Bound) (columns : List ℕ) (old new : List FedRow) (before now : Option ℤ) → Follows query columns new before now → (key : Values)
    → is_held query columns (old ++ new) now key ≡ is_held_next (is_closed query columns now key) (is_held query columns old before key) (has_key new key)

abbrev pub AreKnown : Type 0
AreKnown = (query : Bound) (columns : List ℕ) (old new : List FedRow) (before now : Option ℤ) → Follows query columns new before now
    → All (λ (row : FedRow). is_held query columns old before row.key ≡ has_key old row.key) new

abbrev pub AreEnded : Type 0
AreEnded = (query : Bound) (columns : List ℕ) (old new : List FedRow) (before now : Option ℤ) → Follows query columns new before now → (key : Values)
    → is_closed query columns now key ≡ true → has_key new key ≡ false

-- ---- rows that can be kept

module _ (columns : List ℕ) where
  readable : (row : FedRow) → IsKept columns row → IsKeyed (length columns) row
  readable row is = record { values = is.fit.key; many = is.many }

  pub keyed_rows : (rows : List FedRow) → AllByRecursion (IsKept columns) rows → AllByRecursion (IsKeyed (length columns)) rows
  keyed_rows [] all = tt
  keyed_rows (row ∷ rows) all = (readable row all.0, keyed_rows rows all.1)

  spelled_rows : (rows : List FedRow) → AllByRecursion (IsKept columns) rows → AllByRecursion (λ (row : FedRow). IsKeySpelled (length columns) row.key) rows
  spelled_rows [] all = tt
  spelled_rows (row ∷ rows) all = (spelled_key (length columns) row.key (readable row all.0), spelled_rows rows all.1)

  key_readable : (rows : List FedRow) (key : Values) → AllByRecursion (IsKept columns) rows → has_key rows key ≡ true → IsReadableKey (length columns) key
  key_readable [] key all has = absurd cc
  key_readable (row ∷ rows) key all has = by (is_same key row.key) refl has (key_readable rows key all.1)
    where
      by : (b : Bool) → is_same key row.key ≡ b → (b || has_key rows key) ≡ true → (has_key rows key ≡ true → IsReadableKey (length columns) key) → IsReadableKey (length columns) key
      by true same has rest = subst (IsReadableKey (length columns)) (sym (same_is key row.key same)) (readable row all.0)
      by false other has rest = rest has

  kept_at : AreFound → (query : Bound) (rows : List FedRow) (now : Option ℤ) → AllByRecursion (IsKept columns) rows → (key : Values) → IsReadableKey (length columns) key
      → value_at (kept query columns rows now) (keys_of key) ≡ entry_if (is_held query columns rows now key)
  kept_at found query rows now all key is =
      found query columns rows now key (spelled_key (length columns) key is).0
      (subst (λ n. AllByRecursion (λ (row : FedRow). IsKeySpelled n row.key) rows) (sym is.many) (spelled_rows rows all))

-- ---- keys that are due

some_entry : (b : Bool) → is_some (entry_if b) ≡ b
some_entry true = refl
some_entry false = refl

by_flags : (closed was touched : Bool) → (closed ≡ true → touched ≡ false)
    → entry_if (is_held_next closed was touched) ≡ value_after (if was && closed then Some None else said_if (not was && touched) None) (entry_if was)
by_flags true true true ends = let no : true ≡ false = ends refl in absurd cc
by_flags true false true ends = let no : true ≡ false = ends refl in absurd cc
by_flags true true false ends = refl
by_flags true false false ends = refl
by_flags false true touched ends = refl
by_flags false false true ends = refl
by_flags false false false ends = refl

-- ---- the step

module _ (query : Bound) (columns : List ℕ) (state : State) (closing : List Timed) (old new : List FedRow) (before now : Option ℤ) (given : Given query columns state closing old new before now)
    (found : AreFound) (own : AreOwn) where
  all_rows : AllByRecursion (IsKept columns) (old ++ new)
  all_rows = recursion_from_All (IsKept columns) (old ++ new) given.rows

  olds : AllByRecursion (IsKept columns) old
  olds = front_all (IsKept columns) old new all_rows

  pub keyed : All (IsKeyed (length columns)) new
  keyed = All-from_recursion (IsKeyed (length columns)) new (keyed_rows columns new (back_all (IsKept columns) old new all_rows))

  pub holds : HoldsKeys (length columns) state (is_held query columns old before)
  holds key is = ap (λ (s : State). value_at s (keys_of key)) given.kept ∙ kept_at columns found query old before olds key is

  pub indexes : Indexes (length columns) (closing_time query columns) state closing
  indexes = subst (λ (shape : Shape). Indexes (key_length_by shape) (key_time_by shape query) state closing) given.repeats (subst (λ (shape : Shape). IsIndexBy shape query state closing) given.repeats given.indexed)

  module _ (next : AreNext) (ended : AreEnded) (first change : Change) (keys : List (List ℕ)) (says : SaysFirsts (length columns) (is_held query columns old before) new [] first)
      (due : AreDueKeys (length columns) (closing_time query columns) state now keys) (gone : IsGone keys first change) where
    -- the keys that go are those that are kept and closed
    goes : (key : Values) → IsReadableKey (length columns) key → list_any (is_at (by_bytes (keys_of key))) keys ≡ (is_held query columns old before key && is_closed query columns now key)
    goes key is =
        any_by (keys_of key) keys (is_held query columns old before key && is_closed query columns now key)
        (due key is ∙ ap (λ b. if b && is_closed query columns now key then 1 else 0) (ap is_some (holds key is) ∙ some_entry (is_held query columns old before key)))

    said : (key : Values) → IsReadableKey (length columns) key → value_at change (keys_of key)
        ≡ (if is_held query columns old before key && is_closed query columns now key then Some None else said_if (not (is_held query columns old before key) && has_key new key) None)
    said key is = gone (keys_of key) ∙ (λ i. if goes key is i then Some None else says.told key is i)

    at_key : (key : Values) → IsReadableKey (length columns) key → value_at (kept query columns (old ++ new) now) (keys_of key) ≡ value_after (value_at change (keys_of key)) (value_at state (keys_of key))
    at_key key is =
        kept_at columns found query (old ++ new) now all_rows key is
        ∙ ap entry_if (next query columns old new before now given.follows key)
        ∙ by_flags (is_closed query columns now key) (is_held query columns old before key) (has_key new key) (ended query columns old new before now given.follows key)
        ∙ (λ i. value_after (sym (said key is) i) (sym (holds key is) i))

    at_bytes : (q : List ℕ) (key : Values) → q ≡ keys_of key → IsReadableKey (length columns) key → value_at (kept query columns (old ++ new) now) q ≡ value_after (value_at change q) (value_at state q)
    at_bytes q key same is =
        ap (value_at (kept query columns (old ++ new) now)) same ∙ at_key key is ∙ ap (λ k. value_after (value_at change k) (value_at state k)) (sym same)

    -- bytes that the state after has are those of a key
    new_entry : (q v : List ℕ) → value_at (kept query columns (old ++ new) now) q ≡ Some v → value_at (kept query columns (old ++ new) now) q ≡ value_after (value_at change q) (value_at state q)
    new_entry q v is =
        let key = own query columns (old ++ new) now q v is in
        at_bytes q key.0 key.1 (key_readable columns (old ++ new) key.0 all_rows key.2)

    -- and so are those that the state before has
    old_entry : (q v : List ℕ) → value_at state q ≡ Some v → value_at (kept query columns (old ++ new) now) q ≡ value_after (value_at change q) (value_at state q)
    old_entry q v is =
        let key = own query columns old before q v (ap (λ (s : State). value_at s q) (sym given.kept) ∙ is) in
        at_bytes q key.0 key.1 (key_readable columns old key.0 olds key.2)

    pub leads : IsAfter change state (kept query columns (old ++ new) now)
    leads q = elim (says.only q) [
      | inl key ↦ at_bytes q key.0 key.1 key.2
      | inr same ↦ by (list_any (is_at (by_bytes q)) keys) refl (value_at state q) refl (value_at (kept query columns (old ++ new) now) q) refl same
    ]
      where
        by : (b : Bool) → list_any (is_at (by_bytes q)) keys ≡ b → (s : Option (List ℕ)) → value_at state q ≡ s → (n : Option (List ℕ)) → value_at (kept query columns (old ++ new) now) q ≡ n
            → value_at first q ≡ None → value_at (kept query columns (old ++ new) now) q ≡ value_after (value_at change q) (value_at state q)
        by b any s state_is (Some v) new_is unsaid = new_entry q v new_is
        by b any (Some v) state_is None new_is unsaid = old_entry q v state_is
        by true any None state_is None new_is unsaid =
            new_is ∙ sym (ap (λ c. value_after c (value_at state q)) (gone q ∙ ap (λ b. if b then Some None else value_at first q) any))
        by false any None state_is None new_is unsaid =
            new_is ∙ sym ((λ i. value_after ((gone q ∙ ap (λ b. if b then Some None else value_at first q) any ∙ unsaid) i) (state_is i)))

    pub is_step : AreKnown → (stepped : Stepped) → stepped.change ≡ change → stepped.rows.items ≡ values_in (first_among (is_held query columns old before) [] new)
        → IsStep (dedup query columns) state old new before now stepped
    is_step known stepped same shown = record {
      leads = subst (λ (c : Change). IsAfter c state (kept query columns (old ++ new) now)) (sym same) leads;
      shown = subst (λ (rows : List Values). IsPermutation stepped.rows.items rows) rows_are (IsPermutation-refl stepped.rows.items);
      faultless = refl;
    }
      where
        rows_are : stepped.rows.items ≡ values_in (firsts old new)
        rows_are =
            shown
            ∙ ap values_in (among_are (is_held query columns old before) old [] new (recursion_from_All (λ (row : FedRow). is_held query columns old before row.key ≡ has_key old row.key) new (known query columns old new before now given.follows))
            ∙ ap (λ e. firsts e new) (append-nil old))
