-- What is kept of keys, by their bytes.
use Rattle.std.proofs.Common.{◌≡◌, ◌++◌, [], ◌∷◌, ℕ, ℤ, List, Option, Some, None, Bool, true, false, refl, ap, sym, ◌∙◌, arith, filter, map, length}
use Rattle.std.specs.Prelude.{◌&&◌, ◌||◌, not, if◌then◌else◌, All, T, option_map, cond}
use Rattle.std.specs.declared.cmp.Ordering.{Ordering}
use Rattle.std.specs.declared.cmp.Ordering.TheVariants.{Less, Equal, Greater}
use Rattle.std.specs.BTreeMap.{is_at}
use Rattle.std.specs.Cmp.Lexicographic.{slice_cmp, nat_list_cmp_total}
use Rattle.std.specs.FinMap.{entries, from_entries, entries_sorted, get-entries, get-from_entries, find, nat_cmp-IsAntisymmetric, slice_cmp-IsAntisymmetric}
use Rattle.std.specs.FinMap.Entries.{is_sorted, below_all}
use Rattle.std.specs.List.{AllByRecursion, list_any}
use Rattle.std.specs.List.Sorted.{IsStrictlySortedBy}
use Rattle.std.specs.Map.{lookup}
use Rattle.std.specs.Ordering.{nat_cmp, is_eq, is_lt}
use Rattle.std.proofs.lemmas.Cmp.{tied_itself}
use Rattle.std.proofs.lemmas.Bool.{or_right}
use Rattle.ssq_value.specs.Key.{keys_of, IsSpelled}
use Rattle.ssq_shape.specs.declared.bound.Bound.{Bound}
use Rattle.ssq_shape.specs.declared.bound.Grouping.{Grouping}
use Rattle.ssq_shape.specs.declared.bound.Joining.{Joining}
use Rattle.ssq_meaning.specs.FedRows.{FedRow}
use Rattle.ssq_meaning.specs.declared.total.Total.{Total}
use Rattle.ssq_meaning.specs.Dedup as repeats
use Rattle.ssq_meaning.specs.DedupLaws.{is_held, entry_if}
use Rattle.ssq_meaning.specs.Group.{is_same, keys_in, has_key, totals_in, is_closed, kept}
use Rattle.ssq_meaning.specs.GroupLaws.{times, held_if, held, IsKeySpelled}
use Rattle.ssq_meaning.specs.Join as pairs
use Rattle.ssq_meaning.specs.Meaning.{Values}
use Rattle.ssq_meaning.specs.Totals.{totals_bytes}
use Rattle.ssq_meaning.proofs.Counted.{times_in}
use Rattle.ssq_meaning.proofs.Grouped.{keys_of_rows}
use Rattle.ssq_meaning.proofs.Keys.{same_is, same_itself, All-by, All-distinct, times_passing}

abbrev by_bytes : List ℕ → List ℕ → Ordering
by_bytes = slice_cmp nat_cmp

pub is_equal : (r : Ordering) → is_eq r ≡ true → r ≡ Equal
is_equal Less is = absurd cc
is_equal Equal is = refl
is_equal Greater is = absurd cc

-- a key that stands at most once
pub any_by : (key : Values) (keys : List Values) (b : Bool) → times key keys ≡ (if b then 1 else 0) → list_any (is_same key) keys ≡ b
any_by key [] true is = absurd (omega (arith, is))
any_by key [] false is = refl
any_by key (other ∷ keys) b is = by (is_same key other) b (any_by key keys) is
  where
    by : (s c : Bool) → ((c : Bool) → times key keys ≡ (if c then 1 else 0) → list_any (is_same key) keys ≡ c)
        → length (if s then other ∷ filter (is_same key) keys else filter (is_same key) keys) ≡ (if c then 1 else 0) → (s || list_any (is_same key) keys) ≡ c
    by true true rest is = refl
    by true false rest is = absurd (omega (arith, is))
    by false c rest is = rest c is

pub found_is : {X : Type 0} (q : List ℕ) (es : List (List ℕ × X)) → lookup (is_at (by_bytes q)) es ≡ find by_bytes q es
found_is q [] = refl
found_is q (e ∷ es) = ap (λ o. cond (is_eq (by_bytes q e.0)) (Some e.1) o) (found_is q es)

-- that keys of one number of values are apart by their bytes
abbrev pub AreApart : Type 0
AreApart = (left right : Values) (x y : List ℕ) → length left ≡ length right → All IsSpelled left → All IsSpelled right → keys_of left ++ x ≡ keys_of right ++ y → (left ≡ right) × (x ≡ y)

-- the keys of rows that pass a test, each with its value
abbrev entry_with : (Values → List ℕ) → Values → List ℕ × List ℕ
entry_with value key = (keys_of key, value key)

abbrev pub kept_by : (Values → Bool) → (Values → List ℕ) → List FedRow → List (List ℕ × List ℕ)
kept_by is_open value rows = entries (from_entries {R = slice_cmp nat_cmp} (map (entry_with value) (filter is_open (keys_in rows))))

open_among : (is_open : Values → Bool) (rows : List FedRow) (key : Values) → list_any (is_same key) (filter is_open (keys_in rows)) ≡ (has_key rows key && is_open key)
open_among is_open rows key =
    any_by key (filter is_open (keys_in rows)) (has_key rows key && is_open key)
    (times_passing key is_open (keys_in rows) ∙ ap (λ n. if is_open key then n else 0) (times_in key rows) ∙ by (is_open key) (has_key rows key))
  where
    by : (a b : Bool) → ◌≡◌ {A = ℕ} (if a then (if b then 1 else 0) else 0) (if (b && a) then 1 else 0)
    by true true = refl
    by true false = refl
    by false true = refl
    by false false = refl

module _ (is_open : Values → Bool) (value : Values → List ℕ) (rows : List FedRow) (key : Values) (apart : AreApart) (spelled : All IsSpelled key) where
  -- two keys have the same bytes exactly where they are the same
  same_bytes : (other : Values) → IsKeySpelled (length key) other → is_eq (by_bytes (keys_of key) (keys_of other)) ≡ is_same key other
  same_bytes other are = by (is_eq (by_bytes (keys_of key) (keys_of other))) (is_same key other) refl refl
    where
      by : (a b : Bool) → is_eq (by_bytes (keys_of key) (keys_of other)) ≡ a → is_same key other ≡ b → is_eq (by_bytes (keys_of key) (keys_of other)) ≡ is_same key other
      by true true is same = is ∙ sym same
      by false false is same = is ∙ sym same
      by true false is same =
          let bytes : keys_of key ≡ keys_of other = slice_cmp-IsAntisymmetric nat_cmp-IsAntisymmetric (keys_of key) (keys_of other) (is_equal (by_bytes (keys_of key) (keys_of other)) is) in
          let one : key ≡ other = (apart key other [] [] (sym are.1) spelled are.0 (ap (λ b. b ++ []) bytes)).0 in
          let no : true ≡ false = sym (same_itself key) ∙ ap (is_same key) one ∙ same in absurd cc
      by false true is same =
          let no : true ≡ false = ap is_eq (sym (tied_itself nat_list_cmp_total (keys_of key))) ∙ ap (λ k. is_eq (by_bytes (keys_of key) (keys_of k))) (same_is key other same) ∙ is in absurd cc

  found_among : (keys : List Values) → AllByRecursion (IsKeySpelled (length key)) keys
      → find by_bytes (keys_of key) (map (entry_with value) keys) ≡ (if list_any (is_same key) keys then Some (value key) else None)
  found_among [] all = refl
  found_among (other ∷ keys) all = by (is_same key other) refl (found_among keys all.1)
    where
      by : (b : Bool) → is_same key other ≡ b → find by_bytes (keys_of key) (map (entry_with value) keys) ≡ (if list_any (is_same key) keys then Some (value key) else None)
          → cond (is_eq (by_bytes (keys_of key) (keys_of other))) (Some (value other)) (find by_bytes (keys_of key) (map (entry_with value) keys))
          ≡ (if (b || list_any (is_same key) keys) then Some (value key) else None)
      by true same rest =
          ap (λ b. cond b (Some (value other)) (find by_bytes (keys_of key) (map (entry_with value) keys))) (same_bytes other all.0 ∙ same)
          ∙ ap (λ k. Some (value k)) (sym (same_is key other same))
      by false same rest =
          ap (λ b. cond b (Some (value other)) (find by_bytes (keys_of key) (map (entry_with value) keys))) (same_bytes other all.0 ∙ same) ∙ rest

  pub kept_found : AllByRecursion (λ (row : FedRow). IsKeySpelled (length key) row.key) rows
      → lookup (is_at (by_bytes (keys_of key))) (kept_by is_open value rows) ≡ (if has_key rows key && is_open key then Some (value key) else None)
  kept_found all =
      found_is (keys_of key) (kept_by is_open value rows)
      ∙ sym (get-entries (from_entries {R = by_bytes} (map (entry_with value) (filter is_open (keys_in rows)))) (keys_of key))
      ∙ get-from_entries nat_list_cmp_total (map (entry_with value) (filter is_open (keys_in rows))) (keys_of key)
      ∙ found_among (filter is_open (keys_in rows))
      (All-by (IsKeySpelled (length key)) is_open (keys_in rows)
      (All-distinct (IsKeySpelled (length key)) (map (λ (row : FedRow). row.key) rows) (keys_of_rows (IsKeySpelled (length key)) rows all)))
      ∙ ap (λ b. if b then Some (value key) else None) (open_among is_open rows key)

as_held : (b : Bool) (totals : List Total) → (if b then Some (totals_bytes totals) else None) ≡ option_map totals_bytes (held_if b totals)
as_held true totals = refl
as_held false totals = refl

pub all_found : AreApart
    → (query : Bound) (grouping : Grouping) (rows : List FedRow) (now : Option ℤ) (key : Values) → All IsSpelled key → AllByRecursion (λ (row : FedRow). IsKeySpelled (length key) row.key) rows
    → lookup (is_at (by_bytes (keys_of key))) (kept query grouping rows now) ≡ option_map totals_bytes (held query grouping rows now key)
all_found apart query grouping rows now key spelled all =
    kept_found (λ key. not (is_closed query grouping now key)) (λ key. totals_bytes (totals_in grouping rows key)) rows key apart spelled all
    ∙ as_held (has_key rows key && not (is_closed query grouping now key)) (totals_in grouping rows key)

as_entry : (b : Bool) → (if b then Some [] else None) ≡ entry_if b
as_entry true = refl
as_entry false = refl

-- and of rows without repeats
pub repeats_found : AreApart
    → (query : Bound) (columns : List ℕ) (rows : List FedRow) (now : Option ℤ) (key : Values) → All IsSpelled key → AllByRecursion (λ (row : FedRow). IsKeySpelled (length key) row.key) rows
    → lookup (is_at (by_bytes (keys_of key))) (repeats.kept query columns rows now) ≡ entry_if (is_held query columns rows now key)
repeats_found apart query columns rows now key spelled all =
    kept_found (λ key. not (repeats.is_closed query columns now key)) (λ key. []) rows key apart spelled all ∙ as_entry (is_held query columns rows now key)

-- ---- each key that is kept is a row's

pub first_true : (a b : Bool) → (a && b) ≡ true → a ≡ true
first_true true b is = refl
first_true false b is = absurd cc

entry_among : (value : Values → List ℕ) (q v : List ℕ) (keys : List Values) → find by_bytes q (map (entry_with value) keys) ≡ Some v → (key : Values) × (q ≡ keys_of key) × (list_any (is_same key) keys ≡ true)
entry_among value q v [] is = absurd cc
entry_among value q v (key ∷ keys) is = by (is_eq (by_bytes q (keys_of key))) refl is (entry_among value q v keys)
  where
    by : (b : Bool) → is_eq (by_bytes q (keys_of key)) ≡ b → cond b (Some (value key)) (find by_bytes q (map (entry_with value) keys)) ≡ Some v
        → (find by_bytes q (map (entry_with value) keys) ≡ Some v → (other : Values) × (q ≡ keys_of other) × (list_any (is_same other) keys ≡ true))
        → (other : Values) × (q ≡ keys_of other) × ((is_same other key || list_any (is_same other) keys) ≡ true)
    by true at has rest =
        (key, slice_cmp-IsAntisymmetric nat_cmp-IsAntisymmetric q (keys_of key) (is_equal (by_bytes q (keys_of key)) at), ap (λ b. b || list_any (is_same key) keys) (same_itself key))
    by false apart has rest = let found = rest has in (found.0, found.1, or_right (is_same found.0 key) (list_any (is_same found.0) keys) found.2)

pub repeats_own : (query : Bound) (columns : List ℕ) (rows : List FedRow) (now : Option ℤ) (q v : List ℕ) → lookup (is_at (by_bytes q)) (repeats.kept query columns rows now) ≡ Some v
    → (key : Values) × (q ≡ keys_of key) × (has_key rows key ≡ true)
repeats_own query columns rows now q v is =
    let is_open : Values → Bool = λ key. not (repeats.is_closed query columns now key) in
    let found = entry_among (λ key. []) q v (repeats.open_keys query columns rows now)
    (sym (get-from_entries nat_list_cmp_total (map repeats.entry_of (repeats.open_keys query columns rows now)) q)
    ∙ get-entries (from_entries {R = by_bytes} (map repeats.entry_of (repeats.open_keys query columns rows now))) q
    ∙ sym (found_is q (repeats.kept query columns rows now)) ∙ is) in
    (found.0, found.1, first_true (has_key rows found.0) (is_open found.0) (sym (open_among is_open rows found.0) ∙ found.2))

-- ---- the order of keys

both_hold : (a b : Bool) → T (a && b) → T a × T b
both_hold true b holds = (tt, holds)
both_hold false b holds = absurd holds

is_less : (r : Ordering) → T (is_lt r) → r ≡ Less
is_less Less is = refl
is_less Equal is = absurd is
is_less Greater is = absurd is

below_each : {X : Type 0} (key : List ℕ) (es : List (List ℕ × X)) → T (below_all by_bytes key es) → AllByRecursion (λ other. by_bytes key other ≡ Less) (map (λ (e : List ℕ × X). e.0) es)
below_each key [] below = tt
below_each key (e ∷ es) below =
    let parts = both_hold (is_lt (by_bytes key e.0)) (below_all by_bytes key es) below in
    (is_less (by_bytes key e.0) parts.0, below_each key es parts.1)

sorted_is : {X : Type 0} (es : List (List ℕ × X)) → T (is_sorted by_bytes es) → IsStrictlySortedBy by_bytes (map (λ (e : List ℕ × X). e.0) es)
unfolding IsStrictlySortedBy
sorted_is [] sorted = tt
sorted_is (e ∷ es) sorted =
    let parts = both_hold (below_all by_bytes e.0 es) (is_sorted by_bytes es) sorted in
    (below_each e.0 es parts.0, sorted_is es parts.1)

ascends_by : (is_open : Values → Bool) (value : Values → List ℕ) (rows : List FedRow) → IsStrictlySortedBy by_bytes (map (λ (entry : List ℕ × List ℕ). entry.0) (kept_by is_open value rows))
ascends_by is_open value rows = sorted_is (kept_by is_open value rows) (entries_sorted (from_entries {R = by_bytes} (map (entry_with value) (filter is_open (keys_in rows)))))

pub kept_ascends : (query : Bound) (grouping : Grouping) (rows : List FedRow) (now : Option ℤ) → IsStrictlySortedBy by_bytes (map (λ (entry : List ℕ × List ℕ). entry.0) (kept query grouping rows now))
kept_ascends query grouping rows now = ascends_by (λ key. not (is_closed query grouping now key)) (λ key. totals_bytes (totals_in grouping rows key)) rows

pub rows_ascend : (joining : Joining) (rows : List FedRow) (now : Option ℤ) → IsStrictlySortedBy by_bytes (map (λ (entry : List ℕ × List ℕ). entry.0) (pairs.kept joining rows now))
rows_ascend joining rows now =
    sorted_is (pairs.kept joining rows now) (entries_sorted (from_entries {R = by_bytes} (map (pairs.entry_of joining rows) (pairs.open_rows joining rows now))))

pub repeats_ascend : (query : Bound) (columns : List ℕ) (rows : List FedRow) (now : Option ℤ) → IsStrictlySortedBy by_bytes (map (λ (entry : List ℕ × List ℕ). entry.0) (repeats.kept query columns rows now))
repeats_ascend query columns rows now = ascends_by (λ key. not (repeats.is_closed query columns now key)) (λ key. []) rows
