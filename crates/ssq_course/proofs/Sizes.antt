-- How many bytes and entries the states of a query have.
use Rattle.std.proofs.Common.{◌≡◌, ◌≤◌, ◌+◌, ◌*◌, ◌++◌, [], ◌∷◌, ℕ, zero, suc, ℤ, List, Option, Bool, true, false, refl, sym, ◌∙◌, subst, map, filter, length, arith}
use Rattle.std.specs.Prelude.{if◌then◌else◌, fold, not, All}
use Rattle.std.specs.declared.cmp.Ordering.{Ordering}
use Rattle.std.specs.declared.cmp.Ordering.TheVariants.{Less, Equal, Greater}
use Rattle.std.specs.Cmp.Lexicographic.{nat_list_cmp_total}
use Rattle.std.specs.FinMap.{empty, entries, entries-insert, from_entries, len-empty, len-entries, put}
use Rattle.std.specs.FinMap.Entries.{by_order}
use Rattle.std.specs.Int.{w32, w64, to_be_bytes}
use Rattle.std.specs.List.{AllByRecursion}
use Rattle.std.specs.Map.{keys_of as keys_in_entries, values_of}
use Rattle.std.proofs.lemmas.List.{length-append, length-map}
use Rattle.std.proofs.lemmas.List.Elements.{All-from_recursion, recursion_from_All}
use Rattle.ssq_value.specs.declared.value.Value.{Value}
use Rattle.ssq_value.specs.declared.value.Value.TheVariants as value
use Rattle.ssq_value.specs.Key.{key_of, keys_of}
use Rattle.ssq_shape.specs.declared.bound.Aggregate.{Aggregate}
use Rattle.ssq_shape.specs.declared.bound.Bound.{Bound}
use Rattle.ssq_shape.specs.declared.bound.Function.{Function}
use Rattle.ssq_shape.specs.declared.bound.Function.TheVariants as function
use Rattle.ssq_shape.specs.declared.bound.Grouping.{Grouping}
use Rattle.ssq_shape.specs.declared.bound.Joining.{Joining}
use Rattle.std.specs.Ordering.{is_gt}
use Rattle.ssq_value.specs.Order.{value_cmp}
use Rattle.ssq_shape.specs.Evaluation.{cell_at, is_null}
use Rattle.ssq_shape.specs.Fit.{IsFit}
use Rattle.ssq_meaning.specs.FedRows.{FedRow}
use Rattle.ssq_meaning.specs.Fit.{IsFitRow}
use Rattle.ssq_meaning.specs.Dedup as repeats
use Rattle.ssq_meaning.specs.Group.{distinct, is_closed, is_same, keys_in, kept, members, totals_in}
use Rattle.ssq_meaning.specs.Join as pairs
use Rattle.ssq_meaning.specs.Meaning.{Values}
use Rattle.ssq_meaning.specs.Totals.{column_of, greater, greatest_of, least_of, lesser, total_bytes, total_of, totals_bytes, totals_from}
use Rattle.ssq_meaning.proofs.Grouped.{keys_of_rows}
use Rattle.ssq_meaning.proofs.Keys.{All-by, All-distinct}
use Rattle.ssq_version.specs.State.{Ascends, IsShort, IsState, State, by_bytes}
use Rattle.ssq_course.specs.States.{AreWithinLimits}

-- ---- bytes

abbrev AreFit : Values → Type 0
AreFit values = AllByRecursion IsFit values

key_bytes : (value : Value) → IsFit value → length (key_of value) ≤ 1048581
key_bytes value.Null fit = omega arith
key_bytes (value.Truth truth) fit = omega arith
key_bytes (value.Int number) fit = omega arith
key_bytes (value.Time time) fit = omega arith
key_bytes (value.Text text) fit = omega (arith, fit)

keys_bytes : (values : Values) → AreFit values → length (keys_of values) ≤ length values * 1048581
unfolding keys_of
keys_bytes [] all = omega arith
keys_bytes (value ∷ values) all = omega (arith, length-append (key_of value) (keys_of values), key_bytes value all.0, keys_bytes values all.1)

-- one of two values, whichever it is
picked : (right_null left_null turned : Bool) (left right : Value) → IsFit left → IsFit right → IsFit (if right_null then left else if left_null then right else if turned then right else left)
picked true left_null turned left right one other = one
picked false true turned left right one other = other
picked false false true left right one other = other
picked false false false left right one other = one

lesser_fits : (left right : Value) → IsFit left → IsFit right → IsFit (lesser left right)
unfolding lesser
lesser_fits left right one other = picked (is_null right) (is_null left) (is_gt (value_cmp left right)) left right one other

greater_fits : (left right : Value) → IsFit left → IsFit right → IsFit (greater left right)
unfolding greater
greater_fits left right one other = picked (is_null right) (is_null left) (is_gt (value_cmp right left)) left right one other

fold_fits : (pick : Value → Value → Value) → ((left right : Value) → IsFit left → IsFit right → IsFit (pick left right)) → (own : Value) (values : Values) → IsFit own → AreFit values
    → IsFit (fold pick own values)
fold_fits pick picks own [] one all = one
fold_fits pick picks own (value ∷ values) one all = fold_fits pick picks (pick own value) values (picks own value one all.0) all.1

one_total : (of : Function) (values : Values) → AreFit values → length (total_bytes (total_of of values)) ≤ 1048581
one_total function.Count values all = omega arith
one_total function.Sum values all = omega arith
one_total function.Min values all = key_bytes (least_of values) (fold_fits lesser lesser_fits value.Null values tt all)
one_total function.Max values all = key_bytes (greatest_of values) (fold_fits greater greater_fits value.Null values tt all)

cell_fits : (row : Values) (at : ℕ) → AreFit row → IsFit (cell_at row at)
cell_fits [] at all = tt
cell_fits (value ∷ row) zero all = all.0
cell_fits (value ∷ row) (suc at) all = cell_fits row at all.1

column_fits : (at : ℕ) (rows : List Values) → AllByRecursion AreFit rows → AreFit (column_of at rows)
column_fits at [] all = tt
column_fits at (row ∷ rows) all = (cell_fits row at all.0, column_fits at rows all.1)

all_totals : (at : ℕ) (aggregates : List Aggregate) (rows : List Values) → AllByRecursion AreFit rows → length (totals_bytes (totals_from at aggregates rows)) ≤ length aggregates * 1048581
unfolding totals_from
all_totals at [] rows all = omega arith
all_totals at (aggregate ∷ aggregates) rows all =
    omega (arith, length-append (total_bytes (total_of aggregate.function (column_of at rows))) (totals_bytes (totals_from (at + 1) aggregates rows)), one_total aggregate.function (column_of at rows) (column_fits at rows all), all_totals (at + 1) aggregates rows all)

members_fit : (rows : List FedRow) (key : Values) → AllByRecursion IsFitRow rows → AllByRecursion AreFit (members rows key)
members_fit [] key all = tt
members_fit (row ∷ rows) key all = by (is_same key row.key) (members_fit rows key all.1)
  where
    by : (b : Bool) → AllByRecursion AreFit (members rows key)
        → AllByRecursion AreFit (map (λ (row : FedRow). row.values) (if b then row ∷ filter (λ row. is_same key row.key) rows else filter (λ row. is_same key row.key) rows))
    by true rest = (recursion_from_All IsFit row.values all.0.values, rest)
    by false rest = rest

-- ---- entries

-- a key and its value are short
abbrev IsShortEntry : List ℕ × List ℕ → Type 0
IsShortEntry entry = IsShort entry.0 × IsShort entry.1

put_short : (key value : List ℕ) (es : State) → IsShort key → IsShort value → AllByRecursion IsShortEntry es → AllByRecursion IsShortEntry (put by_bytes key value es)
put_short key value [] k v all = ((k, v), tt)
put_short key value (e ∷ es) k v all = by (by_bytes key e.0) (put_short key value es k v all.1)
  where
    by : (r : Ordering) → AllByRecursion IsShortEntry (put by_bytes key value es) → AllByRecursion IsShortEntry (by_order r ((key, value) ∷ e ∷ es) ((e.0, value) ∷ es) (e ∷ put by_bytes key value es))
    by Less rest = ((k, v), all)
    by Equal rest = ((all.0.0, v), all.1)
    by Greater rest = (all.0, rest)

put_few : (key value : List ℕ) (es : State) → length (put by_bytes key value es) ≤ length es + 1
put_few key value [] = omega arith
put_few key value (e ∷ es) = by (by_bytes key e.0) (put_few key value es)
  where
    by : (r : Ordering) → length (put by_bytes key value es) ≤ length es + 1 → length (by_order r ((key, value) ∷ e ∷ es) ((e.0, value) ∷ es) (e ∷ put by_bytes key value es)) ≤ suc (length es) + 1
    by Less rest = omega arith
    by Equal rest = omega arith
    by Greater rest = omega (arith, rest)

no_entry : (es : State) → length es ≡ 0 → es ≡ []
no_entry [] none = refl
no_entry (e ∷ es) none = absurd (omega (arith, none))

pub none_kept : entries (empty {X = List ℕ} {R = by_bytes}) ≡ []
none_kept = no_entry (entries (empty {X = List ℕ} {R = by_bytes})) (sym (len-entries (empty {X = List ℕ} {R = by_bytes})) ∙ len-empty by_bytes (List ℕ))

entries_short : (es : State) → AllByRecursion IsShortEntry es → AllByRecursion IsShortEntry (entries (from_entries {R = by_bytes} es))
entries_short [] all = subst (AllByRecursion IsShortEntry) (sym none_kept) tt
entries_short (e ∷ es) all =
    subst (AllByRecursion IsShortEntry) (sym (entries-insert nat_list_cmp_total (from_entries {R = by_bytes} es) e.0 e.1))
    (put_short e.0 e.1 (entries (from_entries {R = by_bytes} es)) all.0.0 all.0.1 (entries_short es all.1))

entries_few : (es : State) → length (entries (from_entries {R = by_bytes} es)) ≤ length es
entries_few [] = subst (λ (es : State). length es ≤ 0) (sym none_kept) (omega arith)
entries_few (e ∷ es) =
    subst (λ (all : State). length all ≤ suc (length es)) (sym (entries-insert nat_list_cmp_total (from_entries {R = by_bytes} es) e.0 e.1))
    (omega (arith, put_few e.0 e.1 (entries (from_entries {R = by_bytes} es)), entries_few es))

keys_are_short : (es : State) → AllByRecursion IsShortEntry es → AllByRecursion IsShort (keys_in_entries es)
keys_are_short [] all = tt
keys_are_short (e ∷ es) all = (all.0.0, keys_are_short es all.1)

values_are_short : (es : State) → AllByRecursion IsShortEntry es → AllByRecursion IsShort (values_of es)
values_are_short [] all = tt
values_are_short (e ∷ es) all = (all.0.1, values_are_short es all.1)

-- ---- what is kept of keys

filter_few : {X : Type 0} (p : X → Bool) (xs : List X) → length (filter p xs) ≤ length xs
filter_few p [] = omega arith
filter_few {X} p (x ∷ xs) = by (p x) (filter_few p xs)
  where
    by : (b : Bool) → length (filter p xs) ≤ length xs → length (if b then x ∷ filter p xs else filter p xs) ≤ suc (length xs)
    by true rest = omega (arith, rest)
    by false rest = omega (arith, rest)

distinct_few : (keys : List Values) → length (distinct keys) ≤ length keys
unfolding distinct
distinct_few [] = omega arith
distinct_few (key ∷ keys) = omega (arith, filter_few (λ other. not (is_same key other)) (distinct keys), distinct_few keys)

-- the keys of rows that pass a test, each with its value
abbrev entry_by : (Values → List ℕ) → Values → List ℕ × List ℕ
entry_by value key = (keys_of key, value key)

abbrev kept_by : (Values → Bool) → (Values → List ℕ) → List FedRow → State
kept_by is_open value rows = entries (from_entries {R = by_bytes} (map (entry_by value) (filter is_open (keys_in rows))))

module _ (is_open : Values → Bool) (value : Values → List ℕ) (rows : List FedRow) where
  -- there are no more entries than rows
  few_by : length (kept_by is_open value rows) ≤ length rows
  few_by =
      omega (
        arith,
        entries_few (map (entry_by value) (filter is_open (keys_in rows))),
        length-map (filter is_open (keys_in rows)) (entry_by value),
        filter_few is_open (keys_in rows),
        distinct_few (map (λ (row : FedRow). row.key) rows),
        length-map rows (λ (row : FedRow). row.key),
      )

  module _ (count : ℕ) (limit : count ≤ 64) (fit : All IsFitRow rows) (lengths : All (λ (row : FedRow). length row.key ≡ count) rows) (short : (key : Values) → IsShort (value key))
      (ascend : Ascends (kept_by is_open value rows)) where
    -- a key of these rows
    abbrev IsOwnKey : Values → Type 0
    IsOwnKey key = AreFit key × (length key ≡ count)

    own_keys : (rows : List FedRow) → AllByRecursion IsFitRow rows → AllByRecursion (λ (row : FedRow). length row.key ≡ count) rows → AllByRecursion (λ (row : FedRow). IsOwnKey row.key) rows
    own_keys [] fit lengths = tt
    own_keys (row ∷ rows) fit lengths = ((recursion_from_All IsFit row.key fit.0.key, lengths.0), own_keys rows fit.1 lengths.1)

    each_short : (keys : List Values) → AllByRecursion IsOwnKey keys → AllByRecursion IsShortEntry (map (entry_by value) keys)
    each_short [] all = tt
    each_short (key ∷ keys) all = ((omega (arith, keys_bytes key all.0.0, all.0.1, limit), short key), each_short keys all.1)

    kept_short : AllByRecursion IsShortEntry (kept_by is_open value rows)
    kept_short =
        entries_short (map (entry_by value) (filter is_open (keys_in rows))) (each_short (filter is_open (keys_in rows))
        (All-by IsOwnKey is_open (keys_in rows) (All-distinct IsOwnKey (map (λ (row : FedRow). row.key) rows) (keys_of_rows IsOwnKey rows (own_keys rows (recursion_from_All IsFitRow rows fit) (recursion_from_All _ rows lengths))))))

    state_by : IsState (kept_by is_open value rows)
    state_by = record {
      ascend = ascend;
      keys = All-from_recursion IsShort _ (keys_are_short (kept_by is_open value rows) kept_short);
      values = All-from_recursion IsShort _ (values_are_short (kept_by is_open value rows) kept_short);
    }

-- ---- groups

-- a row has a key with a value for each part of GROUP BY
abbrev pub HasKeyOf : Grouping → FedRow → Type 0
HasKeyOf grouping row = length row.key ≡ length grouping.keys

module _ (query : Bound) (grouping : Grouping) (rows : List FedRow) (now : Option ℤ) where
  pub kept_few : length (kept query grouping rows now) ≤ length rows
  kept_few = few_by (λ key. not (is_closed query grouping now key)) (λ key. totals_bytes (totals_in grouping rows key)) rows

  module _ (limits : AreWithinLimits grouping) (fit : All IsFitRow rows) (lengths : All (HasKeyOf grouping) rows) (ascend : Ascends (kept query grouping rows now)) where
    totals_short : (key : Values) → IsShort (totals_bytes (totals_in grouping rows key))
    totals_short key = omega (arith, all_totals 0 grouping.aggregates (members rows key) (members_fit rows key (recursion_from_All IsFitRow rows fit)), limits.aggregates)

    pub kept_is_state : IsState (kept query grouping rows now)
    kept_is_state =
        state_by (λ key. not (is_closed query grouping now key)) (λ key. totals_bytes (totals_in grouping rows key)) rows (length grouping.keys) limits.keys fit lengths totals_short ascend

-- ---- rows without repeats

module _ (query : Bound) (columns : List ℕ) (rows : List FedRow) (now : Option ℤ) where
  pub repeats_few : length (repeats.kept query columns rows now) ≤ length rows
  repeats_few = few_by (λ key. not (repeats.is_closed query columns now key)) (λ key. []) rows

  pub repeats_are_state : length columns ≤ 64 → All IsFitRow rows → All (λ (row : FedRow). length row.key ≡ length columns) rows → Ascends (repeats.kept query columns rows now)
      → IsState (repeats.kept query columns rows now)
  repeats_are_state limit fit lengths ascend =
      state_by (λ key. not (repeats.is_closed query columns now key)) (λ key. []) rows (length columns) limit fit lengths (λ key. omega arith) ascend

-- ---- joined rows

-- a row has at most 64 values, and so has its key
pub record IsNarrow (row : FedRow) : Type 0 where
  pub key : length row.key ≤ 64
  pub values : length row.values ≤ 64

module _ (joining : Joining) (rows : List FedRow) (now : Option ℤ) where
  pub joined_few : length (pairs.kept joining rows now) ≤ length rows
  joined_few =
      omega (
        arith,
        entries_few (map (pairs.entry_of joining rows) (pairs.open_rows joining rows now)),
        length-map (pairs.open_rows joining rows now) (pairs.entry_of joining rows),
        filter_few (λ row. not (pairs.is_over joining now row)) rows,
      )

  row_short : (row : FedRow) → IsFitRow row → IsNarrow row → IsShortEntry (pairs.entry_of joining rows row)
  row_short row fit narrow =
      let key = keys_bytes row.key (recursion_from_All IsFit row.key fit.key) in
      let values = keys_bytes row.values (recursion_from_All IsFit row.values fit.values) in
      let place = to_be_bytes w32 row.epoch ++ (to_be_bytes w32 row.part ++ to_be_bytes w64 row.offset) in (
        omega (arith, length-append (keys_of row.key) place, key, narrow.key),
        omega (arith, length-append (keys_of row.values) (pairs.met_byte (pairs.has_partner joining rows row) ∷ []), values, narrow.values),
      )

  each_row_short : (own : List FedRow) → AllByRecursion IsFitRow own → AllByRecursion IsNarrow own → AllByRecursion IsShortEntry (map (pairs.entry_of joining rows) own)
  each_row_short [] fit narrow = tt
  each_row_short (row ∷ own) fit narrow = (row_short row fit.0 narrow.0, each_row_short own fit.1 narrow.1)

  pub joined_are_state : All IsFitRow rows → All IsNarrow rows → Ascends (pairs.kept joining rows now) → IsState (pairs.kept joining rows now)
  joined_are_state fit narrow ascend =
      let stays = λ (row : FedRow). not (pairs.is_over joining now row) in
      let short = entries_short (map (pairs.entry_of joining rows) (pairs.open_rows joining rows now))
      (each_row_short (pairs.open_rows joining rows now) (All-by IsFitRow stays rows (recursion_from_All IsFitRow rows fit)) (All-by IsNarrow stays rows (recursion_from_All IsNarrow rows narrow))) in
      record {
        ascend = ascend;
        keys = All-from_recursion IsShort _ (keys_are_short (pairs.kept joining rows now) short);
        values = All-from_recursion IsShort _ (values_are_short (pairs.kept joining rows now) short);
      }
