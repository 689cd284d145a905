-- What the state of a query holds.
use Rattle.std.proofs.Common.{◌≡◌, ◌+◌, ◌++◌, ℕ, ℤ, [], ◌∷◌, Some, List, Option, Bool, true, false, All, refl, ap, sym, subst, ◌∙◌, filter, map, length}
use Rattle.std.specs.Prelude.{◌&&◌, ◌||◌, not, if◌then◌else◌, fold, option_map}
use Rattle.std.specs.BTreeMap.{is_at}
use Rattle.std.specs.Cmp.Lexicographic.{nat_list_cmp_total, slice_cmp}
use Rattle.std.specs.FinMap.{find, from_entries, get-entries, get-from_entries}
use Rattle.std.specs.List.{AllByRecursion}
use Rattle.std.specs.Map.{lookup}
use Rattle.std.specs.Ordering.{is_gt, nat_cmp}
use Rattle.std.proofs.lemmas.List.Elements.{recursion_from_All}
use Rattle.ssq_value.specs.declared.value.Value.{Value}
use Rattle.ssq_value.specs.declared.value.Value.TheVariants as value
use Rattle.ssq_value.specs.Key.{IsSpelled, keys_of}
use Rattle.ssq_value.specs.Order.{value_cmp}
use Rattle.ssq_version.specs.State.{State, by_bytes, value_at}
use Rattle.ssq_version.proofs.Values.{one_key}
use Rattle.ssq_shape.specs.declared.bound.Aggregate.{Aggregate}
use Rattle.ssq_shape.specs.declared.bound.Bound.{Bound}
use Rattle.ssq_shape.specs.declared.bound.Function.{Function}
use Rattle.ssq_shape.specs.declared.bound.Function.TheVariants as function
use Rattle.ssq_shape.specs.declared.bound.Grouping.{Grouping}
use Rattle.ssq_shape.specs.declared.bound.Shape.{Shape}
use Rattle.ssq_shape.specs.Evaluation.{is_null}
use Rattle.ssq_meaning.specs.FedRows.{FedRow}
use Rattle.ssq_meaning.specs.declared.total.Total.{Total}
use Rattle.ssq_meaning.specs.Fit.{IsFit}
use Rattle.ssq_meaning.specs.Group.{entry_of, has_key, is_closed, is_same, kept, keys_in, members, open_keys, totals_in}
use Rattle.ssq_meaning.specs.GroupLaws.{IsKeySpelled, held, held_if}
use Rattle.ssq_meaning.specs.Keyed.{key_length_by, key_time_by}
use Rattle.ssq_meaning.specs.Meaning.{Values}
use Rattle.ssq_meaning.specs.Totals.{column_of, greater, lesser, total_of, totals_bytes, totals_from}
use Rattle.ssq_meaning.proofs.Keys.{All-by, All-distinct, same_is}
use Rattle.ssq_meaning.proofs.Coding.{first_true as first_of, found_is}
use Rattle.ssq_agg.specs.Fits.{AllFit, Fits}
use Rattle.ssq_agg.specs.Groups.{AreSteady, started}
use Rattle.ssq_step.specs.Indexing.{Indexes, IsIndexBy, Timed}
use Rattle.ssq_step.proofs.ByBytes.{spelled_key}
use Rattle.ssq_step.proofs.Lists.{back_all, cell_has, front_all}
use Rattle.ssq_agg.specs.Readable.{AreTotalsOf, IsKey, IsReadableGroup, IsReadableKey, IsTotalOf}
use Rattle.ssq_agg.specs.Steps.{Given, GivenGroups, IsKept}
use Rattle.ssq_agg.proofs.Stepping.{held_is}

-- ---- totals that can be read back

-- one of two values
chosen_fits : (a b c : Bool) (left right : Value) → IsFit left → IsFit right → IsFit (if a then left else if b then right else if c then right else left)
chosen_fits true b c left right one other = one
chosen_fits false true c left right one other = other
chosen_fits false false true left right one other = other
chosen_fits false false false left right one other = one

lesser_fits : (left right : Value) → IsFit left → IsFit right → IsFit (lesser left right)
unfolding lesser
lesser_fits left right = chosen_fits (is_null right) (is_null left) (is_gt (value_cmp left right)) left right

greater_fits : (left right : Value) → IsFit left → IsFit right → IsFit (greater left right)
unfolding greater
greater_fits left right = chosen_fits (is_null right) (is_null left) (is_gt (value_cmp right left)) left right

-- one of many
folded_fits : (choose : Value → Value → Value) → ((left right : Value) → IsFit left → IsFit right → IsFit (choose left right)) → (start : Value) (values : List Value) → IsFit start → AllByRecursion IsFit values → IsFit (fold choose start values)
folded_fits choose fits start [] one all = one
folded_fits choose fits start (v ∷ values) one all = folded_fits choose fits (choose start v) values (fits start v one all.0) all.1

total_reads_back : (own : Function) (values : List Value) → AllByRecursion IsFit values → Fits (total_of own values) → IsTotalOf own (total_of own values)
total_reads_back function.Count values all fits = fits
total_reads_back function.Sum values all fits = fits
total_reads_back function.Min values all fits = folded_fits lesser lesser_fits value.Null values tt all
total_reads_back function.Max values all fits = folded_fits greater greater_fits value.Null values tt all

column_fits : (at : ℕ) (rows : List Values) → AllByRecursion (AllByRecursion IsFit) rows → AllByRecursion IsFit (column_of at rows)
column_fits at [] all = tt
column_fits at (row ∷ rows) all = (cell_has IsFit tt row at all.0, column_fits at rows all.1)

totals_read_back : (at : ℕ) (aggregates : List Aggregate) (rows : List Values) → AllByRecursion (AllByRecursion IsFit) rows → AllFit (totals_from at aggregates rows) → AreTotalsOf aggregates (totals_from at aggregates rows)
unfolding totals_from
totals_read_back at [] rows all fits = tt
totals_read_back at (aggregate ∷ aggregates) rows all fits =
    (total_reads_back aggregate.function (column_of at rows) (column_fits at rows all) fits.0, totals_read_back (at + 1) aggregates rows all fits.1)

-- ---- rows

module _ (grouping : Grouping) where
  key_is : (row : FedRow) → IsKept grouping row → IsReadableKey grouping row.key
  key_is row is = record { values = is.fit.key; many = is.many }

  pub spelled_rows : (rows : List FedRow) → AllByRecursion (IsKept grouping) rows → AllByRecursion (λ (row : FedRow). IsKey grouping row.key) rows
  spelled_rows [] all = tt
  spelled_rows (row ∷ rows) all = (spelled_key (length grouping.keys) row.key (key_is row all.0), spelled_rows rows all.1)

  member_values : (rows : List FedRow) (key : Values) → AllByRecursion (IsKept grouping) rows → AllByRecursion (AllByRecursion IsFit) (members rows key)
  member_values [] key all = tt
  member_values (row ∷ rows) key all = by (is_same key row.key) (member_values rows key all.1)
    where
      by : (b : Bool) → AllByRecursion (AllByRecursion IsFit) (members rows key)
          → AllByRecursion (AllByRecursion IsFit) (map (λ (row : FedRow). row.values) (if b then row ∷ filter (λ row. is_same key row.key) rows else filter (λ row. is_same key row.key) rows))
      by true rest = (recursion_from_All IsFit row.values all.0.fit.values, rest)
      by false rest = rest

  key_readable : (rows : List FedRow) (key : Values) → AllByRecursion (IsKept grouping) rows → has_key rows key ≡ true → IsReadableKey grouping key
  key_readable [] key all has = absurd cc
  key_readable (row ∷ rows) key all has = by (is_same key row.key) refl has (key_readable rows key all.1)
    where
      by : (b : Bool) → is_same key row.key ≡ b → (b || has_key rows key) ≡ true → (has_key rows key ≡ true → IsReadableKey grouping key) → IsReadableKey grouping key
      by true same has rest = subst (IsReadableKey grouping) (sym (same_is key row.key same)) (key_is row all.0)
      by false other has rest = rest has

-- ---- what is held

kept_is : (b : Bool) (totals own : List Total) → held_if b totals ≡ Some own → b ≡ true
kept_is true totals own is = refl
kept_is false totals own is = absurd cc

pub group_readable : (query : Bound) (grouping : Grouping) (old new : List FedRow) (before : Option ℤ) → AllByRecursion (IsKept grouping) old → AreSteady grouping.aggregates (held query grouping old before) new
    → (key : Values) (totals : List Total) → held query grouping old before key ≡ Some totals → IsReadableGroup grouping key totals
group_readable query grouping old new before rows steady key totals is =
    let has = kept_is (has_key old key && not (is_closed query grouping before key)) (totals_in grouping old key) totals is in
    let same : totals_in grouping old key ≡ totals = held_is (has_key old key && not (is_closed query grouping before key)) (totals_in grouping old key) totals is in
    let fits : AllFit totals = subst (λ o. AllFit (started grouping.aggregates o)) is (steady 0 key) in
    record {
      key_is = key_readable grouping old key rows (first_of (has_key old key) (not (is_closed query grouping before key)) has);
      totals_are = subst (AreTotalsOf grouping.aggregates) same (totals_read_back 0 grouping.aggregates (members old key) (member_values grouping old key rows) (subst AllFit (sym same) fits));
    }

-- the law of what is kept
abbrev pub AreFound : Type 0
AreFound = (query : Bound) (grouping : Grouping) (rows : List FedRow) (now : Option ℤ) (key : Values) → All IsSpelled key → AllByRecursion (λ (row : FedRow). IsKeySpelled (length key) row.key) rows
    → lookup (is_at (slice_cmp nat_cmp (keys_of key))) (kept query grouping rows now) ≡ option_map totals_bytes (held query grouping rows now key)

pub kept_at : AreFound → (query : Bound) (grouping : Grouping) (rows : List FedRow) (now : Option ℤ) → AllByRecursion (λ (row : FedRow). IsKey grouping row.key) rows
    → (key : Values) → IsKey grouping key → value_at (kept query grouping rows now) (keys_of key) ≡ option_map totals_bytes (held query grouping rows now key)
kept_at found query grouping rows now all key is = found query grouping rows now key is.0 (subst (λ n. AllByRecursion (λ (row : FedRow). IsKeySpelled n row.key) rows) (sym is.1) all)

pub given_groups : AreFound → (query : Bound) (grouping : Grouping) (state : State) (closing : List Timed) (old new : List FedRow) (before now : Option ℤ) → Given query grouping state closing old new before now
    → GivenGroups query grouping state closing old new before now
given_groups found query grouping state closing old new before now given =
    let all = recursion_from_All (IsKept grouping) (old ++ new) given.rows in
    let olds = front_all (IsKept grouping) old new all in
    record {
      holds = record {
        found = λ key is. ap (λ (s : State). value_at s (keys_of key)) given.kept ∙ kept_at found query grouping old before (spelled_rows grouping old olds) key is;
        readable = group_readable query grouping old new before olds given.steady;
      };
      indexes = subst (λ (shape : Shape). Indexes (key_length_by shape) (key_time_by shape query) state closing) given.groups (subst (λ (shape : Shape). IsIndexBy shape query state closing) given.groups given.indexed);
      keys = spelled_rows grouping new (back_all (IsKept grouping) old new all);
      follows = given.follows;
      steady = given.steady;
    }

-- ---- each key that is kept is a row's

keys_of_rows : (many : ℕ) (rows : List FedRow) → AllByRecursion (λ (row : FedRow). IsKeySpelled many row.key) rows → AllByRecursion (IsKeySpelled many) (map (λ (row : FedRow). row.key) rows)
keys_of_rows many [] all = tt
keys_of_rows many (row ∷ rows) all = (all.0, keys_of_rows many rows all.1)

entry_key : (grouping : Grouping) (rows : List FedRow) (many : ℕ) (q v : List ℕ) (keys : List Values) → AllByRecursion (IsKeySpelled many) keys → find by_bytes q (map (entry_of grouping rows) keys) ≡ Some v
    → (key : Values) × (q ≡ keys_of key) × IsKeySpelled many key
entry_key grouping rows many q v [] all is = absurd cc
entry_key grouping rows many q v (key ∷ keys) all is = by (is_at (by_bytes q) (keys_of key)) refl is (entry_key grouping rows many q v keys all.1)
  where
    by : (b : Bool) → is_at (by_bytes q) (keys_of key) ≡ b → (if b then Some (totals_bytes (totals_in grouping rows key)) else find by_bytes q (map (entry_of grouping rows) keys)) ≡ Some v
        → (find by_bytes q (map (entry_of grouping rows) keys) ≡ Some v → (other : Values) × (q ≡ keys_of other) × IsKeySpelled many other) → (other : Values) × (q ≡ keys_of other) × IsKeySpelled many other
    by true at has rest = (key, one_key q (keys_of key) at, all.0)
    by false apart has rest = rest has

pub kept_key : (query : Bound) (grouping : Grouping) (rows : List FedRow) (now : Option ℤ) → AllByRecursion (λ (row : FedRow). IsKey grouping row.key) rows → (q v : List ℕ) → value_at (kept query grouping rows now) q ≡ Some v
    → (key : Values) × (q ≡ keys_of key) × IsKey grouping key
kept_key query grouping rows now all q v is =
    entry_key grouping rows (length grouping.keys) q v (open_keys query grouping rows now)
    (All-by (IsKeySpelled (length grouping.keys)) (λ key. not (is_closed query grouping now key)) (keys_in rows)
    (All-distinct (IsKeySpelled (length grouping.keys)) (map (λ (row : FedRow). row.key) rows) (keys_of_rows (length grouping.keys) rows all)))
    (sym (get-from_entries nat_list_cmp_total (map (entry_of grouping rows) (open_keys query grouping rows now)) q)
    ∙ get-entries (from_entries {R = by_bytes} (map (entry_of grouping rows) (open_keys query grouping rows now))) q
    ∙ sym (found_is q (kept query grouping rows now)) ∙ is)
