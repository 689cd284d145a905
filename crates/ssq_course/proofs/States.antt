-- The states of a query are states, and what epochs change are changes.
use Rattle.std.proofs.Common.{◌≡◌, ◌≤◌, ◌<◌, ◌+◌, ◌-◌, ◌*◌, ◌^◌, [], ◌∷◌, ℕ, zero, suc, ℤ, List, Option, None, Bool, true, false, refl, ap, sym, subst, length, arith, inl, inr}
use Rattle.std.specs.Prelude.{◌==◌, if◌then◌else◌, get_or, is_some, All, slice_get, sum}
use Rattle.std.specs.declared.cmp.Ordering.{Ordering}
use Rattle.std.specs.declared.cmp.Ordering.TheVariants.{Less, Equal, Greater}
use Rattle.std.specs.BTreeMap.{insert_entry}
use Rattle.std.specs.Ordering.{match_ordering}
use Rattle.std.proofs.lemmas.Bool.{cases_lt}
use Rattle.std.proofs.lemmas.List.{length-append, length-map}
use Rattle.std.proofs.lemmas.List.Elements.{All-filter, All-head, All-nil, All-tail, All-weaker}
use Rattle.ssq_value.specs.declared.value.Value.{Value}
use Rattle.ssq_value.specs.Key.{keys_of}
use Rattle.ssq_route.specs.Place.{place_of}
use Rattle.ssq_shape.specs.declared.bound.Bound.{Bound}
use Rattle.ssq_shape.specs.declared.bound.Grouping.{Grouping}
use Rattle.ssq_shape.specs.declared.bound.Joining.{Joining}
use Rattle.ssq_shape.specs.declared.bound.Shape.{Shape}
use Rattle.ssq_shape.specs.declared.bound.Shape.TheVariants.{Plain, Group, Dedup, Join}
use Rattle.ssq_shape.specs.declared.bound.Stream.{Stream}
use Rattle.ssq_shape.specs.Evaluation.{cell_at}
use Rattle.ssq_shape.specs.Windows.{HasWindows, HasWindowsBy}
use Rattle.ssq_meaning.specs.FedRows.{FedRow}
use Rattle.ssq_meaning.specs.Cut.{AreCuts, Cuts as Offsets}
use Rattle.ssq_meaning.specs.Dedup as repeats
use Rattle.ssq_meaning.specs.DedupLaws.{IsDedupRow}
use Rattle.ssq_meaning.specs.Epochs.{accepted, bucket, on_time, state, watermark_before}
use Rattle.ssq_meaning.specs.Fit.{IsFitRow}
use Rattle.ssq_meaning.specs.Group.{distinct, kept}
use Rattle.ssq_meaning.specs.Join as pairs
use Rattle.ssq_meaning.specs.Join.{is_left, key_column}
use Rattle.ssq_meaning.specs.JoinLaws.{IsJoinRow}
use Rattle.ssq_meaning.specs.Meaning.{layout_in}
use Rattle.ssq_meaning.specs.Operator.{operator_for, operator_of}
use Rattle.ssq_meaning.specs.Parts.{Part}
use Rattle.ssq_version.specs.State.{Ascends, Change, IsShort, IsState, State, between, by_bytes, said_of, value_at, with_gone}
use Rattle.ssq_version.specs.Text.{snapshot_text}
use Rattle.ssq_version.proofs.Leading.{between_kept, news_few}
use Rattle.ssq_version.proofs.Spelled.{length_said}
use Rattle.ssq_core.specs.Course.{Cuts}
use Rattle.ssq_course.specs.Setting.{Setting, cuts_of, parts_in, state_at}
use Rattle.ssq_course.specs.States.{AreOfStates, AreWithinLimits, CanHold, CanHoldBy, CoverFewLines, HasFewCells, HasFewColumns, StatesCanBeHeld}
use Rattle.ssq_course.specs.Wide.{IsWide}
use Rattle.ssq_course.proofs.Sizes.{HasKeyOf, IsNarrow, joined_are_state, joined_few, kept_few, kept_is_state, none_kept, repeats_are_state, repeats_few}

-- ---- how many keys a change has

inserted_few : (key : List ℕ) (value : Option (List ℕ)) (es : Change) → length (insert_entry by_bytes es key value) ≤ length es + 1
inserted_few key value [] = omega arith
inserted_few key value (e ∷ es) = by (by_bytes key e.0) (inserted_few key value es)
  where
    by : (r : Ordering) → length (insert_entry by_bytes es key value) ≤ length es + 1 → length (match_ordering r ((key, value) ∷ e ∷ es) ((e.0, value) ∷ es) (e ∷ insert_entry by_bytes es key value)) ≤ suc (length es) + 1
    by Less rest = omega arith
    by Equal rest = omega arith
    by Greater rest = omega (arith, rest)

gone_few : (old : State) (said : Change) → length (with_gone old said) ≤ length old + length said
unfolding with_gone
gone_few [] said = omega arith
gone_few (entry ∷ old) said = by (is_some (value_at said entry.0)) (gone_few old said) (gone_few old (insert_entry by_bytes said entry.0 None))
  where
    by : (b : Bool) → length (with_gone old said) ≤ length old + length said → length (with_gone old (insert_entry by_bytes said entry.0 None)) ≤ length old + length (insert_entry by_bytes said entry.0 None)
        → length (with_gone old (if b then said else insert_entry by_bytes said entry.0 None)) ≤ suc (length old) + length said
    by true there gone = omega (arith, there)
    by false there gone = omega (arith, gone, inserted_few entry.0 None said)

between_few : (old new : State) → length (between old new) ≤ length old + length new
unfolding between
between_few old new = omega (arith, news_few old (with_gone old (said_of new)), gone_few old (said_of new), length_said new)

-- ---- states

-- no row that was accepted is given up
accepted_grow : (query : Bound) (parts : List Part) (cuts : Offsets) (e n : ℕ) → e ≤ n → length (accepted query parts cuts e) ≤ length (accepted query parts cuts n)
unfolding accepted
accepted_grow query parts cuts e zero le = let none : e ≡ 0 = omega (arith, le) in subst (λ (e : ℕ). length (accepted query parts cuts e) ≤ 0) (sym none) (omega arith)
accepted_grow query parts cuts e (suc n) le = elim (cases_lt n e) [
  | inl over ↦ let same : e ≡ suc n = omega (arith, le, over) in subst (λ (e : ℕ). length (accepted query parts cuts e) ≤ length (accepted query parts cuts (suc n))) (sym same) (omega arith)
  | inr low ↦ omega (arith, accepted_grow query parts cuts e n low, length-append (accepted query parts cuts n) (on_time query parts cuts n))
]

-- what the laws of ssq_meaning say of the rows that are accepted, and of what is kept of them
pub record RowLaws : Type 0 where
  pub fit : (query : Bound) → HasWindows query → (parts : List Part) (cuts : Offsets) (e : ℕ) → All IsFitRow (accepted query parts cuts e)
  pub own_fit : (rows : List FedRow) (partitions p : ℕ) → All IsFitRow rows → All IsFitRow (bucket partitions p rows)
  pub few : (query : Bound) → HasWindows query → (parts : List Part) (cuts : Offsets) (e : ℕ) → AreCuts parts cuts e → length (accepted query parts cuts e) ≤ 64 * sum (cuts e)
  pub own_few : (rows : List FedRow) (partitions p : ℕ) → length (bucket partitions p rows) ≤ length rows
  pub lengths : (query : Bound) (grouping : Grouping) → query.shape ≡ Group grouping → (parts : List Part) (cuts : Offsets) (e : ℕ) → All (HasKeyOf grouping) (accepted query parts cuts e)
  pub repeats_lengths : (query : Bound) (columns : List ℕ) → query.shape ≡ Dedup columns → (parts : List Part) (cuts : Offsets) (e : ℕ) → All (IsDedupRow query columns) (accepted query parts cuts e)
  pub joined : (query : Bound) (joining : Joining) → query.shape ≡ Join joining → (parts : List Part) (cuts : Offsets) (e : ℕ) → All (IsJoinRow joining) (accepted query parts cuts e)
  pub joined_wide : (query : Bound) (joining : Joining) → query.shape ≡ Join joining → (parts : List Part) (cuts : Offsets) (e : ℕ) → All (IsWide query) (accepted query parts cuts e)
  pub ascend : (query : Bound) (rows : List FedRow) (now : Option ℤ) → Ascends ((operator_of query).state rows now)

-- what a state is, with fewer than 2^63 entries
abbrev IsSmall : State → Type 0
IsSmall state = IsState state × (length state < 2 ^ 63)

none_is_small : IsSmall []
unfolding Rattle.std.specs.List.Sorted.IsStrictlySortedBy
none_is_small = (record { ascend = tt; keys = All-nil IsShort; values = All-nil IsShort }, omega arith)

-- a stream has few columns, and where there is none, no column
few_columns : (streams : List Stream) → All HasFewColumns streams → (at : ℕ) → length (layout_in (slice_get streams at)).columns ≤ 64
few_columns [] few at = omega arith
few_columns (stream ∷ streams) few zero = All-head HasFewColumns stream streams few
few_columns (stream ∷ streams) few (suc at) = few_columns streams (All-tail HasFewColumns stream streams few) at

starts_by : (shape : Shape) (query : Bound) → (operator_for shape query).state [] None ≡ []
unfolding distinct
starts_by Plain query = refl
starts_by (Group grouping) query = none_kept
starts_by (Dedup columns) query = none_kept
starts_by (Join joining) query = none_kept

-- a row of a join within the limits
narrow_row : (query : Bound) (joining : Joining) → HasFewCells query joining → (row : FedRow) → IsJoinRow joining row → IsWide query row → IsNarrow row
narrow_row query joining few row own wide = record {
  key = let keys = few.keys in omega (arith, ap (λ (key : List Value). length key) own.key, length-map joining.keys (λ pair. cell_at row.values (key_column (is_left row.stream) pair)), keys);
  values = omega (arith, wide, few_columns query.streams few.columns row.stream);
}

module _ (laws : RowLaws) where
  pub are_of_states : (s : Setting) (cuts : Cuts) → AreOfStates s cuts
  unfolding operator_of accepted
  are_of_states s cuts = record {
    snapshots = λ p v. ap (λ (n : ℕ). snapshot_text p n (state_at s cuts p (v + 1))) (let same : v + 1 - 1 ≡ v = omega arith in same);
    deltas = λ p v. refl;
    start = λ p. starts_by s.job.bound.shape s.job.bound;
    ascend = λ p e. laws.ascend s.job.bound (bucket s.job.partitions p (accepted s.job.bound (parts_in s) (cuts_of cuts) e)) (watermark_before s.job.bound (parts_in s) (cuts_of cuts) e);
  }

  -- of a query of this shape
  ascends : (s : Setting) (shape : Shape) → s.job.bound.shape ≡ shape → (rows : List FedRow) (now : Option ℤ) → Ascends ((operator_for shape s.job.bound).state rows now)
  unfolding operator_of
  ascends s shape is rows now = subst (λ (own : Shape). Ascends ((operator_for own s.job.bound).state rows now)) is (laws.ascend s.job.bound rows now)

  module _ (s : Setting) (cuts : Cuts) (n : ℕ) (lines : CoverFewLines s cuts n) (p e : ℕ) (le : e ≤ n) where
    abbrev query : Bound
    query = s.job.bound

    -- the rows that were accepted before epoch e, those of partition p, and the watermark after them
    abbrev rows : List FedRow
    rows = accepted query (parts_in s) (cuts_of cuts) e

    abbrev own : List FedRow
    own = bucket s.job.partitions p rows

    abbrev now : Option ℤ
    now = watermark_before query (parts_in s) (cuts_of cuts) e

    own_all : (P : FedRow → Type 0) → All P rows → All P own
    own_all P all = All-filter (λ (row : FedRow). place_of (keys_of row.key) s.job.partitions == p) P rows all

    own_fit : HasWindows query → All IsFitRow own
    own_fit windows = laws.own_fit rows s.job.partitions p (laws.fit query windows (parts_in s) (cuts_of cuts) e)

    few_kept : HasWindows query → (state : State) → length state ≤ length own → length state < 2 ^ 63
    few_kept windows state few = omega (arith, few, laws.own_few rows s.job.partitions p, accepted_grow query (parts_in s) (cuts_of cuts) e n le, laws.few query windows (parts_in s) (cuts_of cuts) n lines.are_cuts, lines.few)

    groups_are_small : (grouping : Grouping) → query.shape ≡ Group grouping → AreWithinLimits grouping → IsSmall (kept query grouping own now)
    groups_are_small grouping is limits =
        let windows : HasWindows query = subst HasWindowsBy (sym is) limits.windows in (
          kept_is_state query grouping own now limits (own_fit windows) (own_all (HasKeyOf grouping) (laws.lengths query grouping is (parts_in s) (cuts_of cuts) e)) (ascends s (Group grouping) is own now),
          few_kept windows (kept query grouping own now) (kept_few query grouping own now),
        )

    repeats_are_small : (columns : List ℕ) → query.shape ≡ Dedup columns → length columns ≤ 64 → IsSmall (repeats.kept query columns own now)
    repeats_are_small columns is limit =
        let windows : HasWindows query = subst HasWindowsBy (sym is) tt in
        let IsLong : FedRow → Type 0 = λ row. length row.key ≡ length columns in
        let lengths : All IsLong rows = All-weaker (IsDedupRow query columns) IsLong (λ row is_own. is_own.key) rows (laws.repeats_lengths query columns is (parts_in s) (cuts_of cuts) e) in (
          repeats_are_state query columns own now limit (own_fit windows) (own_all IsLong lengths) (ascends s (Dedup columns) is own now),
          few_kept windows (repeats.kept query columns own now) (repeats_few query columns own now),
        )

    joins_are_small : (joining : Joining) → query.shape ≡ Join joining → HasFewCells query joining → IsSmall (pairs.kept joining own now)
    joins_are_small joining is few =
        let windows : HasWindows query = subst HasWindowsBy (sym is) tt in
        let joined = laws.joined query joining is (parts_in s) (cuts_of cuts) e in
        let wide = laws.joined_wide query joining is (parts_in s) (cuts_of cuts) e in
        let narrow : All IsNarrow rows = λ k d less. narrow_row query joining few (get_or rows k d) (joined k d less) (wide k d less) in (
          joined_are_state joining own now (own_fit windows) (own_all IsNarrow narrow) (ascends s (Join joining) is own now),
          few_kept windows (pairs.kept joining own now) (joined_few joining own now),
        )

  small_by : (s : Setting) (cuts : Cuts) (n : ℕ) (shape : Shape) → s.job.bound.shape ≡ shape → CanHoldBy shape s cuts n → (p e : ℕ) → e ≤ n
      → IsSmall ((operator_for shape s.job.bound).state (bucket s.job.partitions p (accepted s.job.bound (parts_in s) (cuts_of cuts) e)) (watermark_before s.job.bound (parts_in s) (cuts_of cuts) e))
  small_by s cuts n Plain is can p e le = none_is_small
  small_by s cuts n (Group grouping) is can p e le = groups_are_small s cuts n can.1 p e le grouping is can.0
  small_by s cuts n (Dedup columns) is can p e le = repeats_are_small s cuts n can.1 p e le columns is can.0
  small_by s cuts n (Join joining) is can p e le = joins_are_small s cuts n can.1 p e le joining is can.0

  is_small : (s : Setting) (cuts : Cuts) (n : ℕ) → CanHold s cuts n → (p e : ℕ) → e ≤ n → IsSmall (state_at s cuts p e)
  unfolding operator_of
  is_small s cuts n can p e le = small_by s cuts n s.job.bound.shape refl can p e le

  pub can_be_held : StatesCanBeHeld
  can_be_held s cuts n can = record {
    states = λ p e le. (is_small s cuts n can p e le).0;
    few = λ p e le. omega (arith, (is_small s cuts n can p e le).1);
    changes = λ p v less. between_kept (state_at s cuts p v) (state_at s cuts p (v + 1)) (is_small s cuts n can p v (omega (arith, less))).0 (is_small s cuts n can p (v + 1) (omega (arith, less))).0;
    few_changes = λ p v less.
        omega (arith, between_few (state_at s cuts p v) (state_at s cuts p (v + 1)), (is_small s cuts n can p v (omega (arith, less))).1, (is_small s cuts n can p (v + 1) (omega (arith, less))).1);
  }
