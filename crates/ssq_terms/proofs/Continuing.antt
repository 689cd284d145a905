-- A reduce task is given what the operator of its query needs, and what it brings is its partition's own.
use Rattle.std.proofs.Common.{◌≡◌, ◌<◌, ◌≤◌, ◌+◌, ◌*◌, ◌-◌, ◌^◌, ◌==◌, ◌++◌, [], ◌∷◌, ℕ, ℤ, List, Option, Some, None, Bool, true, false, true≢false, cond, zero, suc, refl, ap, sym, ◌∙◌, subst, arith, filter, length}
use Rattle.std.specs.Prelude.{All, IsSomeAnd, get_or, not, sum}
use Rattle.std.specs.List.{AllByRecursion}
use Rattle.std.proofs.lemmas.Bool.{eqb-true}
use Rattle.std.proofs.lemmas.List.{length-map}
use Rattle.std.proofs.lemmas.List.Elements.{All-append, All-filter, recursion_from_All}
use Rattle.std.proofs.lemmas.List.Sums.{sum_by-cons}
use Rattle.ssq_value.specs.declared.value.Value.{Value}
use Rattle.ssq_value.specs.declared.value.Value.TheVariants as value
use Rattle.ssq_value.specs.Key.{keys_of}
use Rattle.ssq_route.specs.Place.{place_of}
use Rattle.ssq_shape.specs.declared.bound.Bound.{Bound}
use Rattle.ssq_shape.specs.declared.bound.Grouping.{Grouping}
use Rattle.ssq_shape.specs.declared.bound.Joining.{Joining}
use Rattle.ssq_shape.specs.declared.bound.Shape.{Shape}
use Rattle.ssq_shape.specs.declared.bound.Shape.TheVariants.{Plain, Group, Dedup, Join}
use Rattle.ssq_shape.specs.Fit.{IsFit}
use Rattle.ssq_shape.specs.Windows.{HasWindows}
use Rattle.ssq_meaning.specs.FedRows.{FedRow}
use Rattle.ssq_meaning.specs.Parts.{Part, parts_of}
use Rattle.ssq_meaning.specs.Cut.{Cut, AreCuts, AreWithin}
use Rattle.ssq_meaning.specs.Cut.{Cuts as Offsets}
use Rattle.ssq_meaning.specs.DedupLaws as deduped
use Rattle.ssq_meaning.specs.DedupLaws.{IsDedupRow}
use Rattle.ssq_meaning.specs.Epochs.{accepted, fed, on_time, timely, bucket, watermark, watermark_before}
use Rattle.ssq_meaning.specs.Fit.{IsFitRow}
use Rattle.ssq_meaning.specs.Group.{kept}
use Rattle.ssq_meaning.specs.GroupLaws.{Follows, IsGroupRow, held}
use Rattle.ssq_meaning.specs.Join.{is_left}
use Rattle.ssq_meaning.specs.JoinLaws as joined
use Rattle.ssq_meaning.specs.JoinLaws.{AreApart, ArePartsApart, IsBounded, IsJoinRow}
use Rattle.ssq_meaning.specs.Meaning.{Line, layout_at}
use Rattle.ssq_meaning.specs.Operator.{dedup, join, operator_for, operator_of}
use Rattle.ssq_agg.specs.Groups.{AreSteady, HasBigints, Held, IsBigint}
use Rattle.ssq_agg.specs.Steps.{IsKept}
use Rattle.ssq_dedup.specs.Steps as once
use Rattle.ssq_join.specs.Steps as pairs
use Rattle.ssq_step.specs.Rows.{stream_of}
use Rattle.ssq_core.specs.Course.{Cuts}
use Rattle.ssq_course.specs.Setting.{Setting, parts_in, cuts_of, state_at, watermark_at, keeping_of}
use Rattle.ssq_course.specs.Laws.{IsFit as IsFitPart}
use Rattle.ssq_course.specs.States.{CoverFewLines}
use Rattle.ssq_course.specs.Wide.{IsWide, JoinedRowsAreWide}
use Rattle.ssq_task.specs.declared.partition.Held.{Held as Own}
use Rattle.ssq_task.specs.declared.partition.State.{State}
use Rattle.ssq_task.specs.declared.partition.ReduceTask.{ReduceTask}
use Rattle.ssq_task.specs.Reducing.{IsGiven, IsGivenBy, IsGivenState, IsIndexed, timely_in}
use Rattle.ssq_task.specs.Stepping.{CanStepBy}
use Rattle.ssq_open.specs.declared.wanted.Lens.{Lens}
use Rattle.ssq_terms.specs.Setting.{AreFound, IsSettingOf, Runs, found_lines}
use Rattle.ssq_terms.specs.Partitions.{accepted_by, fed_to, on_time_to, mark_before, HoldsPartition, held_in, IsReduceOf, IsGivenPartition, PartitionsContinue}
use Rattle.ssq_terms.proofs.Covering.{found_covers}
use Rattle.ssq_terms.proofs.Placed.{RowsAreApart, accepted_apart}
use Rattle.ssq_terms.proofs.Wanted.{fit as fit_parts}

-- what the laws of rows, of groups, of rows without repeats and of joined rows say
pub record PartitionLaws : Type 0 where
  pub fit_accepted : (query : Bound) → HasWindows query → (parts : List Part) (cuts : Offsets) (e : ℕ) → All IsFitRow (accepted query parts cuts e)
  pub fit_on_time : (query : Bound) → HasWindows query → (parts : List Part) (cuts : Offsets) (e : ℕ) → All IsFitRow (on_time query parts cuts e)
  pub fit_bucket : (rows : List FedRow) (partitions p : ℕ) → All IsFitRow rows → All IsFitRow (bucket partitions p rows)
  pub few_accepted : (query : Bound) → HasWindows query → (parts : List Part) (cuts : Offsets) (e : ℕ) → AreCuts parts cuts e → length (accepted query parts cuts e) ≤ 64 * sum (cuts e)
  pub few_on_time : (query : Bound) → HasWindows query → (parts : List Part) (cuts : Offsets) (e : ℕ) → AreWithin parts (cuts e) (cuts (e + 1))
      → length (on_time query parts cuts e) ≤ 64 * (sum (cuts (e + 1)) - sum (cuts e))
  pub few_bucket : (rows : List FedRow) (partitions p : ℕ) → length (bucket partitions p rows) ≤ length rows
  pub follows : (query : Bound) (grouping : Grouping) → query.shape ≡ Group grouping → (parts : List Part) (cuts : Offsets) (partitions p e : ℕ)
      → Follows query grouping (bucket partitions p (on_time query parts cuts e)) (watermark_before query parts cuts e) (watermark query parts cuts e)
  pub joins : (query : Bound) (parts : List Part) (cuts : Offsets) (partitions p e : ℕ)
      → bucket partitions p (accepted query parts cuts (e + 1)) ≡ bucket partitions p (accepted query parts cuts e) ++ bucket partitions p (on_time query parts cuts e)
  pub grouped_accepted : (query : Bound) (grouping : Grouping) → query.shape ≡ Group grouping → (parts : List Part) (cuts : Offsets) (e : ℕ) → All (IsGroupRow query grouping) (accepted query parts cuts e)
  pub grouped_on_time : (query : Bound) (grouping : Grouping) → query.shape ≡ Group grouping → (parts : List Part) (cuts : Offsets) (e : ℕ) → All (IsGroupRow query grouping) (on_time query parts cuts e)
  pub repeats_follow : (query : Bound) (columns : List ℕ) → query.shape ≡ Dedup columns → (parts : List Part) (cuts : Offsets) (partitions p e : ℕ)
      → deduped.Follows query columns (bucket partitions p (on_time query parts cuts e)) (watermark_before query parts cuts e) (watermark query parts cuts e)
  pub keyed_accepted : (query : Bound) (columns : List ℕ) → query.shape ≡ Dedup columns → (parts : List Part) (cuts : Offsets) (e : ℕ) → All (IsDedupRow query columns) (accepted query parts cuts e)
  pub keyed_on_time : (query : Bound) (columns : List ℕ) → query.shape ≡ Dedup columns → (parts : List Part) (cuts : Offsets) (e : ℕ) → All (IsDedupRow query columns) (on_time query parts cuts e)
  pub joins_follow : (query : Bound) (joining : Joining) → query.shape ≡ Join joining → (parts : List Part) (cuts : Offsets) (partitions p e : ℕ)
      → joined.Follows (bucket partitions p (on_time query parts cuts e)) (watermark_before query parts cuts e) (watermark query parts cuts e)
  pub joined_accepted : (query : Bound) (joining : Joining) → query.shape ≡ Join joining → (parts : List Part) (cuts : Offsets) (e : ℕ) → All (IsJoinRow joining) (accepted query parts cuts e)
  pub joined_on_time : (query : Bound) (joining : Joining) → query.shape ≡ Join joining → (parts : List Part) (cuts : Offsets) (e : ℕ) → All (IsJoinRow joining) (on_time query parts cuts e)
  pub wide_accepted : JoinedRowsAreWide (λ query parts cuts e. accepted query parts cuts e)
  pub wide_on_time : JoinedRowsAreWide (λ query parts cuts e. on_time query parts cuts e)
  pub apart : RowsAreApart
  pub apart_bucket : (rows : List FedRow) (partitions p : ℕ) → AreApart rows → AreApart (bucket partitions p rows)
  pub apart_parts : (counts : List ℕ) (lines : List (List Line)) → length counts ≤ 2 → ArePartsApart (parts_of counts lines)
  pub steady : (query : Bound) (grouping : Grouping) (own : Held) (old new : List FedRow) (before : Option ℤ) → ((key : List Value) → own key ≡ held query grouping old before key)
      → length old + length new < 2 ^ 64 → AllByRecursion HasBigints old → AllByRecursion HasBigints new → AreSteady grouping.aggregates own new

-- ---- rows

-- two tests pass in any order
filter_swap : {X : Type 0} (p q : X → Bool) (xs : List X) → filter p (filter q xs) ≡ filter q (filter p xs)
filter_swap p q [] = refl
filter_swap {X} p q (x ∷ xs) = by (p x) (q x) refl refl (filter_swap p q xs)
  where
    passes : (t : X → Bool) (b : Bool) (rest : List X) → t x ≡ b → filter t (x ∷ rest) ≡ cond b (x ∷ filter t rest) (filter t rest)
    passes t b rest is = ap (λ (c : Bool). cond c (x ∷ filter t rest) (filter t rest)) is

    by : (a b : Bool) → p x ≡ a → q x ≡ b → filter p (filter q xs) ≡ filter q (filter p xs) → filter p (cond b (x ∷ filter q xs) (filter q xs)) ≡ filter q (cond a (x ∷ filter p xs) (filter p xs))
    by true true one other rest = passes p true (filter q xs) one ∙ ap (λ (r : List X). x ∷ r) rest ∙ sym (passes q true (filter p xs) other)
    by true false one other rest = rest ∙ sym (passes q false (filter p xs) other)
    by false true one other rest = passes p false (filter q xs) one ∙ rest
    by false false one other rest = rest

-- the rows of a partition that are not late are its rows of those that are not
pub timely_is : (s : Setting) (cuts : Cuts) (e p : ℕ) → timely s.job.bound (watermark_at s cuts e) (fed_to s cuts e p) ≡ on_time_to s cuts e p
timely_is s cuts e p =
    filter_swap (λ (row : FedRow). not ((operator_of s.job.bound).is_late (watermark_at s cuts e) row)) (λ (row : FedRow). place_of (keys_of row.key) s.job.partitions == p)
    (fed s.job.bound (parts_in s) (cuts_of cuts) e)

bigint_of : (v : Value) → IsFit v → IsBigint v
bigint_of value.Null fit = tt
bigint_of (value.Int number) fit = fit
bigint_of (value.Text text) fit = tt
bigint_of (value.Time time) fit = tt
bigint_of (value.Truth truth) fit = tt

bigints_of : (values : List Value) → AllByRecursion IsFit values → AllByRecursion IsBigint values
bigints_of [] fit = tt
bigints_of (v ∷ values) fit = (bigint_of v fit.0, bigints_of values fit.1)

have_bigints : (rows : List FedRow) → AllByRecursion IsFitRow rows → AllByRecursion HasBigints rows
have_bigints [] fit = tt
have_bigints (row ∷ rows) fit = (bigints_of row.values (recursion_from_All IsFit row.values fit.0.values), have_bigints rows fit.1)

-- each key of a partition has a value for each part of GROUP BY
lengths_of : (query : Bound) (grouping : Grouping) (partitions p : ℕ) (rows : List FedRow) → All (IsGroupRow query grouping) rows → All (λ (row : FedRow). length row.key ≡ length grouping.keys) (bucket partitions p rows)
lengths_of query grouping partitions p rows all k d less = (All-filter (λ (row : FedRow). place_of (keys_of row.key) partitions == p) (IsGroupRow query grouping) rows all k d less).key

kept_rows : (grouping : Grouping) (rows : List FedRow) → All IsFitRow rows → All (λ (row : FedRow). length row.key ≡ length grouping.keys) rows → All (IsKept grouping) rows
kept_rows grouping rows fit lengths k d less = record { fit = fit k d less; many = lengths k d less }

-- each key of a partition has a value for each column of DEDUPLICATE
keys_of_columns : (query : Bound) (columns : List ℕ) (partitions p : ℕ) (rows : List FedRow) → All (IsDedupRow query columns) rows → All (λ (row : FedRow). length row.key ≡ length columns) (bucket partitions p rows)
keys_of_columns query columns partitions p rows all k d less = (All-filter (λ (row : FedRow). place_of (keys_of row.key) partitions == p) (IsDedupRow query columns) rows all k d less).key

kept_repeats : (columns : List ℕ) (rows : List FedRow) → All IsFitRow rows → All (λ (row : FedRow). length row.key ≡ length columns) rows → All (once.IsKept columns) rows
kept_repeats columns rows fit lengths k d less = record { fit = fit k d less; many = lengths k d less }

-- a row of one of two streams is of that of its side
stream_is : (n : ℕ) (left : Bool) → (n == 0) ≡ left → n < 2 → n ≡ stream_of left
stream_is n true is low = eqb-true n 0 is
stream_is zero false is low = absurd (true≢false is)
stream_is (suc zero) false is low = refl
stream_is (suc (suc n)) false is low = absurd (omega (arith, low))

kept_row : (query : Bound) (joining : Joining) (row : FedRow) → IsFitRow row → IsJoinRow joining row → row.stream < 2 → IsWide query row → pairs.IsKept query joining row
kept_row query joining row fit own low wide =
    let same = stream_is row.stream (is_left row.stream) refl low in
    record { fit = fit; own = own; stream = same; many = wide ∙ ap (λ (stream : ℕ). length (layout_at query stream).columns) same }

kept_joined : (query : Bound) (joining : Joining) (rows : List FedRow) → All IsFitRow rows → All (IsJoinRow joining) rows → (count : ℕ) → count ≤ 2 → All (λ (row : FedRow). row.stream < count) rows → All (IsWide query) rows
    → All (pairs.IsKept query joining) rows
kept_joined query joining rows fit own count few low wide k d less =
    let below = low k d less in
    kept_row query joining (get_or rows k d) (fit k d less) (own k d less) (omega (arith, below, few)) (wide k d less)

sums_rise : (parts : List Part) (froms tos : Cut) → AreWithin parts froms tos → sum froms ≤ sum tos
sums_rise [] [] [] are = omega arith
sums_rise [] [] (to ∷ tos) are = absurd are
sums_rise [] (from ∷ froms) tos are = absurd are
sums_rise (part ∷ parts) [] tos are = absurd are
sums_rise (part ∷ parts) (from ∷ froms) [] are = absurd are
sums_rise (part ∷ parts) (from ∷ froms) (to ∷ tos) are = omega (arith, sum_by-cons (λ n. n) from froms, sum_by-cons (λ n. n) to tos, are.0, sums_rise parts froms tos are.1)

-- ---- the operator of groups

kept_is : (query : Bound) (grouping : Grouping) → query.shape ≡ Group grouping → (rows : List FedRow) (now : Option ℤ) → (operator_of query).state rows now ≡ kept query grouping rows now
unfolding operator_of
kept_is query grouping is rows now = ap (λ (shape : Shape). (operator_for shape query).state rows now) is

-- ---- and that of rows without repeats

repeats_kept_is : (query : Bound) (columns : List ℕ) → query.shape ≡ Dedup columns → (rows : List FedRow) (now : Option ℤ) → (operator_of query).state rows now ≡ (dedup query columns).state rows now
unfolding operator_of
repeats_kept_is query columns is rows now = ap (λ (shape : Shape). (operator_for shape query).state rows now) is

-- ---- and that of a join

joined_kept_is : (query : Bound) (joining : Joining) → query.shape ≡ Join joining → (rows : List FedRow) (now : Option ℤ) → (operator_of query).state rows now ≡ (join query joining).state rows now
unfolding operator_of
joined_kept_is query joining is rows now = ap (λ (shape : Shape). (operator_for shape query).state rows now) is

-- the parts of the job are of two streams at most, and their numbers can be written
record HasFewStreams (s : Setting) : Type 0 where
  pub counts : length s.job.parts ≤ 2
  pub fit : All IsFitPart (parts_in s)

module _ (laws : PartitionLaws) (s : Setting) (cuts : Cuts) (e p : ℕ) (windows : HasWindows s.job.bound) (covers : CoverFewLines s cuts (e + 1)) where
  few_rows : length (accepted_by s cuts e p) + length (on_time_to s cuts e p) < 2 ^ 64
  few_rows =
      let query = s.job.bound in
      let parts = parts_in s in
      let offsets = cuts_of cuts in
      let within = covers.are_cuts.follow e (omega arith) in
      let before : AreCuts parts offsets e = record { starts = covers.are_cuts.starts; follow = λ f less. covers.are_cuts.follow f (omega (arith, less)) } in
      omega (
        arith,
        laws.few_bucket (accepted query parts offsets e) s.job.partitions p,
        laws.few_bucket (on_time query parts offsets e) s.job.partitions p,
        laws.few_accepted query windows parts offsets e before,
        laws.few_on_time query windows parts offsets e within,
        sums_rise parts (offsets e) (offsets (e + 1)) within,
        covers.few,
      )

  module _ (few : e < 2 ^ 32) (streams : HasFewStreams s) (joining : Joining) (is : s.job.bound.shape ≡ Join joining) where
    rows_apart : AreApart (accepted_by s cuts e p ++ on_time_to s cuts e p)
    rows_apart =
        let query = s.job.bound in
        let parts = parts_in s in
        let all = accepted query parts (cuts_of cuts) (e + 1) in
        let lines = covers.few in
        let own : AreApart all = accepted_apart laws.apart query joining is parts (laws.apart_parts s.job.parts s.lines streams.counts) streams.fit (cuts_of cuts) (e + 1) covers.are_cuts (omega (arith, lines)) (omega (arith, few)) in
        subst AreApart (laws.joins query parts (cuts_of cuts) s.job.partitions p e) (laws.apart_bucket all s.job.partitions p own)

    own_rows : (rows : List FedRow) → All IsFitRow rows → All (IsJoinRow joining) rows → All (λ (row : FedRow). row.stream < length s.job.parts) rows → All (IsWide s.job.bound) rows
        → All (pairs.IsKept s.job.bound joining) (bucket s.job.partitions p rows)
    own_rows rows fit own low wide =
        let at : FedRow → Bool = λ (row : FedRow). place_of (keys_of row.key) s.job.partitions == p in
        All-filter at (pairs.IsKept s.job.bound joining) rows (kept_joined s.job.bound joining rows fit own (length s.job.parts) streams.counts low wide)

module _ (laws : PartitionLaws) (s : Setting) (cuts : Cuts) (e p : ℕ) (below : p < s.job.partitions) (windows : HasWindows s.job.bound) (covers : CoverFewLines s cuts (e + 1)) where
  -- the rows before, and those of the epoch, can be kept
  fit_old : All IsFitRow (accepted_by s cuts e p)
  fit_old = laws.fit_bucket (accepted s.job.bound (parts_in s) (cuts_of cuts) e) s.job.partitions p (laws.fit_accepted s.job.bound windows (parts_in s) (cuts_of cuts) e)

  fit_new : All IsFitRow (on_time_to s cuts e p)
  fit_new = laws.fit_bucket (on_time s.job.bound (parts_in s) (cuts_of cuts) e) s.job.partitions p (laws.fit_on_time s.job.bound windows (parts_in s) (cuts_of cuts) e)

  -- a query that keeps state has one for each partition
  none_kept : keeping_of s.job.bound.shape s.job.partitions ≡ s.job.partitions → HoldsPartition s cuts e p None → ⊥
  none_kept keeping there = omega (arith, there.store, keeping, below)

  -- what partition p of epoch e is stepped with
  abbrev query : Bound
  query = s.job.bound

  abbrev offsets : Offsets
  offsets = cuts_of cuts

  abbrev old : List FedRow
  old = accepted_by s cuts e p

  abbrev new : List FedRow
  new = on_time_to s cuts e p

  module _ {S : Type 0} where
    -- a state that the shape keeps is the partition's own, and what the operator needs follows from what it holds
    given_kept : (shape : Shape) → query.shape ≡ shape → keeping_of shape s.job.partitions ≡ s.job.partitions
        → ((own : Own) → own.store.state ≡ state_at s cuts p e → IsIndexed query own → CanStepBy shape query own.store.state own.closing old new (mark_before s cuts e) (watermark_at s cuts e))
        → (state : Option (State S)) → HoldsPartition s cuts e p (held_in state) → IsSomeAnd state (IsGivenState shape query p old new (mark_before s cuts e) (watermark_at s cuts e))
    given_kept shape is keeps steps None there = absurd (none_kept (ap (λ (shape : Shape). keeping_of shape s.job.partitions) is ∙ keeps) there)
    given_kept shape is keeps steps (Some state) there = record { own = there.store.1; given = steps state.held there.store.2 there.indexed }

    given_groups : (grouping : Grouping) → query.shape ≡ Group grouping → (state : Option (State S)) → HoldsPartition s cuts e p (held_in state)
        → IsSomeAnd state (IsGivenState (Group grouping) query p old new (mark_before s cuts e) (watermark_at s cuts e))
    given_groups grouping is = given_kept (Group grouping) is refl (λ own same indexed.
        record {
          groups = is;
          kept = same ∙ kept_is query grouping is old (mark_before s cuts e);
          indexed = indexed;
          follows = laws.follows query grouping is (parts_in s) offsets s.job.partitions p e;
          steady = laws.steady query grouping (held query grouping old (mark_before s cuts e)) old new (mark_before s cuts e) (λ key. refl) (few_rows laws s cuts e p windows covers)
              (have_bigints old (recursion_from_All IsFitRow old fit_old)) (have_bigints new (recursion_from_All IsFitRow new fit_new));
          rows = All-append (IsKept grouping) old new
              (kept_rows grouping old fit_old (lengths_of query grouping s.job.partitions p (accepted query (parts_in s) offsets e) (laws.grouped_accepted query grouping is (parts_in s) offsets e)))
              (kept_rows grouping new fit_new (lengths_of query grouping s.job.partitions p (on_time query (parts_in s) offsets e) (laws.grouped_on_time query grouping is (parts_in s) offsets e)));
        })

    given_repeats : (columns : List ℕ) → query.shape ≡ Dedup columns → (state : Option (State S)) → HoldsPartition s cuts e p (held_in state)
        → IsSomeAnd state (IsGivenState (Dedup columns) query p old new (mark_before s cuts e) (watermark_at s cuts e))
    given_repeats columns is = given_kept (Dedup columns) is refl (λ own same indexed.
        record {
          repeats = is;
          kept = same ∙ repeats_kept_is query columns is old (mark_before s cuts e);
          indexed = indexed;
          follows = laws.repeats_follow query columns is (parts_in s) offsets s.job.partitions p e;
          rows = All-append (once.IsKept columns) old new
              (kept_repeats columns old fit_old (keys_of_columns query columns s.job.partitions p (accepted query (parts_in s) offsets e) (laws.keyed_accepted query columns is (parts_in s) offsets e)))
              (kept_repeats columns new fit_new (keys_of_columns query columns s.job.partitions p (on_time query (parts_in s) offsets e) (laws.keyed_on_time query columns is (parts_in s) offsets e)));
        })

    given_joins : e < 2 ^ 32 → HasFewStreams s → (joining : Joining) → query.shape ≡ Join joining → IsBounded joining → (state : Option (State S)) → HoldsPartition s cuts e p (held_in state)
        → IsSomeAnd state (IsGivenState (Join joining) query p old new (mark_before s cuts e) (watermark_at s cuts e))
    given_joins few streams joining is bounded = given_kept (Join joining) is refl (λ own same indexed.
        let of_old = laws.wide_accepted query joining is in
        let of_new = laws.wide_on_time query joining is in
        record {
          joins = is;
          bounded = bounded;
          kept = same ∙ joined_kept_is query joining is old (mark_before s cuts e);
          indexed = indexed;
          follows = laws.joins_follow query joining is (parts_in s) offsets s.job.partitions p e;
          rows = All-append (pairs.IsKept query joining) old new
              (own_rows laws s cuts e p windows covers few streams joining is (accepted query (parts_in s) offsets e) (laws.fit_accepted query windows (parts_in s) offsets e) (laws.joined_accepted query joining is (parts_in s) offsets e) (of_old.stream s.job.parts s.lines offsets e) (of_old.wide (parts_in s) offsets e))
              (own_rows laws s cuts e p windows covers few streams joining is (on_time query (parts_in s) offsets e) (laws.fit_on_time query windows (parts_in s) offsets e) (laws.joined_on_time query joining is (parts_in s) offsets e) (of_new.stream s.job.parts s.lines offsets e) (of_new.wide (parts_in s) offsets e));
          apart = rows_apart laws s cuts e p windows covers few streams joining is;
        })

    given_nothing : (state : Option (State S)) → HoldsPartition s cuts e p (held_in state) → keeping_of s.job.bound.shape s.job.partitions ≡ 0 → state ≡ None
    given_nothing None there none = refl
    given_nothing (Some state) there none = absurd (omega (arith, there.store.0, none))

    given_by : e < 2 ^ 32 → HasFewStreams s → (shape : Shape) → s.job.bound.shape ≡ shape → Runs shape → (state : Option (State S)) → HoldsPartition s cuts e p (held_in state)
        → IsGivenBy shape s.job.bound p (accepted_by s cuts e p) (on_time_to s cuts e p) (mark_before s cuts e) (watermark_at s cuts e) state
    given_by few streams Plain is runs state there = given_nothing state there (ap (λ (shape : Shape). keeping_of shape s.job.partitions) is)
    given_by few streams (Group grouping) is runs state there = given_groups grouping is state there
    given_by few streams (Dedup columns) is runs state there = given_repeats columns is state there
    given_by few streams (Join joining) is runs state there = given_joins few streams joining is runs.1 state there

-- ---- the task

module _ {S F : Type 0} (s : Setting) (cuts : Cuts) (e : ℕ) (task : ReduceTask S F) (of : IsReduceOf s cuts e task) where
  -- its rows that are not late are those of the epoch
  pub rows_are : timely_in task ≡ on_time_to s cuts e task.partition
  rows_are = (λ i. timely (of.query i) (of.watermark i) (of.rows i)) ∙ timely_is s cuts e task.partition

  given_as : IsGiven s.job.bound task.partition (accepted_by s cuts e task.partition) (on_time_to s cuts e task.partition) (mark_before s cuts e) (watermark_at s cuts e) task.state → IsGivenPartition s cuts e task
  given_as given =
      let old = accepted_by s cuts e task.partition in
      let before = mark_before s cuts e in
      subst (λ (query : Bound). IsGiven query task.partition old (timely_in task) before task.watermark task.state) (sym of.query)
      (subst (λ (now : Option ℤ). IsGiven s.job.bound task.partition old (timely_in task) before now task.state) (sym of.watermark)
      (subst (λ (new : List FedRow). IsGiven s.job.bound task.partition old new before (watermark_at s cuts e) task.state) (sym rows_are) given))

-- its parts are of the query's streams
few_streams : (s : Setting) (bound : Bound) (partitions : Option ℕ) (lens : Lens) → IsSettingOf s bound partitions lens → AreFound (found_lines lens) s.lines → HasFewStreams s
few_streams s bound partitions lens is found = record {
  counts = omega (arith, ap (λ (counts : List ℕ). length counts) is.parts, length-map lens.streams (λ (parts : List ℕ). length parts), is.asked.each_stream, is.runs.few_streams);
  fit = fit_parts s bound partitions lens is found;
}

pub continue : {S F : Type 0} → PartitionLaws → PartitionsContinue S F
continue laws s bound partitions lens cuts e task is found covered of =
    let runs : Runs s.job.bound.shape = subst (λ (b : Bound). Runs b.shape) (sym is.query) is.runs.shape in
    let windows : HasWindows s.job.bound = subst HasWindows (sym is.query) is.runs.windows in
    let covers = found_covers s bound partitions lens is found cuts (e + 1) covered in
    let few : e < 2 ^ 32 = subst (λ (n : ℕ). n < 2 ^ 32) of.epoch of.few in
    given_as s cuts e task of (given_by laws s cuts e task.partition of.below windows covers few (few_streams s bound partitions lens is found) s.job.bound.shape refl runs task.state of.held)
