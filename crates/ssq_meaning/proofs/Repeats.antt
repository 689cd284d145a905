-- Rows without repeats over the epochs of a job: how they are fed, that epochs follow one another, what they show, and that no row is lost.
use Rattle.std.proofs.Common.{◌≡◌, ◌++◌, [], ◌∷◌, ℕ, zero, suc, ℤ, List, Option, Result, Ok, Err, Bool, true, false, refl, ap, sym, ◌∙◌, subst, filter, length}
use Rattle.std.specs.Prelude.{◌&&◌, ◌||◌, ◌==◌, All, IfOk, IfSome, not}
use Rattle.std.specs.List.{AllByRecursion}
use Rattle.std.proofs.lemmas.List.{length-map}
use Rattle.std.proofs.lemmas.List.Elements.{All-filter, All-from_recursion, All-weaker, recursion_from_All}
use Rattle.ssq_value.specs.Key.{keys_of}
use Rattle.ssq_route.specs.Place.{place_of}
use Rattle.ssq_shape.specs.declared.bound.Bound.{Bound}
use Rattle.ssq_shape.specs.declared.bound.Shape.{Shape}
use Rattle.ssq_shape.specs.declared.bound.Shape.TheVariants.{Dedup}
use Rattle.ssq_shape.specs.Evaluation.{Overflow as Excess, cell_at}
use Rattle.ssq_shape.specs.Plain.{projected}
use Rattle.ssq_meaning.specs.FedRows.{FedRow}
use Rattle.ssq_meaning.specs.Cut.{Cuts}
use Rattle.ssq_meaning.specs.Dedup.{closing_time, distinguished, firsts, is_closed, key_in, values_in}
use Rattle.ssq_meaning.specs.DedupLaws.{Follows, IsDedupRow, IsKnownAt, IsOpenTo, is_held, is_held_next, meaning_at}
use Rattle.ssq_meaning.specs.Epochs.{accepted, bucket, fed, on_time, out, watermark, watermark_before}
use Rattle.ssq_meaning.specs.Feeding.{fed_in, line_handed, read_at}
use Rattle.ssq_meaning.specs.Group.{has_key, is_same}
use Rattle.ssq_meaning.specs.Handed.{Handed}
use Rattle.ssq_meaning.specs.Laws.{outs}
use Rattle.ssq_meaning.specs.Meaning.{Line, Values}
use Rattle.ssq_meaning.specs.Operator.{operator_for, operator_of}
use Rattle.ssq_meaning.specs.Parts.{Part}
use Rattle.ssq_meaning.proofs.Counted.{has_key-append}
use Rattle.ssq_meaning.proofs.Firsts.{meant-append}
use Rattle.ssq_meaning.proofs.Grouped.{past_stays}
use Rattle.ssq_meaning.proofs.Handing.{Gives, IsFed, IsGiven, any_read, line_has, part_all, fed_all, on_time_all, accepted_all, timely_open, weaker}
use Rattle.ssq_meaning.proofs.Keys.{same_is}
use Rattle.ssq_meaning.proofs.Water.{water_rose, water_stays}

module _ (query : Bound) (columns : List ℕ) where
  -- ---- how rows are fed

  abbrev IsMade : (stream : ℕ) → (key : Values) → (time : Option ℤ) → (values : Values) → Type 0
  IsMade stream key time values = (time ≡ closing_time query columns key) × (length key ≡ length columns)

  abbrev AreMade : List Handed → Type 0
  AreMade rows = AllByRecursion (IsGiven query IsMade 0) rows

  made : (key : Values) → length key ≡ length columns → (values : Result Values Excess) → IfOk values (λ values. AreMade (distinguished query columns key values ∷ []))
  made key many (Ok values) = ((refl, many), tt)
  made key many (Err excess) = tt

  row_made : (stream : ℕ) (row : Values) → Gives query AreMade stream (Dedup columns) row
  row_made stream row = made (key_in columns row) (length-map columns (λ column. cell_at row column)) (projected query.outputs row)

  is_dedup_row : (row : FedRow) → IsMade row.stream row.key row.time row.values → IsDedupRow query columns row
  is_dedup_row row made = record { time = made.0; key = made.1 }

  dedup_rows : (rows : List FedRow) → AllByRecursion (IsFed query IsMade) rows → All (IsDedupRow query columns) rows
  dedup_rows rows all = All-from_recursion (IsDedupRow query columns) rows (weaker (IsFed query IsMade) (IsDedupRow query columns) is_dedup_row rows all)

  -- ---- what is kept

  module _ (old new : List FedRow) (before now : Option ℤ) (follows : Follows query columns new before now) where
    was_open : (key : Values) → is_closed query columns now key ≡ false → is_closed query columns before key ≡ false
    was_open key opens = by (is_closed query columns before key) refl
      where
        by : (b : Bool) → is_closed query columns before key ≡ b → is_closed query columns before key ≡ false
        by true closed =
            let no : false ≡ true = sym opens ∙ past_stays before now (closing_time query columns key) follows.rises closed in
            absurd cc
        by false closed = closed

    -- an epoch without rows of a key and one with some
    pub held_next : (key : Values) → is_held query columns (old ++ new) now key ≡ is_held_next (is_closed query columns now key) (is_held query columns old before key) (has_key new key)
    held_next key =
        ap (λ h. h && not (is_closed query columns now key)) (has_key-append old new key)
        ∙ by (is_closed query columns now key) (is_closed query columns before key) (has_key old key) (has_key new key) (was_open key)
      where
        by : (c b h m : Bool) → (c ≡ false → b ≡ false) → ((h || m) && not c) ≡ (not c && ((h && not b) || m))
        by true b true m opens = refl
        by true b false true opens = refl
        by true b false false opens = refl
        by false true h m opens = let no : true ≡ false = opens refl in absurd cc
        by false false true m opens = refl
        by false false false true opens = refl
        by false false false false opens = refl

    known_if : (key : Values) → is_closed query columns now key ≡ false → is_held query columns old before key ≡ has_key old key
    known_if key opens = ap (λ b. has_key old key && not b) (was_open key opens) ∙ by (has_key old key)
      where
        by : (h : Bool) → (h && true) ≡ h
        by true = refl
        by false = refl

    -- a new row's key is kept exactly where an old row has it
    pub new_known : All (λ (row : FedRow). is_held query columns old before row.key ≡ has_key old row.key) new
    new_known =
        All-weaker (λ (row : FedRow). is_closed query columns now row.key ≡ false) (λ (row : FedRow). is_held query columns old before row.key ≡ has_key old row.key) (λ row. known_if row.key) new follows.timely

    -- a key that is closed has no new row
    pub none_new : (key : Values) → is_closed query columns now key ≡ true → has_key new key ≡ false
    none_new key closed = lacks new (recursion_from_All _ new follows.timely)
      where
        apart : (row : FedRow) → is_closed query columns now row.key ≡ false → (b : Bool) → is_same key row.key ≡ b → is_same key row.key ≡ false
        apart row opens false is = is
        apart row opens true is = let no : true ≡ false = sym closed ∙ ap (is_closed query columns now) (same_is key row.key is) ∙ opens in absurd cc

        lacks : (rows : List FedRow) → AllByRecursion (λ (row : FedRow). is_closed query columns now row.key ≡ false) rows → has_key rows key ≡ false
        lacks [] all = refl
        lacks (row ∷ rows) all = ap (λ b. b || has_key rows key) (apart row all.0 (is_same key row.key) refl) ∙ lacks rows all.1

  -- ---- over the epochs

  module _ (is : query.shape ≡ Dedup columns) where
    line_made : (stream : ℕ) (line : Line) → IfOk (line_handed query stream line) AreMade
    line_made stream line =
        line_has query AreMade tt stream line
        (subst (λ (of : Shape). IfOk (read_at query stream line) (λ row. IfSome row (Gives query AreMade stream of))) (sym is) (any_read (Gives query AreMade stream (Dedup columns)) (row_made stream) (read_at query stream line)))

    pub part_keyed : (epoch : ℕ) (part : Part) (from to : ℕ) → All (IsDedupRow query columns) (fed_in query epoch part from to)
    part_keyed epoch part from to = dedup_rows (fed_in query epoch part from to) (part_all query IsMade line_made epoch part from to)

    module _ (parts : List Part) (cuts : Cuts) where
      pub fed_keyed : (e : ℕ) → All (IsDedupRow query columns) (fed query parts cuts e)
      fed_keyed e = dedup_rows (fed query parts cuts e) (fed_all query IsMade line_made parts cuts e)

      pub on_time_keyed : (e : ℕ) → All (IsDedupRow query columns) (on_time query parts cuts e)
      on_time_keyed e = dedup_rows (on_time query parts cuts e) (on_time_all query IsMade line_made parts cuts e)

      pub accepted_keyed : (e : ℕ) → All (IsDedupRow query columns) (accepted query parts cuts e)
      accepted_keyed e = dedup_rows (accepted query parts cuts e) (accepted_all query IsMade line_made parts cuts e)

      -- the key of no row that is on time is closed
      on_time_open : (e : ℕ) → AllByRecursion (λ row. is_closed query columns (watermark query parts cuts e) row.key ≡ false) (on_time query parts cuts e)
      unfolding operator_of
      on_time_open e =
          let now = watermark query parts cuts e in
          let rows = fed query parts cuts e in
          subst (λ (shape : Shape). AllByRecursion (λ row. is_closed query columns now row.key ≡ false) (filter (λ (row : FedRow). not ((operator_for shape query).is_late now row)) rows)) (sym is)
          (timely_open query IsMade (closing_time query columns) (λ row made. made.0) now rows (fed_all query IsMade line_made parts cuts e))

      pub follows_at : (e : ℕ) → Follows query columns (on_time query parts cuts e) (watermark_before query parts cuts e) (watermark query parts cuts e)
      follows_at e = record {
        rises = water_rose query parts cuts e;
        timely = All-from_recursion _ (on_time query parts cuts e) (on_time_open e);
      }

      pub follows_in : (partitions p e : ℕ) → Follows query columns (bucket partitions p (on_time query parts cuts e)) (watermark_before query parts cuts e) (watermark query parts cuts e)
      follows_in partitions p e =
          let all = follows_at e in
          record {
            rises = all.rises;
            timely = All-filter (λ (row : FedRow). place_of (keys_of row.key) partitions == p) (λ (row : FedRow). is_closed query columns (watermark query parts cuts e) row.key ≡ false) (on_time query parts cuts e) all.timely;
          }

      -- ---- what the epochs show

      out_is : (e : ℕ) → out query parts cuts e ≡ values_in (firsts (accepted query parts cuts e) (on_time query parts cuts e))
      unfolding operator_of
      out_is e =
          ap (λ (shape : Shape). (operator_for shape query).added (accepted query parts cuts e) (on_time query parts cuts e) (watermark_before query parts cuts e) (watermark query parts cuts e)) is

      pub epochs_add_up : (n : ℕ) → outs query parts cuts n ≡ meaning_at query parts cuts n
      unfolding outs accepted firsts
      epochs_add_up zero = refl
      epochs_add_up (suc n) =
          (λ i. epochs_add_up n i ++ out_is n i) ∙ meant-append (accepted query parts cuts n) (on_time query parts cuts n)

      -- ---- no row is lost

      stays_open : (key : Values) (e : ℕ) → is_closed query columns (watermark query parts cuts e) key ≡ false → IsOpenTo query columns parts cuts e key
      stays_open key e opens f le = by (is_closed query columns (watermark query parts cuts f) key) refl
        where
          by : (b : Bool) → is_closed query columns (watermark query parts cuts f) key ≡ b → is_closed query columns (watermark query parts cuts f) key ≡ false
          by true closed =
              let no : false ≡ true = sym opens ∙ past_stays (watermark query parts cuts f) (watermark query parts cuts e) (closing_time query columns key) (water_stays query parts cuts f e le) closed in
              absurd cc
          by false closed = closed

      pub rows_are_open : (e : ℕ) → All (λ (row : FedRow). IsOpenTo query columns parts cuts e row.key) (on_time query parts cuts e)
      rows_are_open e = All-from_recursion _ (on_time query parts cuts e)
          (weaker (λ (row : FedRow). is_closed query columns (watermark query parts cuts e) row.key ≡ false) (λ row. IsOpenTo query columns parts cuts e row.key) (λ row. stays_open row.key e)
          (on_time query parts cuts e) (on_time_open e))

      pub rows_are_known : (e : ℕ) → All (λ (row : FedRow). IsKnownAt query columns parts cuts e row.key) (on_time query parts cuts e)
      rows_are_known e = new_known (accepted query parts cuts e) (on_time query parts cuts e) (watermark_before query parts cuts e) (watermark query parts cuts e) (follows_at e)
