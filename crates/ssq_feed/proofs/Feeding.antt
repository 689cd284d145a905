-- The lines of a range, one after the other.
use Rattle.std.proofs.Common.{◌≡◌, ◌<◌, ◌≤◌, ◌+◌, ◌-◌, ◌++◌, [], ◌∷◌, ℕ, zero, suc, ℤ, List, Option, Some, None, Ok, Err, refl, ap, sym, ◌∙◌, subst, inl, inr, arith, take, drop, map, length, append_assoc}
use Rattle.std.specs.Prelude.{All, IfSome, IsOkAnd, Result, nat_lt, true, slice_get, option_and_then}
use Rattle.std.specs.List.{flat_map, enumerate_from}
use Rattle.std.proofs.lemmas.Bool.{cases_lt, lt-ltb}
use Rattle.std.proofs.lemmas.List.{append-nil, drop_more, take_all, length-take-le}
use Rattle.std.proofs.lemmas.Option.{slice_get_within, get_or_from_slice_get}
use Rattle.std.proofs.lemmas.List.Elements.{All-nil, All-head, All-tail, All-append}
use Rattle.ssq_outside.specs.Faults.{Rises}
use Rattle.ssq_time.specs.Time.{IsLineTime}
use Rattle.ssq_value.specs.declared.value.Value.{Value}
use Rattle.ssq_value.specs.declared.value.Value.TheVariants.{Null, Int, Text, Time, Truth}
use Rattle.ssq_value.specs.Kind.{IfTime}
use Rattle.ssq_value.specs.Layout.{Layout}
use Rattle.ssq_route.specs.Buckets.{buckets_of}
use Rattle.ssq_json.specs.Line.{row_of, longest}
use Rattle.ssq_json.specs.Fits.{FitsSchema}
use Rattle.ssq_json.specs.declared.bad_row.BadRow.TheVariants.{TooLong}
use Rattle.ssq_shape.specs.declared.bound.Bound.{Bound}
use Rattle.ssq_shape.specs.Evaluation.{Overflow as Excess, time_in as time_of_value}
use Rattle.ssq_meaning.specs.FedRows.{FedRow}
use Rattle.ssq_meaning.specs.declared.line.LineFault.{LineFault}
use Rattle.ssq_meaning.specs.declared.line.LineFault.TheVariants as line
use Rattle.ssq_meaning.specs.Fit.{IsFitRow}
use Rattle.ssq_meaning.specs.Meaning.{Line, Values, lines_between}
use Rattle.ssq_meaning.specs.Parts.{Part}
use Rattle.ssq_meaning.specs.Times.{later, greatest}
use Rattle.ssq_meaning.specs.Feeding.{Handed, layout_at, read_at, handed, line_evaluated, line_read, line_handed, placed, fed_if, fed_at, time_of_row, time_if, time_at, fault_if, fault_at, first_of_all, or_else, fed_in, time_in, fault_in}
use Rattle.ssq_meaning.proofs.Greatest.{later_assoc}
use Rattle.ssq_meaning.proofs.Water.{later_none}
use Rattle.ssq_feed.specs.declared.fault.FeedFault.{FeedFault}
use Rattle.ssq_feed.specs.declared.fault.FeedFault.TheVariants.{BadLine, Overflow, LogFault, LogShort, NoMemory}
use Rattle.ssq_feed.specs.declared.dealer.Origin.{Origin}
use Rattle.ssq_feed.specs.Dealing.{Deals, HasDealt, from_origin}
use Rattle.ssq_feed.specs.Rows.{dealt, IsFedFrom, IsRead, GivesOf, LineCause, IsFirst}
use Rattle.ssq_feed.specs.Causes.{LogWent, FeedCause, ReadCause}
use Rattle.ssq_feed.proofs.Members.{deals_none}

-- ---- one line

time_years : (row : List Value) (at : ℕ) → All (IfTime IsLineTime) row → IfSome (option_and_then time_of_value (slice_get row at)) IsLineTime
time_years [] at all = tt
time_years (value ∷ row) zero all = own value (All-head (IfTime IsLineTime) value row all) where
  own : (value : Value) → IfTime IsLineTime value → IfSome (time_of_value value) IsLineTime
  own Null is = tt
  own (Int n) is = tt
  own (Text text) is = tt
  own (Time t) is = is
  own (Truth truth) is = tt
time_years (value ∷ row) (suc at) all = time_years row at (All-tail (IfTime IsLineTime) value row all)

row_time_years : (schema : Layout) (row : List Value) → All (IfTime IsLineTime) row → IfSome (time_of_row schema row) IsLineTime
row_time_years schema row all = by_event schema.event where
  by_event : (event : Option ℕ) → IfSome (option_and_then (λ at. option_and_then time_of_value (slice_get row at)) event) IsLineTime
  by_event None = tt
  by_event (Some at) = time_years row at all

-- what a row gives that was read
pub gives : (query : Bound) (stream : ℕ) (bytes : Line) (schema : Layout) (row : Values) (time : Option ℤ) (rows : List Handed)
    → schema ≡ layout_at query stream → row_of schema bytes ≡ Ok (Some row) → handed query stream row ≡ Ok rows → time ≡ time_of_row schema row
    → FitsSchema schema row → GivesOf query stream bytes time rows
gives query stream bytes schema row time rows layout read is timed fits =
    let read_is : read_at query stream bytes ≡ Ok (Some row) = ap (λ (l : Layout). row_of l bytes) (sym layout) ∙ read in
    record {
      handed = ap (line_read query stream) read_is ∙ ap line_evaluated is;
      timed = ap (time_if (layout_at query stream)) read_is ∙ ap (λ (l : Layout). time_of_row l row) (sym layout) ∙ sym timed;
      years = subst (λ (t : Option ℤ). IfSome t IsLineTime) (sym timed) (row_time_years schema row fits.years);
    }

-- a line is dealt where what its row hands on is
pub line_dealt : (query : Bound) (origin : Origin) (bytes : Line) (schema : Layout) (row : Values) (time : Option ℤ) (old new : List (List FedRow))
    → schema ≡ layout_at query origin.stream → row_of schema bytes ≡ Ok (Some row) → time ≡ time_of_row schema row → FitsSchema schema row
    → IsOkAnd (handed query origin.stream row) (λ rows. Deals old new (map (from_origin origin) rows)) → HasDealt query origin bytes old new time
line_dealt query origin bytes schema row time old new layout read timed fits deals = by_rows (handed query origin.stream row) refl deals where
  by_rows : (meant : Result (List Handed) Excess) → handed query origin.stream row ≡ meant → IsOkAnd meant (λ rows. Deals old new (map (from_origin origin) rows))
      → HasDealt query origin bytes old new time
  by_rows (Ok rows) is deals = record { rows = rows; gives = gives query origin.stream bytes schema row time rows layout read is timed fits; deals = deals }
  by_rows (Err excess) is deals = absurd deals

-- a blank line gives nothing
pub blank_dealt : (query : Bound) (origin : Origin) (bytes : Line) (schema : Layout) (buckets : List (List FedRow)) → schema ≡ layout_at query origin.stream
    → row_of schema bytes ≡ Ok None → HasDealt query origin bytes buckets buckets None
blank_dealt query origin bytes schema buckets layout read =
    let read_is : read_at query origin.stream bytes ≡ Ok None = ap (λ (l : Layout). row_of l bytes) (sym layout) ∙ read in
    record {
      rows = [];
      gives = record { handed = ap (line_read query origin.stream) read_is; timed = ap (time_if (layout_at query origin.stream)) read_is; years = tt };
      deals = deals_none buckets;
    }

too_long : (query : Bound) (stream : ℕ) (line : Line) → nat_lt longest (length line) ≡ true → read_at query stream line ≡ Err TooLong
unfolding row_of
too_long query stream line long = rw long refl

-- a line that is cut after its first 1,048,577 bytes is read the same
read_at-take : (query : Bound) (stream : ℕ) (line : Line) → read_at query stream (take 1048577 line) ≡ read_at query stream line
read_at-take query stream line =
    elim (cases_lt 1048577 (length line)) [
      | inl long ↦
          let cut : length (take 1048577 line) ≡ 1048577 = length-take-le 1048577 line (omega (arith, long)) in
          too_long query stream (take 1048577 line) (rw cut refl) ∙ sym (too_long query stream line (lt-ltb _ _ (omega (arith, long))))
      | inr short ↦ ap (read_at query stream) (take_all 1048577 line short)
    ]

-- ---- line after line

-- Up to an offset: the rows so far and those of the lines that are left are the rows of the range, the greatest time is that of what was read
-- and what is left, and the first fault is not before the offset.
pub record SoFar (tells : Type 0) (query : Bound) (epoch : ℕ) (part : Part) (from at to partitions : ℕ) (time : Option ℤ) (buckets : List (List FedRow)) : Type 0 where
  pub rows : List FedRow
  pub apart : buckets ≡ dealt partitions rows
  pub fit : All IsFitRow rows
  pub years : IfSome time IsLineTime
  pub left : tells → rows ++ fed_in query epoch part at to ≡ fed_in query epoch part from to
  pub greatest : tells → later time (time_in query part at to) ≡ time_in query part from to
  pub good : tells → fault_in query part at to ≡ fault_in query part from to

pub begun : (tells : Type 0) (query : Bound) (epoch : ℕ) (part : Part) (from to partitions : ℕ) (buckets : List (List FedRow)) → buckets ≡ buckets_of partitions []
    → SoFar tells query epoch part from from to partitions None buckets
begun tells query epoch part from to partitions buckets none = record {
  rows = [];
  apart = none;
  fit = All-nil IsFitRow;
  years = tt;
  left = λ tells. refl;
  greatest = λ tells. refl;
  good = λ tells. refl;
}

-- the lines from an offset on are the line there and those after it
lines_between-front : (at to : ℕ) (lines : List Line) (line : Line) → at < to → slice_get lines at ≡ Some line
    → lines_between at to lines ≡ line ∷ lines_between (at + 1) to lines
lines_between-front at to lines line inside there =
    let e : to - at ≡ suc (to - (at + 1)) = omega arith in
    let within : at < length lines = slice_get_within lines at line there in
    let d : drop at lines ≡ line ∷ drop (at + 1) lines = drop_more lines at line within ∙ ap (λ (x : Line). x ∷ drop (at + 1) lines) (get_or_from_slice_get lines at line line there) in
    rw (e, d) refl

-- what holds of the line there
record Front (query : Bound) (epoch : ℕ) (part : Part) (at to : ℕ) (bytes : Line) : Type 0 where
  fed : fed_in query epoch part at to ≡ fed_if epoch part at (line_handed query part.stream bytes) ++ fed_in query epoch part (at + 1) to
  time : time_in query part at to ≡ later (time_at query part.stream bytes) (time_in query part (at + 1) to)
  fault : fault_in query part at to ≡ or_else (fault_if part at (line_handed query part.stream bytes)) (fault_in query part (at + 1) to)

in_front : (query : Bound) (epoch : ℕ) (part : Part) (at to : ℕ) (bytes : Line) → at < to → IsRead part.lines at bytes → Front query epoch part at to bytes
in_front query epoch part at to bytes inside is =
    let front : lines_between at to part.lines ≡ is.line ∷ lines_between (at + 1) to part.lines = lines_between-front at to part.lines is.line inside is.there in
    let same : read_at query part.stream is.line ≡ read_at query part.stream bytes = sym (ap (read_at query part.stream) is.cut ∙ read_at-take query part.stream is.line) in
    record {
      fed = ap (λ (ls : List Line). flat_map (λ (l : ℕ × Line). fed_at query epoch part l.0 l.1) (enumerate_from at ls)) front
          ∙ ap (λ r. fed_if epoch part at (line_read query part.stream r) ++ fed_in query epoch part (at + 1) to) same;
      time = ap (λ (ls : List Line). greatest (map (λ (l : Line). time_at query part.stream l) ls)) front
          ∙ ap (λ r. later (time_if (layout_at query part.stream) r) (time_in query part (at + 1) to)) same;
      fault = ap (λ (ls : List Line). first_of_all (map (λ (l : ℕ × Line). fault_at query part l.0 l.1) (enumerate_from at ls))) front
          ∙ ap (λ r. or_else (fault_if part at (line_read query part.stream r)) (fault_in query part (at + 1) to)) same;
    }

-- one line more
pub goes_on : (tells : Type 0) (query : Bound) (epoch : ℕ) (part : Part) (from at to partitions : ℕ) (time own more : Option ℤ) (rows : List Handed) (bytes : Line) (old new : List (List FedRow))
    → SoFar tells query epoch part from at to partitions time old → at < to → (tells → IsRead part.lines at bytes) → GivesOf query part.stream bytes own rows
    → more ≡ later time own → IfSome more IsLineTime → length old ≡ partitions → Deals old new (map (placed epoch part at) rows)
    → SoFar tells query epoch part from (at + 1) to partitions more new
goes_on tells query epoch part from at to partitions time own more rows bytes old new so_far inside read given more_is years len deals =
    let own_rows = map (placed epoch part at) rows in
    let P : ℕ → Type 0 = λ n. (before : List FedRow) → old ≡ dealt n before → new ≡ dealt n (before ++ own_rows) in
    let behind : P partitions = subst P len deals.behind in
    record {
      rows = so_far.rows ++ own_rows;
      apart = behind so_far.rows so_far.apart;
      fit = All-append IsFitRow so_far.rows own_rows so_far.fit deals.fit;
      years = years;
      left = λ is.
          let front = in_front query epoch part at to bytes inside (read is) in
          let fed : fed_in query epoch part at to ≡ own_rows ++ fed_in query epoch part (at + 1) to = front.fed ∙ ap (λ r. fed_if epoch part at r ++ fed_in query epoch part (at + 1) to) given.handed in
          append_assoc so_far.rows own_rows (fed_in query epoch part (at + 1) to) ∙ ap (λ r. so_far.rows ++ r) (sym fed) ∙ so_far.left is;
      greatest = λ is.
          let front = in_front query epoch part at to bytes inside (read is) in
          let rest = time_in query part (at + 1) to in
          ap (λ t. later t rest) more_is ∙ later_assoc time own rest ∙ ap (λ t. later time (later t rest)) (sym given.timed) ∙ ap (later time) (sym front.time) ∙ so_far.greatest is;
      good = λ is.
          let front = in_front query epoch part at to bytes inside (read is) in
          sym (front.fault ∙ ap (λ r. or_else (fault_if part at r) (fault_in query part (at + 1) to)) given.handed) ∙ so_far.good is;
    }

none_left : (at to : ℕ) (lines : List Line) → to ≤ at → lines_between at to lines ≡ []
none_left at to lines le = let e : to - at ≡ 0 = omega (arith, le) in rw e refl

-- the last line is read
pub ended : (tells : Type 0) (query : Bound) (epoch : ℕ) (part : Part) (from at to partitions : ℕ) (time : Option ℤ) (buckets : List (List FedRow))
    → SoFar tells query epoch part from at to partitions time buckets → to ≤ at → IsFedFrom tells query epoch part from to partitions time buckets
ended tells query epoch part from at to partitions time buckets so_far le =
    let over : lines_between at to part.lines ≡ [] = none_left at to part.lines le in
    record {
      rows = so_far.rows;
      apart = so_far.apart;
      fit = so_far.fit;
      years = so_far.years;
      are = λ is. sym (append-nil so_far.rows)
          ∙ ap (λ (ls : List Line). so_far.rows ++ flat_map (λ (l : ℕ × Line). fed_at query epoch part l.0 l.1) (enumerate_from at ls)) (sym over) ∙ so_far.left is;
      greatest = λ is. sym (later_none time)
          ∙ ap (λ (ls : List Line). later time (greatest (map (λ (l : Line). time_at query part.stream l) ls))) (sym over) ∙ so_far.greatest is;
      good = λ is. sym (so_far.good is)
          ∙ ap (λ (ls : List Line). first_of_all (map (λ (l : ℕ × Line). fault_at query part l.0 l.1) (enumerate_from at ls))) over;
    }

-- ---- the causes on their way up

first_here : (tells : Type 0) (query : Bound) (epoch : ℕ) (part : Part) (from at to partitions : ℕ) (time : Option ℤ) (buckets : List (List FedRow)) (bytes : Line) (what : LineFault)
    → SoFar tells query epoch part from at to partitions time buckets → at < to → (tells → IsRead part.lines at bytes) → line_handed query part.stream bytes ≡ Err what
    → tells → IsFirst query part from to at what
first_here tells query epoch part from at to partitions time buckets bytes what so_far inside read wrong is =
    let front = in_front query epoch part at to bytes inside (read is) in
    sym (so_far.good is) ∙ front.fault ∙ ap (λ r. or_else (fault_if part at r) (fault_in query part (at + 1) to)) wrong

module _ {L : Type 0} (tells : Type 0) (lines : L → List Line) (available : L → ℕ) (answers : L → List ℕ) (faults : L → ℕ) where
  -- reading one line after the other
  pub went_on : (first before after : L) → LogWent tells lines available answers faults first before → LogWent tells lines available answers faults before after
      → LogWent tells lines available answers faults first after
  went_on first before after one two = record {
    same = λ is. two.same is ∙ one.same is;
    grown = λ is. omega (arith, one.grown is, two.grown is);
    unasked = λ is. two.unasked is ∙ one.unasked is;
    counted = omega (arith, one.counted, two.counted);
  }

  -- a line that was not read
  pub read_stops : (query : Bound) (stream part from at to : ℕ) (first before after : L) (fault : FeedFault) → LogWent tells lines available answers faults first before → at < to
      → ReadCause tells lines available answers faults at to before after fault → FeedCause tells lines available answers faults query stream part from to first after fault
  read_stops query stream part from at to first before after (BadLine offset cause) went inside is = absurd is
  read_stops query stream part from at to first before after (Overflow offset) went inside is = absurd is
  read_stops query stream part from at to first before after LogFault went inside is = rises_more (faults first) (faults before) (faults after) went.counted is where
    rises_more : (a b c : ℕ) → a ≤ b → Rises b c → Rises a c
    rises_more a b c le rises = grind (arith, le, rises)
  read_stops query stream part from at to first before after (LogShort logged found) went inside is = (is.0, omega (arith, is.1, inside), is.2)
  read_stops query stream part from at to first before after NoMemory went inside is = tt

  -- a line that is a fault
  pub line_stops : (query : Bound) (epoch stream part from at to partitions : ℕ) (time : Option ℤ) (buckets : List (List FedRow)) (bytes : Line) (first after : L) (fault : FeedFault)
      → SoFar tells query epoch (record { stream = stream; part = part; lines = lines first }) from at to partitions time buckets → at < to → (tells → IsRead (lines first) at bytes)
      → LineCause query stream bytes at fault → FeedCause tells lines available answers faults query stream part from to first after fault
  line_stops query epoch stream part from at to partitions time buckets bytes first after (BadLine offset cause) so_far inside read is =
      let of : Part = record { stream = stream; part = part; lines = lines first } in
      let P : ℕ → Type 0 = λ o. IsFirst query of from to o (line.Bad cause) in
      (λ t. subst P (sym is.0) (first_here tells query epoch of from at to partitions time buckets bytes (line.Bad cause) so_far inside read is.1 t), is.2)
  line_stops query epoch stream part from at to partitions time buckets bytes first after (Overflow offset) so_far inside read is =
      let of : Part = record { stream = stream; part = part; lines = lines first } in
      let P : ℕ → Type 0 = λ o. IsFirst query of from to o line.Overflow in
      λ t. subst P (sym is.0) (first_here tells query epoch of from at to partitions time buckets bytes line.Overflow so_far inside read is.1 t)
  line_stops query epoch stream part from at to partitions time buckets bytes first after LogFault so_far inside read is = absurd is
  line_stops query epoch stream part from at to partitions time buckets bytes first after (LogShort logged found) so_far inside read is = absurd is
  line_stops query epoch stream part from at to partitions time buckets bytes first after NoMemory so_far inside read is = tt
