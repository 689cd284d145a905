-- Times that were seen are times of lines, and watermarks can be printed.
use Rattle.std.proofs.Common.{◌<◌, ◌≤◌, ◌+◌, ◌^◌, [], ◌∷◌, ℕ, zero, suc, ℤ, List, Option, Some, None, Result, Ok, Err, Bool, true, false, subst, arith, map, length}
use Rattle.std.specs.Prelude.{All, IfOk, IfSome, slice_get, option_and_then, ◌==◌, if◌then◌else◌}
use Rattle.std.specs.Option.{ForSome}
use Rattle.std.specs.List.{cons_option}
use Rattle.std.proofs.lemmas.Int.{ints}
use Rattle.std.proofs.lemmas.List.Elements.{All-nil, All-cons, All-head, All-tail}
use Rattle.ssq_time.specs.Time.{IsLineTime, IsStampTime}
use Rattle.ssq_value.specs.declared.value.Value.{Value}
use Rattle.ssq_value.specs.declared.value.Value.TheVariants.{Null, Int, Text, Time, Truth}
use Rattle.ssq_value.specs.Kind.{IfTime}
use Rattle.ssq_value.specs.Layout.{Layout}
use Rattle.ssq_json.specs.declared.bad_row.BadRow.{BadRow}
use Rattle.ssq_json.specs.Fits.{FitsSchema}
use Rattle.ssq_json.specs.Line.{row_of}
use Rattle.ssq_shape.specs.declared.bound.Bound.{Bound}
use Rattle.ssq_shape.specs.declared.bound.Stream.{Stream}
use Rattle.ssq_shape.specs.Evaluation.{time_in as time_of_value}
use Rattle.ssq_meaning.specs.Meaning.{Line, Values, lines_between}
use Rattle.ssq_meaning.specs.Parts.{Part}
use Rattle.ssq_meaning.specs.Cut.{Cut, of_parts}
use Rattle.ssq_meaning.specs.Cut.{Cuts as Offsets}
use Rattle.ssq_meaning.specs.Times.{Delay, delay_of, delays, delays_from, earlier, greatest, later, least, less_delay}
use Rattle.ssq_meaning.specs.Feeding.{layout_at, read_at, time_if, time_at, time_in}
use Rattle.ssq_meaning.specs.Epochs.{seen, time_between, time_of_stream}
use Rattle.ssq_water.specs.Water.{IsDelay}
use Rattle.ssq_water.proofs.Marks.{mark_printed}
use Rattle.ssq_plans.specs.declared.seen.SeenBy.{SeenBy}
use Rattle.ssq_plans.specs.Records.{IsSeen}
use Rattle.ssq_course.specs.Setting.{parts_in, cuts_of}
use Rattle.ssq_course.specs.Laws.{PlansCanBeWritten as PlansAreWritable}
use Rattle.ssq_terms.specs.Laws.{TimesAreOfLines, CommitsCanBeWritten, WatermarksCanBePrinted, PlansCanBeWritten}

-- ---- times of lines

-- there is a time of a line, or none
abbrev IsTime : Option ℤ → Type 0
IsTime t = IfSome t IsLineTime

of_value : (value : Value) → IfTime IsLineTime value → IsTime (time_of_value value)
of_value Null is = tt
of_value (Int n) is = tt
of_value (Text text) is = tt
of_value (Time t) is = is
of_value (Truth truth) is = tt

of_column : (row : List Value) (at : ℕ) → All (IfTime IsLineTime) row → IsTime (option_and_then time_of_value (slice_get row at))
of_column [] at all = tt
of_column (value ∷ row) zero all = of_value value (All-head (IfTime IsLineTime) value row all)
of_column (value ∷ row) (suc at) all = of_column row at (All-tail (IfTime IsLineTime) value row all)

of_event : (row : List Value) (event : Option ℕ) → All (IfTime IsLineTime) row → IsTime (option_and_then (λ at. option_and_then time_of_value (slice_get row at)) event)
of_event row None all = tt
of_event row (Some at) all = of_column row at all

of_read : (schema : Layout) (read : Result (Option Values) BadRow) → IfOk read (λ row. IfSome row (FitsSchema schema)) → IsTime (time_if schema read)
of_read schema (Err cause) fits = tt
of_read schema (Ok None) fits = tt
of_read schema (Ok (Some row)) fits = of_event row schema.event fits.years

of_later : (s t : Option ℤ) → IsTime s → IsTime t → IsTime (later s t)
of_later None t is also = also
of_later (Some s) None is also = is
of_later (Some s) (Some t) is also = (grind (arith, ints, is, also), grind (arith, ints, is, also))

if_stream : (b : Bool) (t : Option ℤ) → IsTime t → IsTime (if b then t else None)
if_stream true t is = is
if_stream false t is = tt

for_some : {T : Type 0} (o : Option T) (P : T → Type 0) → IfSome o P → ForSome o P
for_some o P h x is = subst (λ o. IfSome o P) is h

-- ---- the streams of delays

-- they are numbered from this one on
pub numbered : (at : ℕ) (streams : List Stream) (n : ℕ) → at + length streams ≤ n → All (λ (stream : Delay). stream.0 < n) (delays_from at streams)
unfolding delays_from
numbered at [] n few = All-nil (λ (stream : Delay). stream.0 < n)
numbered at (stream ∷ streams) n few = first stream.delay (delays_from (at + 1) streams) (numbered (at + 1) streams n (omega (arith, few)))
  where
    first : (delay : Option ℤ) (rest : List Delay) → All (λ (stream : Delay). stream.0 < n) rest → All (λ (stream : Delay). stream.0 < n) (cons_option (delay_of at delay) rest)
    first None rest all = all
    first (Some delay) rest all = All-cons (λ (stream : Delay). stream.0 < n) (at, delay) rest (omega (arith, few)) all

-- what is seen of each can be written
lines_written : (of : ℕ → Option ℤ) (streams : List Delay) → ((stream : ℕ) → ForSome (of stream) IsLineTime) → All (λ (stream : Delay). stream.0 < 2 ^ 32) streams
    → All IsSeen (map (λ (stream : Delay). (let line : SeenBy = record { stream = stream.0; time = of stream.0 } in line)) streams)
lines_written of [] times few = All-nil IsSeen
lines_written of (d ∷ streams) times few =
    All-cons IsSeen (record { stream = d.0; time = of d.0 }) _ (All-head (λ (stream : Delay). stream.0 < 2 ^ 32) d streams few, times d.0)
    (lines_written of streams times (All-tail (λ (stream : Delay). stream.0 < 2 ^ 32) d streams few))

-- ---- watermarks

abbrev IsMark : Option ℤ → Type 0
IsMark t = IfSome t IsStampTime

delays_held : (at : ℕ) (streams : List Stream) → All (λ (stream : Stream). IfSome stream.delay IsDelay) streams → All (λ (stream : Delay). IsDelay stream.1) (delays_from at streams)
unfolding delays_from
delays_held at [] all = All-nil (λ (stream : Delay). IsDelay stream.1)
delays_held at (stream ∷ streams) all =
    first stream.delay (delays_from (at + 1) streams) (All-head (λ (stream : Stream). IfSome stream.delay IsDelay) stream streams all)
    (delays_held (at + 1) streams (All-tail (λ (stream : Stream). IfSome stream.delay IsDelay) stream streams all))
  where
    first : (delay : Option ℤ) (rest : List Delay) → IfSome delay IsDelay → All (λ (stream : Delay). IsDelay stream.1) rest → All (λ (stream : Delay). IsDelay stream.1) (cons_option (delay_of at delay) rest)
    first None rest is held = held
    first (Some delay) rest is held = All-cons (λ (stream : Delay). IsDelay stream.1) (at, delay) rest is held

of_mark : (t : Option ℤ) (delay : ℤ) → IsTime t → IsDelay delay → IsMark (less_delay t delay)
of_mark None delay is held = tt
of_mark (Some t) delay is held = mark_printed t delay is held

of_earlier : (s t : Option ℤ) → IsMark s → IsMark t → IsMark (earlier s t)
of_earlier None t is also = tt
of_earlier (Some s) None is also = tt
of_earlier (Some s) (Some t) is also = (grind (arith, ints, is, also), grind (arith, ints, is, also))

of_marks : (of : ℕ → Option ℤ) (streams : List Delay) → ((stream : ℕ) → IsTime (of stream)) → All (λ (stream : Delay). IsDelay stream.1) streams
    → IsMark (least (map (λ (stream : Delay). less_delay (of stream.0) stream.1) streams))
of_marks of [] times held = tt
of_marks of (d ∷ []) times held = of_mark (of d.0) d.1 (times d.0) (All-head (λ (stream : Delay). IsDelay stream.1) d [] held)
of_marks of (d ∷ e ∷ ds) times held =
    of_earlier (less_delay (of d.0) d.1) _ (of_mark (of d.0) d.1 (times d.0) (All-head (λ (stream : Delay). IsDelay stream.1) d (e ∷ ds) held))
    (of_marks of (e ∷ ds) times (All-tail (λ (stream : Delay). IsDelay stream.1) d (e ∷ ds) held))

-- ---- with the law of rows: each that a line is fits its schema

abbrev pub RowsFit : Type 0
RowsFit = (schema : Layout) (line : Line) → IfOk (row_of schema line) (λ row. IfSome row (FitsSchema schema))

module _ (rows_fit : RowsFit) where
  of_line : (query : Bound) (stream : ℕ) (line : Line) → IsTime (time_at query stream line)
  of_line query stream line = of_read (layout_at query stream) (read_at query stream line) (rows_fit (layout_at query stream) line)

  of_lines : (query : Bound) (stream : ℕ) (lines : List Line) → IsTime (greatest (map (λ line. time_at query stream line) lines))
  of_lines query stream [] = tt
  of_lines query stream (line ∷ lines) = of_later (time_at query stream line) _ (of_line query stream line) (of_lines query stream lines)

  of_part : (query : Bound) (stream : ℕ) (part : Part) (from to : ℕ) → IsTime (time_of_stream query stream part from to)
  of_part query stream part from to = if_stream (part.stream == stream) (time_in query part from to) (of_lines query part.stream (lines_between from to part.lines))

  of_cuts : (query : Bound) (stream : ℕ) (parts : List Part) (froms tos : Cut) → IsTime (time_between query parts froms tos stream)
  unfolding of_parts
  of_cuts query stream [] froms tos = tt
  of_cuts query stream (part ∷ parts) [] tos = tt
  of_cuts query stream (part ∷ parts) (from ∷ froms) [] = tt
  of_cuts query stream (part ∷ parts) (from ∷ froms) (to ∷ tos) = of_later _ _ (of_part query stream part from to) (of_cuts query stream parts froms tos)

  of_epochs : (query : Bound) (parts : List Part) (cuts : Offsets) (stream e : ℕ) → IsTime (seen query parts cuts stream e)
  unfolding seen
  of_epochs query parts cuts stream zero = tt
  of_epochs query parts cuts stream (suc e) = of_later _ _ (of_epochs query parts cuts stream e) (of_cuts query stream parts (cuts e) (cuts (e + 1)))

  pub are_times : TimesAreOfLines
  are_times query parts cuts stream e = for_some (seen query parts cuts stream e) IsLineTime (of_epochs query parts cuts stream e)

  pub commits_written : CommitsCanBeWritten
  commits_written s cuts e streams few = (
    few,
    lines_written (λ stream. seen s.job.bound (parts_in s) (cuts_of cuts) stream (e + 1)) (delays s.job.bound)
        (λ stream. are_times s.job.bound (parts_in s) (cuts_of cuts) stream (e + 1)) (numbered 0 s.job.bound.streams (2 ^ 32) (omega (arith, streams))),
  )

  pub marks_printed : WatermarksCanBePrinted
  marks_printed s cuts e held =
      for_some _ IsStampTime (of_marks (λ stream. seen s.job.bound (parts_in s) (cuts_of cuts) stream e) (delays s.job.bound)
      (λ stream. of_epochs s.job.bound (parts_in s) (cuts_of cuts) stream e) (delays_held 0 s.job.bound.streams held))

  -- with the law of plans, too
  pub plans_written : PlansAreWritable → PlansCanBeWritten
  plans_written writable s cuts e held fit next few = writable s cuts e fit next few (marks_printed s cuts e held)
