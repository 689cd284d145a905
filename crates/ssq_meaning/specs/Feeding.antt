-- What the lines of a part give: fed rows, their greatest event time, and the first fault.
use Rattle.std.specs.Prelude.{ℕ, ℤ, List, [], ◌∷◌, map, slice_get, Option, Some, None, Result, Ok, Err, option_and_then}
use Rattle.std.specs.List.{flat_map, enumerate_from}
use Rattle.ssq_value.specs.Layout.{Layout}
use Rattle.ssq_json.specs.Line.{row_of}
use Rattle.ssq_json.specs.declared.bad_row.BadRow.{BadRow}
use Rattle.ssq_shape.specs.declared.bound.Bound.{Bound}
use Rattle.ssq_shape.specs.declared.bound.Shape.{Shape}
use Rattle.ssq_shape.specs.declared.bound.Shape.TheVariants.{Plain, Group, Dedup, Join}
use Rattle.ssq_shape.specs.Evaluation.{Overflow as Excess, and_then, time_in as time_of_value}
use Rattle.ssq_shape.specs.Plain.{shown as shown_row}
use Rattle.ssq_meaning.specs.declared.line.LineFault.{LineFault}
use Rattle.ssq_meaning.specs.declared.line.LineFault.TheVariants.{Bad, Overflow}
use Rattle.ssq_meaning.specs.FedRows.{FedRow}
pub use Rattle.ssq_meaning.specs.Meaning.{layout_at}
use Rattle.ssq_meaning.specs.Meaning.{Line, Values, lines_between}
use Rattle.ssq_meaning.specs.Dedup.{handed_to_dedup}
use Rattle.ssq_meaning.specs.Group.{handed_to_groups}
use Rattle.ssq_meaning.specs.Join.{handed_to_join}
pub use Rattle.ssq_meaning.specs.Handed.{Handed}
use Rattle.ssq_meaning.specs.Parts.{Part}
use Rattle.ssq_meaning.specs.Times.{greatest}

-- a query that keeps nothing has one key, which has no values, and no time key
abbrev pub shown_once : Option Values → List Handed
shown_once None = []
shown_once (Some values) = record { key = []; time = None; values = values } ∷ []

-- What is handed on of a row of a stream, or that evaluating it overflows. Plain: the row as SELECT shows it, where WHERE is TRUE;
-- WHERE and then the items of SELECT are evaluated. Groups: the arguments of the aggregates, once for each window, where WHERE is TRUE.
-- DEDUPLICATE: the row as SELECT shows it, by its values in the columns, where WHERE is TRUE. Join: each row as it is, by its join key;
-- nothing is evaluated.
abbrev pub handed_by : Shape → Bound → ℕ → Values → Result (List Handed) Excess
handed_by Plain query stream row = and_then (shown_row query row) (λ values. Ok (shown_once values))
handed_by (Group grouping) query stream row = handed_to_groups query grouping row
handed_by (Dedup columns) query stream row = handed_to_dedup query columns row
handed_by (Join joining) query stream row = Ok (handed_to_join joining stream row ∷ [])

abbrev pub handed : Bound → ℕ → Values → Result (List Handed) Excess
handed query stream row = handed_by query.shape query stream row

-- what a line of a stream is: a row, no row where it is blank, or bad
abbrev pub read_at : Bound → ℕ → Line → Result (Option Values) BadRow
read_at query stream line = row_of (layout_at query stream) line

-- what a line gives: rows handed on, or its fault: it is bad, with the first cause, or evaluating its row overflows
abbrev pub line_evaluated : Result (List Handed) Excess → Result (List Handed) LineFault
line_evaluated (Ok rows) = Ok rows
line_evaluated (Err excess) = Err Overflow

abbrev pub line_read : Bound → ℕ → Result (Option Values) BadRow → Result (List Handed) LineFault
line_read query stream (Err cause) = Err (Bad cause)
line_read query stream (Ok None) = Ok []
line_read query stream (Ok (Some row)) = line_evaluated (handed query stream row)

abbrev pub line_handed : Bound → ℕ → Line → Result (List Handed) LineFault
line_handed query stream line = line_read query stream (read_at query stream line)

-- a row handed on, with its place: its epoch, its part and its line
abbrev pub placed : ℕ → Part → ℕ → Handed → FedRow
placed epoch part offset row =
    record { epoch = epoch; stream = part.stream; part = part.part; offset = offset; key = row.key; time = row.time; values = row.values }

-- what a line of an epoch feeds: nothing where it has a fault
abbrev pub fed_if : ℕ → Part → ℕ → Result (List Handed) LineFault → List FedRow
fed_if epoch part offset (Ok rows) = map (placed epoch part offset) rows
fed_if epoch part offset (Err fault) = []

abbrev pub fed_at : Bound → ℕ → Part → ℕ → Line → List FedRow
fed_at query epoch part offset line = fed_if epoch part offset (line_handed query part.stream line)

-- the event time of a row: its value in the event column, where its stream has one
abbrev pub time_of_row : Layout → Values → Option ℤ
time_of_row layout row = option_and_then (λ at. option_and_then time_of_value (slice_get row at)) layout.event

abbrev pub time_if : Layout → Result (Option Values) BadRow → Option ℤ
time_if layout (Err cause) = None
time_if layout (Ok None) = None
time_if layout (Ok (Some row)) = time_of_row layout row

-- the event time of the row that a line is, also where WHERE drops it or it is late
abbrev pub time_at : Bound → ℕ → Line → Option ℤ
time_at query stream line = time_if (layout_at query stream) (read_at query stream line)

-- A line that is bad or overflows: where it is, and what is wrong.
pub record LineAt : Type 0 where
  pub stream : ℕ
  pub part : ℕ
  pub offset : ℕ
  pub what : LineFault

abbrev pub fault_if : Part → ℕ → Result (List Handed) LineFault → Option LineAt
fault_if part offset (Ok rows) = None
fault_if part offset (Err fault) = Some (record { stream = part.stream; part = part.part; offset = offset; what = fault })

abbrev pub fault_at : Bound → Part → ℕ → Line → Option LineAt
fault_at query part offset line = fault_if part offset (line_handed query part.stream line)

-- the first that there is
abbrev pub or_else : {A : Type 0} → Option A → Option A → Option A
or_else None other = other
or_else (Some found) other = Some found

abbrev pub first_of_all : {A : Type 0} → List (Option A) → Option A
first_of_all [] = None
first_of_all (x ∷ xs) = or_else x (first_of_all xs)

-- the lines of a part from one offset up to another, each with its offset
abbrev pub offset_lines : Part → ℕ → ℕ → List (ℕ × Line)
offset_lines part from to = enumerate_from from (lines_between from to part.lines)

-- what these lines feed, in order, as lines of an epoch
abbrev pub fed_in : Bound → (epoch : ℕ) → Part → ℕ → ℕ → List FedRow
fed_in query epoch part from to = flat_map (λ line. fed_at query epoch part line.0 line.1) (offset_lines part from to)

-- the greatest event time of the rows among these lines, late rows and rows that WHERE drops included
abbrev pub time_in : Bound → Part → ℕ → ℕ → Option ℤ
time_in query part from to = greatest (map (λ line. time_at query part.stream line) (lines_between from to part.lines))

-- the first of these lines that is bad or overflows
abbrev pub fault_in : Bound → Part → ℕ → ℕ → Option LineAt
fault_in query part from to = first_of_all (map (λ line. fault_at query part line.0 line.1) (offset_lines part from to))
