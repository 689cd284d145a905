-- Groups of rows in event time: what is handed on of a row, the time of a key, what a group shows, and what is kept of it.
use Rattle.std.specs.Prelude.{◌&&◌, ℕ, ℤ, pos, ◌+ℤ◌, ◌*ℤ◌, Bool, true, not, if◌then◌else◌, List, [], ◌∷◌, ◌++◌, map, filter, filter_map, Option, Some, None, option_map, option_and_then, Result, Ok, is_err}
use Rattle.std.specs.List.{flat_map, list_any, range_with_len}
use Rattle.std.specs.Result.{result_ok}
use Rattle.std.specs.Ordering.{nat_cmp, is_eq, is_gt}
use Rattle.std.specs.Cmp.Lexicographic.{slice_cmp}
use Rattle.std.specs.FinMap.{from_entries, entries}
use Rattle.ssq_value.specs.declared.value.Value.{Value}
use Rattle.ssq_value.specs.declared.value.Value.TheVariants as value
use Rattle.ssq_value.specs.Key.{keys_of}
use Rattle.ssq_value.specs.Order.{values_cmp}
use Rattle.ssq_window.specs.Window.{window_count, first_start}
use Rattle.ssq_shape.specs.declared.bound.Aggregate.{Aggregate}
use Rattle.ssq_shape.specs.declared.bound.Bound.{Bound}
use Rattle.ssq_shape.specs.declared.bound.GroupKey.{GroupKey}
use Rattle.ssq_shape.specs.declared.bound.GroupKey.TheVariants as key
use Rattle.ssq_shape.specs.declared.bound.Grouping.{Grouping}
use Rattle.ssq_shape.specs.declared.bound.Mode.{Mode}
use Rattle.ssq_shape.specs.declared.bound.Mode.TheVariants as mode
use Rattle.ssq_shape.specs.declared.bound.Output.{Output}
use Rattle.ssq_shape.specs.declared.late.TimeKey.{TimeKey}
use Rattle.ssq_shape.specs.declared.late.TimeKey.TheVariants.{WindowEnd, EventTime, Both}
use Rattle.ssq_shape.specs.declared.typed.Typed.{Typed}
use Rattle.ssq_shape.specs.Evaluation.{Overflow, Evaluated, and_then, cell_at, evaluated, evaluated_with, is_true, time_in}
use Rattle.ssq_shape.specs.Late.{event_of, is_window_of, is_column_of, time_key}
use Rattle.ssq_shape.specs.Plain.{passes}
use Rattle.ssq_meaning.specs.FedRows.{FedRow}
use Rattle.ssq_meaning.specs.declared.total.Total.{Total}
use Rattle.ssq_meaning.specs.Handed.{Handed}
use Rattle.ssq_meaning.specs.Meaning.{Values}
use Rattle.ssq_meaning.specs.Times.{is_past}
use Rattle.ssq_meaning.specs.Totals.{totals_of, values_of_totals, totals_bytes}

-- ---- keys of a row

-- the starts of the windows that hold a time, the first one first
abbrev pub window_starts : ℤ → ℤ → ℤ → List ℤ
window_starts t size slide = map (λ k. first_start t size slide +ℤ (pos k *ℤ slide)) (range_with_len 0 (window_count t size slide))

abbrev pub starts_if : ℤ → ℤ → Option ℤ → List Value
starts_if size slide None = []
starts_if size slide (Some t) = map value.Time (window_starts t size slide)

-- what a row has for a part of a key: the value of the column, or the start of each window that holds its time; no window holds NULL
abbrev pub key_values : GroupKey → Values → List Value
key_values (key.Column column) row = cell_at row column ∷ []
key_values (key.Window column size slide) row = starts_if size slide (time_in (cell_at row column))

-- the keys of the groups in which a row is: one for each window
unfoldable pub row_keys : List GroupKey → Values → List Values
row_keys [] row = [] ∷ []
row_keys (key ∷ keys) row = flat_map (λ value. map (λ rest. value ∷ rest) (row_keys keys row)) (key_values key row)

-- ---- the time of a key

-- where a window ends, by its start
abbrev pub end_of : GroupKey → Value → Option ℤ
end_of (key.Column column) start = None
end_of (key.Window column size slide) start = option_map (λ t. t +ℤ size) (time_in start)

-- the end of the window over the event column
unfoldable pub window_end : Option ℕ → List GroupKey → Values → Option ℤ
window_end event [] values = None
window_end event (key ∷ keys) [] = None
window_end event (key ∷ keys) (value ∷ values) = if is_window_of event key then end_of key value else window_end event keys values

-- the event time, where rows are grouped by it
unfoldable pub event_time : Option ℕ → List GroupKey → Values → Option ℤ
event_time event [] values = None
event_time event (key ∷ keys) [] = None
event_time event (key ∷ keys) (value ∷ values) = if is_column_of event key then time_in value else event_time event keys values

abbrev pub time_by : Option TimeKey → Option ℕ → List GroupKey → Values → Option ℤ
time_by None event keys values = None
time_by (Some WindowEnd) event keys values = window_end event keys values
time_by (Some EventTime) event keys values = event_time event keys values
time_by (Some Both) event keys values = None

-- what is late and what is closed in a mode: in Complete nothing is
abbrev pub unless_complete : Mode → Option ℤ → Option ℤ
unless_complete mode.Append time = time
unless_complete mode.Update time = time
unless_complete mode.Complete time = None

-- The time of a key: a row of the key is late where this time is past, and so the key is closed, and forgotten. A key without a time
-- stays open: where no stream is watermarked, where rows are not grouped by event time, and in Complete.
unfoldable pub closing_time : Bound → Grouping → Values → Option ℤ
closing_time query grouping values =
    unless_complete query.mode (time_by (time_key query) (event_of query.streams) grouping.keys values)

-- ---- what is handed on

-- what an aggregate counts or adds up of a row: its argument; COUNT(*) has none, and counts TRUE
abbrev pub argument_of : Option Typed → Values → Evaluated
argument_of None row = Ok (value.Truth true)
argument_of (Some argument) row = evaluated argument row

-- the arguments of all aggregates, evaluated from the left
unfoldable pub arguments_of : List Aggregate → Values → Result Values Overflow
arguments_of [] row = Ok []
arguments_of (aggregate ∷ aggregates) row =
    and_then (argument_of aggregate.argument row) (λ value. and_then (arguments_of aggregates row) (λ values. Ok (value ∷ values)))

abbrev pub member : Bound → Grouping → Values → Values → Handed
member query grouping arguments key = record { key = key; time = closing_time query grouping key; values = arguments }

-- A row on which WHERE is TRUE is handed on once for each of its groups, with the arguments of the aggregates. These are evaluated on
-- each such row, also where it is in no group or late.
unfoldable pub handed_to_groups : Bound → Grouping → Values → Result (List Handed) Overflow
handed_to_groups query grouping row =
    and_then (passes query.filter row) (λ passing.
    if passing then and_then (arguments_of grouping.aggregates row) (λ arguments. Ok (map (member query grouping arguments) (row_keys grouping.keys row)))
    else Ok [])

-- ---- groups of rows

-- keys are equal value by value, NULLs too
abbrev pub is_same : Values → Values → Bool
is_same left right = is_eq (values_cmp left right)

abbrev pub without : Values → List Values → List Values
without key keys = filter (λ other. not (is_same key other)) keys

-- each key once, where it stands first
unfoldable pub distinct : List Values → List Values
distinct [] = []
distinct (key ∷ keys) = key ∷ without key (distinct keys)

-- the keys of the rows, each once
abbrev pub keys_in : List FedRow → List Values
keys_in rows = distinct (map (λ row. row.key) rows)

abbrev pub has_key : List FedRow → Values → Bool
has_key rows key = list_any (λ row. is_same key row.key) rows

-- what the rows of one key bring to its aggregates
abbrev pub members : List FedRow → Values → List Values
members rows key = map (λ row. row.values) (filter (λ row. is_same key row.key) rows)

-- the totals of a key, over all its rows
abbrev pub totals_in : Grouping → List FedRow → Values → List Total
totals_in grouping rows key = totals_of grouping.aggregates (members rows key)

-- ---- what a group shows

-- the items of SELECT on a group, evaluated from the left
unfoldable pub group_items : List Output → Values → List (Option Value) → Result Values Overflow
group_items [] key aggregates = Ok []
group_items (output ∷ outputs) key aggregates =
    and_then (evaluated_with aggregates output.value key) (λ value. and_then (group_items outputs key aggregates) (λ values. Ok (value ∷ values)))

-- a group passes HAVING exactly where that is TRUE on it
abbrev pub passes_having : Option Typed → Values → List (Option Value) → Result Bool Overflow
passes_having None key aggregates = Ok true
passes_having (Some condition) key aggregates = and_then (evaluated_with aggregates condition key) (λ value. Ok (is_true value))

-- the row that a group shows, if it shows one: HAVING is evaluated, and where it is TRUE the items of SELECT
unfoldable pub group_row : Bound → Grouping → Values → List Total → Result (Option Values) Overflow
group_row query grouping key totals =
    and_then (passes_having grouping.having key (values_of_totals totals)) (λ passing.
    if passing then and_then (group_items query.outputs key (values_of_totals totals)) (λ values. Ok (Some values)) else Ok None)

-- the row of a key, where it shows one and does not overflow
abbrev pub row_of_key : Bound → Grouping → List FedRow → Values → Option Values
row_of_key query grouping rows key = option_and_then (λ row. row) (result_ok (group_row query grouping key (totals_in grouping rows key)))

-- whether a key overflows
abbrev pub key_overflows : Bound → Grouping → List FedRow → Values → Bool
key_overflows query grouping rows key = is_err (group_row query grouping key (totals_in grouping rows key))

-- ---- closed keys, and what an epoch considers

-- a key is closed where its time is past
abbrev pub is_closed : Bound → Grouping → Option ℤ → Values → Bool
is_closed query grouping now key = is_past now (closing_time query grouping key)

-- the keys that a query means by these rows at a watermark: in Append those that are closed
abbrev pub is_meant : Mode → Bool → Bool
is_meant mode.Append closed = closed
is_meant mode.Update closed = true
is_meant mode.Complete closed = true

-- What a query means by rows and a watermark, as a batch: a row for each of the keys where HAVING is TRUE, with aggregates over all its
-- rows.
abbrev pub meant_keys : Bound → Grouping → List FedRow → Option ℤ → List Values
meant_keys query grouping rows now = filter (λ key. is_meant query.mode (is_closed query grouping now key)) (keys_in rows)

abbrev pub meant : Bound → Grouping → List FedRow → Option ℤ → List Values
meant query grouping rows now = filter_map (row_of_key query grouping rows) (meant_keys query grouping rows now)

-- Whether an epoch considers a key: in Append where it is closed first, in Update where it has a new row, in Complete always.
abbrev pub is_due : Mode → (closed_before closed_now is_touched : Bool) → Bool
is_due mode.Append before now touched = now && not before
is_due mode.Update before now touched = touched
is_due mode.Complete before now touched = true

abbrev pub due_keys : Bound → Grouping → (old new : List FedRow) → (before now : Option ℤ) → List Values
due_keys query grouping old new before now =
    filter (λ key. is_due query.mode (is_closed query grouping before key) (is_closed query grouping now key) (has_key new key)) (keys_in (old ++ new))

-- of keys the least by the order of their values
abbrev pub lesser_key : Values → Option Values → Values
lesser_key key None = key
lesser_key key (Some other) = if is_gt (values_cmp key other) then other else key

abbrev pub least_key : List Values → Option Values
least_key [] = None
least_key (key ∷ keys) = Some (lesser_key key (least_key keys))

-- ---- what is kept

-- the keys that are not closed
abbrev pub open_keys : Bound → Grouping → List FedRow → Option ℤ → List Values
open_keys query grouping rows now = filter (λ key. not (is_closed query grouping now key)) (keys_in rows)

abbrev pub entry_of : Grouping → List FedRow → Values → List ℕ × List ℕ
entry_of grouping rows key = (keys_of key, totals_bytes (totals_in grouping rows key))

-- their totals, by the bytes of keys in ascending order
abbrev pub kept : Bound → Grouping → List FedRow → Option ℤ → List (List ℕ × List ℕ)
kept query grouping rows now =
    entries (from_entries {R = slice_cmp nat_cmp} (map (entry_of grouping rows) (open_keys query grouping rows now)))
