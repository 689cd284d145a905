-- Rows without repeats: what is handed on of a row, the time of a key, which rows are shown, and what is kept.
use Rattle.std.specs.Prelude.{ℕ, ℤ, Bool, not, if◌then◌else◌, List, [], ◌∷◌, ◌++◌, map, filter, Option, Some, None, Result, Ok}
use Rattle.std.specs.Ordering.{nat_cmp}
use Rattle.std.specs.Cmp.Lexicographic.{slice_cmp}
use Rattle.std.specs.FinMap.{from_entries, entries}
use Rattle.ssq_value.specs.Key.{keys_of}
use Rattle.ssq_shape.specs.declared.bound.Bound.{Bound}
use Rattle.ssq_shape.specs.Evaluation.{Overflow, and_then, cell_at, time_in}
use Rattle.ssq_shape.specs.Late.{event_of, is_event}
use Rattle.ssq_shape.specs.Plain.{shown}
use Rattle.ssq_meaning.specs.FedRows.{FedRow}
use Rattle.ssq_meaning.specs.Group.{has_key, keys_in, unless_complete}
use Rattle.ssq_meaning.specs.Handed.{Handed}
use Rattle.ssq_meaning.specs.Meaning.{Values}
use Rattle.ssq_meaning.specs.Times.{is_past}

-- ---- the key of a row

-- the values of DEDUPLICATE's columns, in their order
abbrev pub key_in : List ℕ → Values → Values
key_in columns row = map (λ column. cell_at row column) columns

-- ---- the time of a key

-- the event time, where the event column is among the columns
unfoldable pub event_time : Option ℕ → List ℕ → Values → Option ℤ
event_time event [] values = None
event_time event (column ∷ columns) [] = None
event_time event (column ∷ columns) (value ∷ values) = if is_event event column then time_in value else event_time event columns values

-- The time of a key: a row of the key is late where this time is past, and then the key is forgotten. A key without a time is never
-- forgotten: where no stream is watermarked, and where the event column is not among the columns.
unfoldable pub closing_time : Bound → List ℕ → Values → Option ℤ
closing_time query columns key = unless_complete query.mode (event_time (event_of query.streams) columns key)

-- a key is closed where its time is past
abbrev pub is_closed : Bound → List ℕ → Option ℤ → Values → Bool
is_closed query columns now key = is_past now (closing_time query columns key)

-- ---- what is handed on

abbrev pub distinguished : Bound → List ℕ → Values → Values → Handed
distinguished query columns key values = record { key = key; time = closing_time query columns key; values = values }

abbrev pub distinguished_if : Bound → List ℕ → Values → Option Values → List Handed
distinguished_if query columns key None = []
distinguished_if query columns key (Some values) = distinguished query columns key values ∷ []

-- A row on which WHERE is TRUE is handed on as SELECT shows it, by its values in the columns. SELECT is evaluated on each such row, also
-- where it is late or a repeat.
unfoldable pub handed_to_dedup : Bound → List ℕ → Values → Result (List Handed) Overflow
handed_to_dedup query columns row = and_then (shown query row) (λ values. Ok (distinguished_if query columns (key_in columns row) values))

-- ---- the rows that are shown

-- Of some rows those that are no repeats: no row before them has their key, neither one of these rows nor an earlier one.
unfoldable pub firsts : (earlier rows : List FedRow) → List FedRow
firsts earlier [] = []
firsts earlier (row ∷ rows) =
    if has_key earlier row.key then firsts (earlier ++ row ∷ []) rows else row ∷ firsts (earlier ++ row ∷ []) rows

abbrev pub values_in : List FedRow → List Values
values_in rows = map (λ row. row.values) rows

-- What a query means by rows, as a batch: the first row of each key, as SELECT shows it, in the order of the rows.
abbrev pub meant : List FedRow → List Values
meant rows = values_in (firsts [] rows)

-- ---- what is kept

-- the keys that are not closed
abbrev pub open_keys : Bound → List ℕ → List FedRow → Option ℤ → List Values
open_keys query columns rows now = filter (λ key. not (is_closed query columns now key)) (keys_in rows)

-- of a key its bytes, and nothing more
abbrev pub entry_of : Values → List ℕ × List ℕ
entry_of key = (keys_of key, [])

-- these, by the bytes of keys in ascending order
abbrev pub kept : Bound → List ℕ → List FedRow → Option ℤ → List (List ℕ × List ℕ)
kept query columns rows now = entries (from_entries {R = slice_cmp nat_cmp} (map entry_of (open_keys query columns rows now)))
