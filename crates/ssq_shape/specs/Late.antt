-- The time key of a query, by which a row is late, and which queries show more once the watermark rises.
use Rattle.std.specs.Prelude.{ℕ, Bool, true, false, nat_eq, if◌then◌else◌, List, [], ◌∷◌, Option, Some, None}
use Rattle.std.specs.List.{list_any}
use Rattle.ssq_shape.specs.declared.bound.Bound.{Bound}
use Rattle.ssq_shape.specs.declared.bound.GroupKey.{GroupKey}
use Rattle.ssq_shape.specs.declared.bound.GroupKey.TheVariants as key
use Rattle.ssq_shape.specs.declared.bound.JoinKind.{JoinKind}
use Rattle.ssq_shape.specs.declared.bound.JoinKind.TheVariants as join
use Rattle.ssq_shape.specs.declared.bound.Mode.{Mode}
use Rattle.ssq_shape.specs.declared.bound.Mode.TheVariants as mode
use Rattle.ssq_shape.specs.declared.bound.Shape.{Shape}
use Rattle.ssq_shape.specs.declared.bound.Shape.TheVariants as shape
use Rattle.ssq_shape.specs.declared.bound.Stream.{Stream}
use Rattle.ssq_shape.specs.declared.bound.TimeBound.{TimeBound}
use Rattle.ssq_shape.specs.declared.late.TimeKey.{TimeKey}
use Rattle.ssq_shape.specs.declared.late.TimeKey.TheVariants.{WindowEnd, EventTime, Both}

-- the event column of the stream of FROM, where it is watermarked
abbrev pub event_of : List Stream → Option ℕ
event_of [] = None
event_of (stream ∷ streams) = stream.schema.event

abbrev pub is_event : Option ℕ → ℕ → Bool
is_event None column = false
is_event (Some event) column = nat_eq event column

-- a window over the event column
abbrev pub is_window_of : Option ℕ → GroupKey → Bool
is_window_of event (key.Column column) = false
is_window_of event (key.Window column size slide) = is_event event column

-- the event column itself
abbrev pub is_column_of : Option ℕ → GroupKey → Bool
is_column_of event (key.Column column) = is_event event column
is_column_of event (key.Window column size slide) = false

-- groups: the window's end where it is a window over the event column, else the event time where rows are grouped by it
unfoldable pub grouped_by : Option ℕ → List GroupKey → Option TimeKey
grouped_by event keys =
    if list_any (is_window_of event) keys then Some WindowEnd
    else if list_any (is_column_of event) keys then Some EventTime
    else None

-- DEDUPLICATE: the event time where it is among the columns
unfoldable pub repeated_by : Option ℕ → List ℕ → Option TimeKey
repeated_by event columns = if list_any (is_event event) columns then Some EventTime else None

-- a join: the event times where it has a bound
abbrev pub joined_by : Option TimeBound → Option TimeKey
joined_by None = None
joined_by (Some bound) = Some Both

abbrev pub time_key_of : Option ℕ → Shape → Option TimeKey
time_key_of event shape.Plain = None
time_key_of event (shape.Group grouping) = grouped_by event grouping.keys
time_key_of event (shape.Dedup columns) = repeated_by event columns
time_key_of event (shape.Join joining) = joined_by joining.bound

abbrev pub time_key : Bound → Option TimeKey
time_key bound = time_key_of (event_of bound.streams) bound.shape

abbrev pub is_append : Mode → Bool
is_append mode.Append = true
is_append mode.Update = false
is_append mode.Complete = false

abbrev pub is_outer : JoinKind → Bool
is_outer join.Inner = false
is_outer join.Left = true
is_outer join.Right = true

-- groups in Append, and outer joins
abbrev pub closes_in : Mode → Shape → Bool
closes_in own shape.Plain = false
closes_in own (shape.Group grouping) = is_append own
closes_in own (shape.Dedup columns) = false
closes_in own (shape.Join joining) = is_outer joining.kind

abbrev pub closes : Bound → Bool
closes bound = closes_in bound.mode bound.shape
