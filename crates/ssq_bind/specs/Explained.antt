-- What is told of a bound query.
use Rattle.std.specs.Prelude.{ℕ, ◌++◌, Bool, if◌then◌else◌, List, [], ◌∷◌, slice_get, Option, Some, None, codes}
use Rattle.ssq_value.specs.declared.column.Column.{Column}
use Rattle.ssq_shape.specs.declared.bound.Bound.{Bound}
use Rattle.ssq_shape.specs.declared.bound.Mode.{Mode}
use Rattle.ssq_shape.specs.declared.bound.Mode.TheVariants as mode
use Rattle.ssq_shape.specs.declared.bound.Shape.{Shape}
use Rattle.ssq_shape.specs.declared.bound.Shape.TheVariants as shape
use Rattle.ssq_shape.specs.declared.bound.Stream.{Stream}
use Rattle.ssq_shape.specs.declared.late.TimeKey.{TimeKey}
use Rattle.ssq_shape.specs.declared.late.TimeKey.TheVariants as key
use Rattle.ssq_shape.specs.Late.{time_key, closes}

abbrev pub shape_name : Shape → List ℕ
shape_name shape.Plain = codes "Plain"
shape_name (shape.Group grouping) = codes "Group"
shape_name (shape.Dedup columns) = codes "Dedup"
shape_name (shape.Join joining) = codes "Join"

abbrev pub mode_name : Mode → List ℕ
mode_name mode.Append = codes "Append"
mode_name mode.Update = codes "Update"
mode_name mode.Complete = codes "Complete"

abbrev pub column_name : Option Column → List ℕ
column_name None = []
column_name (Some column) = column.name

abbrev pub event_name_in : List Column → Option ℕ → List ℕ
event_name_in columns None = []
event_name_in columns (Some at) = column_name (slice_get columns at)

-- the name of the event column of the stream of FROM
abbrev pub event_name : List Stream → List ℕ
event_name [] = []
event_name (stream ∷ streams) = event_name_in stream.schema.columns stream.schema.event

-- the time by which rows are late
abbrev pub time_name : List Stream → Option TimeKey → List ℕ
time_name streams None = codes "none"
time_name streams (Some key.WindowEnd) = codes "window_end"
time_name streams (Some key.EventTime) = event_name streams
time_name streams (Some key.Both) = codes "both"

abbrev pub answer : Bool → List ℕ
answer is = if is then codes "yes" else codes "no"

abbrev pub told : List ℕ → List ℕ → List ℕ → List ℕ → List ℕ → List ℕ
told text shape mode late closes =
    text ++ (codes "\nshape " ++ (shape ++ (codes " mode " ++ (mode ++ (codes " late " ++ (late ++ (codes " closes " ++ (closes ++ codes "\n"))))))))

-- the canonical text, and a line with the shape, the mode, the time key and whether the query closes
abbrev pub explained : Bound → List ℕ
explained bound = told bound.text (shape_name bound.shape) (mode_name bound.mode) (time_name bound.streams (time_key bound)) (answer (closes bound))
