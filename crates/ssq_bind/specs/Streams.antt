-- The streams of a bound query.
use Rattle.std.specs.Prelude.{ℕ, ℤ, if◌then◌else◌, List, [], ◌∷◌, ◌++◌, map, take, Option, Some, None}
use Rattle.std.specs.Option.{option_map}
use Rattle.ssq_value.specs.declared.column.ColType.TheVariants as type
use Rattle.ssq_value.specs.declared.column.Column.{Column}
use Rattle.ssq_shape.specs.Kinds.{is_kind}
use Rattle.ssq_shape.specs.declared.bound.Stream.{Stream}
use Rattle.ssq_ast.specs.declared.query.ColumnDecl.{ColumnDecl}
use Rattle.ssq_ast.specs.declared.query.Query.{Query}
use Rattle.ssq_ast.specs.declared.query.Stream.{Stream as Declared}
use Rattle.ssq_ast.specs.declared.query.Watermark.{Watermark}
use Rattle.ssq_check.specs.declared.scope.Side.TheVariants as side
use Rattle.ssq_check.specs.declared.scope.Spot.{Spot}
use Rattle.ssq_check.specs.Scope.{in_columns}
use Rattle.ssq_check.specs.Names.{column_of, left_stream, right_stream}

-- a stream has 64 columns at most
abbrev pub kept_columns : List ColumnDecl → List Column
kept_columns decls = map column_of (take 64 decls)

-- the index of a column of times
abbrev pub timed : Option Spot → Option ℕ
timed None = None
timed (Some spot) = if is_kind type.Timestamp (Some spot.kind) then Some spot.index else None

-- the event column: that of the watermark
abbrev pub event_in : List Column → Option Watermark → Option ℕ
event_in columns None = None
event_in columns (Some watermark) = timed (in_columns side.Left columns watermark.column.text)

abbrev pub delay_of : Watermark → ℤ
delay_of watermark = watermark.delay.micros

-- a stream that is read: its columns, its event column and how late its rows may come
abbrev pub stream_of : Declared → Stream
stream_of stream = record {
  name = stream.name.text;
  source = stream.source;
  schema = record { columns = kept_columns stream.columns; event = event_in (kept_columns stream.columns) stream.watermark };
  delay = option_map delay_of stream.watermark;
}

abbrev pub listed : Option Declared → List Stream
listed None = []
listed (Some stream) = stream_of stream ∷ []

-- the streams that are read, in the order of FROM; one that is declared alone is not read
abbrev pub streams_of : Query → List Stream
streams_of query = listed (left_stream query) ++ listed (right_stream query)
