-- A stream without a watermark has no event column.
use Rattle.std.proofs.Common.{◌≡◌, refl, List, Option, Some, None}
use Rattle.std.specs.Option.{option_map}
use Rattle.ssq_value.specs.declared.column.Column.{Column}
use Rattle.ssq_shape.specs.declared.bound.Stream.{Stream}
use Rattle.ssq_ast.specs.declared.query.Watermark.{Watermark}
use Rattle.ssq_bind.specs.Streams.{kept_columns, event_in, delay_of}
use Rattle.ssq_bind.specs.Timed.{EventsHaveDelays}
use Rattle.ssq_bind.proofs.EachStream.{any_read}

no_event : (columns : List Column) (watermark : Option Watermark) → option_map delay_of watermark ≡ None → event_in columns watermark ≡ None
no_event columns None is = refl
no_event columns (Some watermark) is = absurd cc

pub events_have_delays : EventsHaveDelays
events_have_delays query = any_read (λ (stream : Stream). stream.delay ≡ None → stream.schema.event ≡ None) query (λ stream. no_event (kept_columns stream.columns) stream.watermark)
