-- A query that is accepted can be run.
use Rattle.std.proofs.Common.{◌≡◌, subst, ℕ, ◌≤ℤ◌, ℤ, pos, List, Option, Some, None, IfSome, arith}
use Rattle.std.proofs.lemmas.List.Elements.{All-weaker}
use Rattle.ssq_time.specs.Time.{IsSpan}
use Rattle.ssq_ast.specs.declared.query.Query.{Query}
use Rattle.ssq_shape.specs.declared.bound.Bound.{Bound}
use Rattle.ssq_shape.specs.declared.bound.Joining.{Joining}
use Rattle.ssq_shape.specs.declared.bound.Shape.{Shape}
use Rattle.ssq_shape.specs.declared.bound.Shape.TheVariants as shape
use Rattle.ssq_shape.specs.declared.bound.Stream.{Stream}
use Rattle.ssq_shape.specs.declared.bound.TimeBound.{TimeBound}
use Rattle.ssq_bind.specs.Delays.{HasSpan}
use Rattle.ssq_bind.specs.Limits.{IsLimitedBy}
use Rattle.ssq_bind.specs.TimeBounds.{LiesAround, HasTimeBoundBy}
use Rattle.ssq_meaning.specs.JoinLaws.{IsAround, IsBounded}
use Rattle.ssq_water.specs.Water.{IsDelay}
use Rattle.ssq_accept.specs.Accepting.{IsAccepted}
use Rattle.ssq_terms.specs.Setting.{Runs, CanRun}
use Rattle.ssq_run.specs.Queries.{IsSomeQuery}

bounded : (bound : Option TimeBound) → IfSome bound LiesAround → IfSome bound IsAround
bounded None lies = tt
bounded (Some bound) lies = record { lo = lies.lo; hi = lies.hi }

run_shape : (own : Shape) → IsLimitedBy own → HasTimeBoundBy own → Runs own
run_shape shape.Plain limits lies = tt
run_shape (shape.Group grouping) limits lies = record { keys = limits.keys; aggregates = limits.aggregates }
run_shape (shape.Dedup columns) limits lies = limits
run_shape (shape.Join joining) limits lies = (limits, bounded joining.bound lies)

-- a span is a delay
at_least_none : (span : ℤ) → pos 1_000_000 ≤ℤ span → pos 0 ≤ℤ span
at_least_none span least = grind arith

span_delay : (span : ℤ) → IsSpan span → IsDelay span
span_delay span is = (at_least_none span is.0, is.1)

stream_delay : (delay : Option ℤ) → IfSome delay IsSpan → IfSome delay IsDelay
stream_delay None is = tt
stream_delay (Some span) is = span_delay span is

pub can_run : (file : List ℕ) (query : Query) (bound : Bound) → IsAccepted file query bound → CanRun bound
can_run file query bound is = record {
  shape = run_shape bound.shape is.names.limits is.time_bound;
  few_streams = is.names.sound.few_streams;
  utf8 = is.names.sound.utf8;
  few = is.names.sound.few_bytes;
  delays = All-weaker HasSpan (λ (stream : Stream). IfSome stream.delay IsDelay) (λ stream has. stream_delay stream.delay has) bound.streams is.delays;
  windows = is.windows;
  columns = is.names.sound.columns;
  events = is.names.sound.events;
}

-- the bound of a query that a file can be, if it joins by one, lies around the left row's time
pub query_is_bounded : (bound : Bound) (joining : Joining) → IsSomeQuery bound → bound.shape ≡ shape.Join joining → IsBounded joining
query_is_bounded bound joining some is = bounded joining.bound (subst HasTimeBoundBy is some.1.accepted.time_bound)
