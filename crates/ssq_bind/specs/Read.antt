-- How many streams a query reads.
use Rattle.std.specs.Prelude.{◌≡◌, ℕ, length}
use Rattle.ssq_shape.specs.declared.bound.Bound.{Bound}
use Rattle.ssq_shape.specs.declared.bound.Shape.{Shape}
use Rattle.ssq_shape.specs.declared.bound.Shape.TheVariants as shape
use Rattle.ssq_ast.specs.declared.query.Query.{Query}
use Rattle.ssq_check.specs.Fault.{AreNone}
use Rattle.ssq_check.specs.Whole.{QueryFaults}
use Rattle.ssq_bind.specs.Bound.{bound_of}

-- a join reads two streams, and any other query one
abbrev pub streams_read : Shape → ℕ
streams_read shape.Plain = 1
streams_read (shape.Group grouping) = 1
streams_read (shape.Dedup columns) = 1
streams_read (shape.Join joining) = 2

abbrev pub ReadsItsStreams : Bound → Type 0
ReadsItsStreams bound = length bound.streams ≡ streams_read bound.shape

-- A query that breaks no rule of binding reads so many streams.
abbrev pub QueriesReadTheirStreams : Type 0
QueriesReadTheirStreams = (query : Query) → AreNone (QueryFaults query) → ReadsItsStreams (bound_of query)
