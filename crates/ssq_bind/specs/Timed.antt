-- Streams without a watermark.
use Rattle.std.specs.List.{All}
use Rattle.ssq_ast.specs.declared.query.Query.{Query}
use Rattle.ssq_bind.specs.Bound.{bound_of}
use Rattle.ssq_bind.specs.Sound.{HasEventIfDelayed}

-- A stream that is read and has no delay, since it has no watermark, has no event column.
abbrev pub EventsHaveDelays : Type 0
EventsHaveDelays = (query : Query) → All HasEventIfDelayed (bound_of query).streams
