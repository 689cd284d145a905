-- What holds of the bound query of a query that breaks no rule of binding.
use Rattle.std.specs.Prelude.{◌≡◌, ◌<◌, ◌≤◌, ◌^◌, length, None}
use Rattle.std.specs.List.{All}
use Rattle.std.specs.Str.{IsUtf8}
use Rattle.ssq_shape.specs.declared.bound.Bound.{Bound}
use Rattle.ssq_shape.specs.declared.bound.Stream.{Stream}

-- a stream without a watermark has no event column
abbrev pub HasEventIfDelayed : Stream → Type 0
HasEventIfDelayed stream = stream.delay ≡ None → stream.schema.event ≡ None

-- a stream has at most 64 columns
abbrev pub HasFewColumns : Stream → Type 0
HasFewColumns stream = length stream.schema.columns ≤ 64

-- One stream is read or two; the canonical text is UTF-8 of a length of 64 bits; and a stream has at most 64 columns, and an event column only
-- with a delay.
pub record IsSoundBound (bound : Bound) : Type 0 where
  pub some_stream : 1 ≤ length bound.streams
  pub few_streams : length bound.streams ≤ 2
  pub utf8 : IsUtf8 bound.text
  pub few_bytes : length bound.text < 2 ^ 64
  pub columns : All HasFewColumns bound.streams
  pub events : All HasEventIfDelayed bound.streams
