-- Greatest times as a list, and how far the delays of a query reach.
use Rattle.std.specs.Prelude.{◌==◌, ◌≤ℤ◌, ℕ, ℤ, pos, List, Option, Some, None, All, IfSome, slice_index_or, if◌then◌else◌}
use Rattle.std.specs.Int.{int_min}
use Rattle.ssq_time.specs.Time.{IsLineTime}
use Rattle.ssq_shape.specs.declared.bound.Bound.{Bound}
use Rattle.ssq_meaning.specs.Times.{later}

-- the greatest event time of a stream, by its place in the order of FROM; none beyond the last stream
abbrev pub seen_at : List (Option ℤ) → ℕ → Option ℤ
seen_at seen stream = slice_index_or seen stream None

-- the times are ones of lines: of the years 1000 to 9000
abbrev pub AreLineTimes : List (Option ℤ) → Type 0
AreLineTimes seen = All (λ time. IfSome time IsLineTime) seen

-- the greatest time of a stream, once a time of one of the streams is seen
abbrev pub seen_with : List (Option ℤ) → ℕ → ℤ → ℕ → Option ℤ
seen_with seen stream time other = if other == stream then later (seen_at seen other) (Some time) else seen_at seen other

-- the lesser of the least mark so far, where there is one, and another
abbrev pub lesser : Option ℤ → ℤ → ℤ
lesser None mark = mark
lesser (Some least) mark = int_min least mark

-- a delay is at most 366 days, in microseconds
abbrev pub IsDelay : ℤ → Type 0
IsDelay delay = (pos 0 ≤ℤ delay) × (delay ≤ℤ pos 31_622_400_000_000)

-- the delays of a query's streams are ones that the language has
abbrev pub HasDelays : Bound → Type 0
HasDelays query = All (λ stream. IfSome stream.delay IsDelay) query.streams
