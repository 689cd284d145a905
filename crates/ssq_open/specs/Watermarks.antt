-- The watermarked streams, and the watermark that their greatest times give.
use Rattle.std.specs.Prelude.{ℕ, ℤ, Bool, ◌+◌, ◌==◌, ◌&&◌, List, [], ◌∷◌, length, map, Option, Some, None}
use Rattle.std.specs.List.{list_all, zip}
use Rattle.ssq_shape.specs.declared.bound.Stream.{Stream}
use Rattle.ssq_meaning.specs.Times.{least, less_delay}
use Rattle.ssq_plans.specs.declared.seen.SeenBy.{SeenBy}
use Rattle.ssq_open.specs.declared.streams.Watermarked.{Watermarked}

-- a stream is watermarked where it has a delay
abbrev pub watermarked_by : ℕ → Option ℤ → List Watermarked → List Watermarked
watermarked_by at None rest = rest
watermarked_by at (Some late) rest = record { stream = at; delay = late } ∷ rest

-- the watermarked ones of the streams from this one on
abbrev pub watermarked_from : ℕ → List Stream → List Watermarked
watermarked_from at [] = []
watermarked_from at (s ∷ rest) = watermarked_by at s.delay (watermarked_from (at + 1) rest)

-- the watermarked streams, in the order of the query
abbrev pub watermarked : List Stream → List Watermarked
watermarked streams = watermarked_from 0 streams

-- the line is of that stream
abbrev pub is_line_of : Watermarked × SeenBy → Bool
is_line_of line = line.0.stream == line.1.stream

-- one line for each watermarked stream, in order
abbrev pub has_lines : List Watermarked → List SeenBy → Bool
has_lines streams seen = length streams == length seen && list_all is_line_of (zip streams seen)

-- what a stream says of the watermark: its greatest time less its delay, and none where it has no time
abbrev pub mark_of : Watermarked × SeenBy → Option ℤ
mark_of line = less_delay line.1.time line.0.delay

-- The watermark: the least of each watermarked stream's greatest time less its delay. There is none where one of these streams has
-- no time, or no stream is watermarked.
abbrev pub mark_by : List Watermarked → List SeenBy → Option ℤ
mark_by streams seen = least (map mark_of (zip streams seen))
