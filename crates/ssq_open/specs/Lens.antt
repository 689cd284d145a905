-- The parts of a query's streams, and the lines that were found in them.
use Rattle.std.specs.Prelude.{◌≡◌, ◌≤◌, ◌^◌, ◌+◌, ◌++◌, ◌∷◌, [], ℕ, List, length, map, All, Option}
use Rattle.std.specs.Option.{ForSome}
use Rattle.ssq_shape.specs.declared.bound.Bound.{Bound}
use Rattle.ssq_plans.specs.declared.part.PartEnd.{PartEnd}
use Rattle.ssq_open.specs.declared.wanted.Lens.{Lens}
use Rattle.ssq_open.specs.Stateful.{keeps_state}
use Rattle.ssq_open.specs.Watermarks.{watermarked}
use Rattle.ssq_open.specs.Sought.{Sought}

-- how many parts each stream has
abbrev pub counts_of : List (List ℕ) → List ℕ
counts_of streams = map length streams

-- the parts of a stream from this one on, each with the lines that were found in it
abbrev pub found_in : ℕ → ℕ → List ℕ → List PartEnd
found_in stream at [] = []
found_in stream at (lines ∷ rest) = record { stream = stream; part = at; end = lines } ∷ found_in stream (at + 1) rest

-- the parts of all streams from this one on
abbrev pub found_from : ℕ → List (List ℕ) → List PartEnd
found_from stream [] = []
found_from stream (parts ∷ rest) = found_in stream 0 parts ++ found_from (stream + 1) rest

-- a stream has at most 64 parts
abbrev pub IsFew : List ℕ → Type 0
IsFew parts = length parts ≤ 64

-- What an opening may be asked for: 1 to 64 partitions, where that is asked; the lines found in each part of each stream of the
-- query, which has at most 64 parts.
pub record CanBeAsked (bound : Bound) (partitions : Option ℕ) (lens : Lens) : Type 0 where
  pub partitions_in : ForSome partitions (λ count. (1 ≤ count) × (count ≤ 64))
  pub few_parts : All IsFew lens.streams
  pub each_stream : length lens.streams ≡ length bound.streams
  pub few_streams : length bound.streams ≤ 2 ^ 32

-- the job that is wanted: of this query, with the parts that were found
abbrev pub asked : Bound → Option ℕ → Lens → Sought
asked bound partitions lens = record {
  query = bound.text;
  streams = watermarked bound.streams;
  keeps = keeps_state bound.shape;
  partitions = partitions;
  parts = counts_of lens.streams;
  found = found_from 0 lens.streams;
}
