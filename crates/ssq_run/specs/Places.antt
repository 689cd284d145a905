-- Streams and parts by their places.
use Rattle.std.specs.Prelude.{ℕ, ◌+◌, ◌-◌, nat_lt, List, [], ◌∷◌, Option, Some, None, slice_get, if◌then◌else◌}
use Rattle.ssq_shape.specs.declared.bound.Stream.{Stream}
use Rattle.ssq_value.specs.declared.column.Column.{Column}

abbrev pub name_in : Option Stream → List ℕ
name_in None = []
name_in (Some stream) = stream.name

-- the declared name of the stream at a place in the order of FROM
abbrev pub name_of : List Stream → ℕ → List ℕ
name_of streams at = name_in (slice_get streams at)

abbrev pub columns_in : Option Stream → List Column
columns_in None = []
columns_in (Some stream) = stream.schema.columns

-- its columns
abbrev pub columns_of : List Stream → ℕ → List Column
columns_of streams at = columns_in (slice_get streams at)

abbrev pub column_in : Option Column → List ℕ
column_in None = []
column_in (Some column) = column.name

-- the name of the column at a place
abbrev pub column_of : List Column → ℕ → List ℕ
column_of columns at = column_in (slice_get columns at)

-- a part of a stream, by the stream's place in the order of FROM
pub record StreamPart : Type 0 where
  pub stream : ℕ
  pub part : ℕ

-- which part of which stream the part at this place among all parts is, where the streams have so many each
abbrev pub part_at : List ℕ → ℕ → StreamPart
part_at [] at = record { stream = 0; part = at }
part_at (count ∷ counts) at = if nat_lt at count then record { stream = 0; part = at } else record { stream = (part_at counts (at - count)).stream + 1; part = (part_at counts (at - count)).part }
