-- Which queries keep state, and in how many partitions.
use Rattle.std.specs.Prelude.{ℕ}
use Rattle.ssq_shape.specs.declared.bound.Shape.{Shape}
use Rattle.ssq_shape.specs.declared.bound.Shape.TheVariants as shape
use Rattle.ssq_open.specs.declared.stateful.Keeps.{Keeps}
use Rattle.ssq_open.specs.declared.stateful.Keeps.TheVariants.{Nothing, EachPartition}

-- What a query of this shape keeps: one that groups, deduplicates or joins keeps a state in each partition.
abbrev pub keeps_state : Shape → Keeps
keeps_state shape.Plain = Nothing
keeps_state (shape.Group grouping) = EachPartition
keeps_state (shape.Dedup columns) = EachPartition
keeps_state (shape.Join joining) = EachPartition

-- how many of so many partitions keep state
abbrev pub keeping_in : Keeps → ℕ → ℕ
keeping_in Nothing partitions = 0
keeping_in EachPartition partitions = partitions

-- how many of so many partitions keep state, for a query of this shape
abbrev pub keeping_of : Shape → ℕ → ℕ
keeping_of query partitions = keeping_in (keeps_state query) partitions
