-- The step of a query's operator.
use Rattle.std.specs.Prelude.{ℤ, List, Option}
use Rattle.ssq_shape.specs.declared.bound.Bound.{Bound}
use Rattle.ssq_shape.specs.declared.bound.Shape.{Shape}
use Rattle.ssq_shape.specs.declared.bound.Shape.TheVariants.{Plain, Group, Dedup, Join}
use Rattle.ssq_meaning.specs.FedRows.{FedRow}
use Rattle.ssq_version.specs.State.{State}
use Rattle.ssq_step.specs.Indexing.{Timed}
use Rattle.ssq_agg.specs.Steps as groups
use Rattle.ssq_dedup.specs.Steps as repeats
use Rattle.ssq_join.specs.Steps as pairs

-- What the step of a shape needs of the state, of the index of its keys by time, and of the rows: that of groups, of rows without repeats, or of
-- a join. A query that keeps nothing has no step.
abbrev pub CanStepBy : Shape → Bound → State → List Timed → (old new : List FedRow) → (before now : Option ℤ) → Type 0
CanStepBy Plain query state closing old new before now = ⊥
CanStepBy (Group grouping) query state closing old new before now = groups.Given query grouping state closing old new before now
CanStepBy (Dedup columns) query state closing old new before now = repeats.Given query columns state closing old new before now
CanStepBy (Join joining) query state closing old new before now = pairs.Given query joining state closing old new before now

abbrev pub CanStep : Bound → State → List Timed → (old new : List FedRow) → (before now : Option ℤ) → Type 0
CanStep query state closing old new before now = CanStepBy query.shape query state closing old new before now
