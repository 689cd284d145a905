-- The step of an epoch.
use Rattle.std.specs.Prelude.{◌≡◌, ◌++◌, ℕ, ℤ, List, All, length, Option}
use Rattle.ssq_version.specs.State.{State}
use Rattle.ssq_shape.specs.declared.bound.Bound.{Bound}
use Rattle.ssq_shape.specs.declared.bound.Shape.{Shape}
use Rattle.ssq_shape.specs.declared.bound.Shape.TheVariants as shape
use Rattle.ssq_meaning.specs.FedRows.{FedRow}
use Rattle.ssq_meaning.specs.DedupLaws.{Follows}
use Rattle.ssq_meaning.specs.Fit.{IsFitRow}
use Rattle.ssq_meaning.specs.Operator.{dedup}
use Rattle.ssq_step.specs.Indexing.{IsIndex, Timed}

-- what is given of a row: a state can hold it, and its key has a value for each of the columns
pub record IsKept (columns : List ℕ) (row : FedRow) : Type 0 where
  pub fit : IsFitRow row
  pub many : length row.key ≡ length columns

-- What a step is given: the query deduplicates so; the state is what it keeps over the rows that were accepted before, with the index of its
-- keys by time; the epoch's rows are not late at a watermark that has not fallen; and rows, old and new, can be kept.
pub record Given (query : Bound) (columns : List ℕ) (state : State) (closing : List Timed) (old new : List FedRow) (before now : Option ℤ) : Type 0 where
  pub repeats : query.shape ≡ shape.Dedup columns
  pub kept : state ≡ (dedup query columns).state old before
  pub indexed : IsIndex query state closing
  pub follows : Follows query columns new before now
  pub rows : All (IsKept columns) (old ++ new)

-- the query does not deduplicate
abbrev pub KeepsRepeats : Shape → Type 0
KeepsRepeats shape.Plain = Unit {0}
KeepsRepeats (shape.Group grouping) = Unit {0}
KeepsRepeats (shape.Dedup columns) = ⊥
KeepsRepeats (shape.Join joining) = Unit {0}
