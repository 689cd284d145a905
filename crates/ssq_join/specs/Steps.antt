-- The step of an epoch.
use Rattle.std.specs.Prelude.{◌≡◌, ◌++◌, ℤ, List, All, length, Option}
use Rattle.ssq_version.specs.State.{State}
use Rattle.ssq_shape.specs.declared.bound.Bound.{Bound}
use Rattle.ssq_shape.specs.declared.bound.Joining.{Joining}
use Rattle.ssq_shape.specs.declared.bound.Shape.{Shape}
use Rattle.ssq_shape.specs.declared.bound.Shape.TheVariants as shape
use Rattle.ssq_meaning.specs.FedRows.{FedRow}
use Rattle.ssq_meaning.specs.Fit.{IsFitRow}
use Rattle.ssq_meaning.specs.Join.{is_left}
use Rattle.ssq_meaning.specs.JoinLaws.{AreApart, Follows, IsBounded, IsJoinRow}
use Rattle.ssq_meaning.specs.Operator.{join}
use Rattle.ssq_step.specs.Indexing.{IsIndex, Timed}
use Rattle.ssq_step.specs.Rows.{stream_of, width_of}

-- what is given of a row: a state can hold it, its key and its time are those of its values, and it has a value for each column of its stream
pub record IsKept (query : Bound) (joining : Joining) (row : FedRow) : Type 0 where
  pub fit : IsFitRow row
  pub own : IsJoinRow joining row
  pub stream : row.stream ≡ stream_of (is_left row.stream)
  pub many : length row.values ≡ width_of query (is_left row.stream)

-- What a step is given: the query joins so, within a bound around the left row's time if there is one; the state is what it keeps over the rows
-- that were accepted before, with the index of these by time; the epoch's rows are not late at a watermark that has not fallen; and rows, old
-- and new, can be kept, no two under the same bytes.
pub record Given (query : Bound) (joining : Joining) (state : State) (closing : List Timed) (old new : List FedRow) (before now : Option ℤ) : Type 0 where
  pub joins : query.shape ≡ shape.Join joining
  pub bounded : IsBounded joining
  pub kept : state ≡ (join query joining).state old before
  pub indexed : IsIndex query state closing
  pub follows : Follows new before now
  pub rows : All (IsKept query joining) (old ++ new)
  pub apart : AreApart (old ++ new)

-- the query does not join
abbrev pub KeepsStreams : Shape → Type 0
KeepsStreams shape.Plain = Unit {0}
KeepsStreams (shape.Group grouping) = Unit {0}
KeepsStreams (shape.Dedup columns) = Unit {0}
KeepsStreams (shape.Join joining) = ⊥
