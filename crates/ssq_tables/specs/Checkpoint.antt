-- The sink files of a checkpoint that stands.
use Rattle.std.specs.Prelude.{◌≡◌, ◌<◌, ◌≤◌, ℕ, List, length}
use Rattle.ssq_outside.specs.Files.{Files}
use Rattle.ssq_shape.specs.declared.bound.Bound.{Bound}
use Rattle.ssq_meaning.specs.Epochs.{out}
use Rattle.ssq_meaning.specs.Meaning.{Values}
use Rattle.ssq_sink.specs.Sink.{is_row_below}
use Rattle.ssq_sink.specs.Sorted.{sorted}
use Rattle.ssq_sink.specs.Table.{AreCounted, IsSinkOf}
use Rattle.ssq_core.specs.Course.{Cuts}
use Rattle.ssq_core.specs.Standing.{StandsAt}
use Rattle.ssq_course.specs.Setting.{Setting, course_of, cuts_of, parts_in}
use Rattle.ssq_tables.specs.Shown.{CanShow}

-- the rows of an epoch in the order of its sink file
abbrev pub rows_in_order : Setting → Cuts → ℕ → List Values
rows_in_order s cuts e = sorted (is_row_below s.job.bound.order) (out s.job.bound (parts_in s) (cuts_of cuts) e)

-- The sink files that there have to be are those of the committed epochs, and may be that of the planned one; each is the rows of its epoch, in their
-- order.
pub record HoldsTable (s : Setting) (cuts : Cuts) (planned committed : ℕ) (files : Files) (m : ℕ) : Type 0 where
  pub least : committed ≤ m
  pub most : m ≤ planned
  pub each : (e : ℕ) → e < m → IsSinkOf s.job.bound files e (rows_in_order s cuts e)

-- So it is where the files stand for the job of a query that was bound.
abbrev pub CheckpointsHoldTables : Type 0
CheckpointsHoldTables = (s : Setting) (cuts : Cuts) (planned committed : ℕ) (files : Files) (m : ℕ) → CanShow s.job.bound → length s.job.parts ≡ length s.job.bound.streams
    → StandsAt (course_of s cuts) planned committed files → AreCounted files m → HoldsTable s cuts planned committed files m
