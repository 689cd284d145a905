-- What is read of the sink files of a checkpoint that stands is the table of the query's meaning.
use Rattle.std.specs.Prelude.{◌≡◌, ℕ, List, length, map}
use Rattle.std.specs.List.{range_with_len}
use Rattle.std.specs.List.Sorted.{IsPermutation}
use Rattle.ssq_outside.specs.Files.{Files}
use Rattle.ssq_shape.specs.declared.bound.Bound.{Bound}
use Rattle.ssq_shape.specs.declared.bound.Grouping.{Grouping}
use Rattle.ssq_shape.specs.declared.bound.Mode.TheVariants as mode
use Rattle.ssq_shape.specs.declared.bound.Shape.TheVariants as shape
use Rattle.ssq_shape.specs.Plain.{output_names}
use Rattle.ssq_json.specs.Stored.{AreRows}
use Rattle.ssq_meaning.specs.Meaning.{Values}
use Rattle.ssq_meaning.specs.Table.{ShowsKeys, table}
use Rattle.ssq_sink.specs.declared.reading.Reading.{Reading}
use Rattle.ssq_sink.specs.declared.reading.Reading.TheVariants.{Each, Latest, Last}
use Rattle.ssq_sink.specs.Sink.{is_row_below}
use Rattle.ssq_sink.specs.Sorted.{sorted}
use Rattle.ssq_sink.specs.Table.{AreSinks, IsSinkOf, joined, last_of, last_rows, output_kinds, reading, table_text}
use Rattle.ssq_core.specs.Course.{Cuts}
use Rattle.ssq_core.specs.Standing.{StandsAt}
use Rattle.ssq_course.specs.Setting.{Setting, course_of, cuts_of, parts_in}
use Rattle.ssq_tables.specs.Checkpoint.{rows_in_order}
use Rattle.ssq_tables.specs.Shown.{CanShow}

-- The rows that are read of those of the epochs, in the order in which they are written.
abbrev pub rows_read : Reading → Bound → List (List Values) → List Values
rows_read Each query epochs = joined epochs
rows_read Latest query epochs = sorted (is_row_below query.order) (last_rows query.outputs (joined epochs))
rows_read Last query epochs = last_of epochs

-- No other rows of the query's columns have the same canonical text.
abbrev pub TextsAreOfOneRows : Type 0
TextsAreOfOneRows = (query : Bound) (bytes : List ℕ) (rows others : List Values) → AreRows (output_names query) (output_kinds query) bytes rows → AreRows (output_names query) (output_kinds query) bytes others → rows ≡ others

-- So a sink file is of one list of rows.
abbrev pub SinksAreOfOneRows : Type 0
SinksAreOfOneRows = (query : Bound) (files : Files) (e : ℕ) (rows others : List Values) → IsSinkOf query files e rows → IsSinkOf query files e others → rows ≡ others

-- A query that groups its rows in Update shows the key of each row, so that a later row can take the place of an earlier one.
abbrev pub ShowsItsKeys : Bound → Type 0
ShowsItsKeys query = (grouping : Grouping) → query.shape ≡ shape.Group grouping → query.mode ≡ mode.Update → ShowsKeys query grouping

-- the rows of each of the first epochs, in the order of its sink file
abbrev pub rows_by_epoch : Setting → Cuts → ℕ → List (List Values)
rows_by_epoch s cuts n = map (rows_in_order s cuts) (range_with_len 0 n)

-- Rows of epochs make the table of the query's meaning: they are what the first epochs show, each in the order of its sink file; and what is read of them is the
-- table after these epochs, each row as often, and has the text that is written of it.
pub record AreOfTable (s : Setting) (cuts : Cuts) (epochs : List (List Values)) : Type 0 where
  pub own : epochs ≡ rows_by_epoch s cuts (length epochs)
  pub same : IsPermutation (rows_read (reading s.job.bound) s.job.bound epochs) (table s.job.bound (parts_in s) (cuts_of cuts) (length epochs))
  pub are : AreRows (output_names s.job.bound) (output_kinds s.job.bound) (table_text s.job.bound epochs) (rows_read (reading s.job.bound) s.job.bound epochs)

-- So it is of whatever rows the sink files are, where the files stand for the job of a query that was bound.
abbrev pub TablesAgree : Type 0
TablesAgree = (s : Setting) (cuts : Cuts) (planned committed : ℕ) (files : Files) (epochs : List (List Values)) → CanShow s.job.bound → ShowsItsKeys s.job.bound
    → length s.job.parts ≡ length s.job.bound.streams → StandsAt (course_of s cuts) planned committed files → AreSinks s.job.bound files epochs → AreOfTable s cuts epochs
