-- What holds where the sink files are gone through, one after the other.
use Rattle.std.specs.Prelude.{◌≡◌, ◌+◌, ℕ, List, length}
use Rattle.std.specs.Str.{IsUtf8}
use Rattle.ssq_outside.specs.declared.name.Name.{Name}
use Rattle.ssq_outside.specs.declared.name.Name.TheVariants as name
use Rattle.ssq_outside.specs.Files.{Files}
use Rattle.ssq_value.specs.declared.column.ColType.{ColType}
use Rattle.ssq_shape.specs.declared.bound.Bound.{Bound}
use Rattle.ssq_shape.specs.Plain.{output_names}
use Rattle.ssq_json.specs.RowText.{heads_of}
use Rattle.ssq_json.specs.Stored.{lines_of}
use Rattle.ssq_meaning.specs.Meaning.{Values}
use Rattle.ssq_sink.specs.Latest.{IsLatest}
use Rattle.ssq_sink.specs.Table.{AreFirst, joined, last_of, output_kinds, reading, table_text}
use Rattle.ssq_sink.specs.declared.kept.Kept.{Kept}
use Rattle.ssq_sink.specs.declared.kept.Kept.TheVariants as kept
use Rattle.ssq_sink.specs.declared.reading.Reading.TheVariants as how

-- the heads and the types of the query's columns
abbrev pub AreColumnsOf : Bound → List (List ℕ) → List ColType → Type 0
AreColumnsOf query heads kinds = (heads ≡ heads_of (output_names query)) × (kinds ≡ output_kinds query)

-- the first n sink files are there and canonical, and the table of their rows is this text
pub record HasText (query : Bound) (files : Files) (n : ℕ) (text : List ℕ) : Type 0 where
  pub epochs : List (List Values)
  pub all : length epochs ≡ n
  pub each : AreFirst query files epochs
  pub is : text ≡ table_text query epochs

-- This is kept of the rows of sink files, epoch by epoch, by how the query's table is read: the text of all rows; the last row of each key; the text of the
-- last file's rows.
abbrev pub IsKept : Bound → List (List Values) → Kept → Type 0
IsKept query epochs (kept.Each text) = (reading query ≡ how.Each) × (text.items ≡ lines_of (output_names query) (joined epochs)) × IsUtf8 text.items
IsKept query epochs (kept.Latest latest) = (reading query ≡ how.Latest) × IsLatest query.outputs (joined epochs) latest.rows.entries
IsKept query epochs (kept.Last text) = (reading query ≡ how.Last) × (text.items ≡ lines_of (output_names query) (last_of epochs)) × IsUtf8 text.items

-- one more than the epoch of a sink file, and 0 of any other file
abbrev pub past : Name → ℕ
past name.Meta = 0
past (name.Plan e) = 0
past (name.Commit e) = 0
past (name.Out e) = e + 1
past (name.Delta p v) = 0
past (name.Snapshot p v) = 0
