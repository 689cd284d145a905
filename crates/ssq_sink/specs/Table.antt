-- The table: what a reader makes of the sink files, by the query's mode.
use Rattle.std.specs.Prelude.{◌≡◌, ◌<◌, ◌≤◌, ◌+◌, ℕ, List, [], ◌∷◌, map, filter, length, slice_get, if◌then◌else◌, Some, IsSome}
use Rattle.std.specs.List.{flat_map, list_any}
use Rattle.ssq_outside.specs.declared.name.Name.{Name}
use Rattle.ssq_outside.specs.declared.name.Name.TheVariants as name
use Rattle.ssq_outside.specs.Files.{Files}
use Rattle.ssq_value.specs.declared.column.ColType.{ColType}
use Rattle.ssq_shape.specs.declared.bound.Bound.{Bound}
use Rattle.ssq_shape.specs.declared.bound.Mode.{Mode}
use Rattle.ssq_shape.specs.declared.bound.Mode.TheVariants as mode
use Rattle.ssq_shape.specs.declared.bound.Output.{Output}
use Rattle.ssq_shape.specs.declared.bound.Shape.{Shape}
use Rattle.ssq_shape.specs.declared.bound.Shape.TheVariants as shape
use Rattle.ssq_shape.specs.Plain.{output_names}
use Rattle.ssq_json.specs.Stored.{AreRows, lines_of}
use Rattle.ssq_meaning.specs.Group.{is_same}
use Rattle.ssq_meaning.specs.Meaning.{Values}
use Rattle.ssq_meaning.specs.Table.{is_same_group, key_cells}
use Rattle.ssq_sink.specs.Sink.{sink_text}
use Rattle.ssq_sink.specs.declared.reading.Reading.{Reading}
use Rattle.ssq_sink.specs.declared.reading.Reading.TheVariants.{Each, Latest, Last}

-- ---- what a reader makes of rows

-- How the table is read: in Complete it is the last epoch's rows; of groups in Update the last row of each key; else all rows, one after the
-- other.
abbrev pub reading_of : Shape → Mode → Reading
reading_of (shape.Group grouping) mode.Append = Each
reading_of (shape.Group grouping) mode.Update = Latest
reading_of (shape.Group grouping) mode.Complete = Last
reading_of shape.Plain own = Each
reading_of (shape.Dedup columns) own = Each
reading_of (shape.Join joining) own = Each

abbrev pub reading : Bound → Reading
reading query = reading_of query.shape query.mode

-- of the rows, one after the other, the last of each key
abbrev pub last_rows : List Output → List Values → List Values
last_rows outputs [] = []
last_rows outputs (row ∷ rows) = if list_any (is_same_group outputs row) rows then last_rows outputs rows else row ∷ last_rows outputs rows

-- each key has one of the rows at most
abbrev pub HasOnce : List Output → List Values → Type 0
HasOnce outputs rows = (key : Values) → length (filter (λ row. is_same key (key_cells outputs row)) rows) ≤ 1

-- the last of the lists; of none it is empty
abbrev pub last_of : {A : Type 0} → List (List A) → List A
last_of [] = []
last_of (own ∷ []) = own
last_of (own ∷ next ∷ lists) = last_of (next ∷ lists)

abbrev pub joined : {A : Type 0} → List (List A) → List A
joined lists = flat_map (λ own. own) lists

-- the types of the columns of SELECT
abbrev pub output_kinds : Bound → List ColType
output_kinds query = map (λ output. output.kind) query.outputs

-- The text of the table whose epochs have these rows: its rows, one line each. The last rows of keys come in the order of a sink file, all others as they
-- stand.
abbrev pub text_read : Reading → Bound → List (List Values) → List ℕ
text_read Each query epochs = lines_of (output_names query) (joined epochs)
text_read Latest query epochs = sink_text query (last_rows query.outputs (joined epochs))
text_read Last query epochs = lines_of (output_names query) (last_of epochs)

abbrev pub table_text : Bound → List (List Values) → List ℕ
table_text query epochs = text_read (reading query) query epochs

-- ---- the sink files

-- the sink file of an epoch is there, and is these rows, canonical; they need not be sorted
pub record IsSinkOf (query : Bound) (files : Files) (e : ℕ) (rows : List Values) : Type 0 where
  pub bytes : List ℕ
  pub there : files (name.Out e) ≡ Some bytes
  pub are : AreRows (output_names query) (output_kinds query) bytes rows

-- it is there, and is canonical rows
pub record IsSink (query : Bound) (files : Files) (e : ℕ) : Type 0 where
  pub rows : List Values
  pub is : IsSinkOf query files e rows

-- So many sink files there have to be: all up to the last that is there.
pub record AreCounted (files : Files) (m : ℕ) : Type 0 where
  pub all : (e : ℕ) → IsSome (files (name.Out e)) → e < m
  pub last : (e : ℕ) → m ≡ e + 1 → IsSome (files (name.Out e))

-- these are the rows of the first sink files, epoch by epoch
abbrev pub AreFirst : Bound → Files → List (List Values) → Type 0
AreFirst query files epochs = (e : ℕ) (rows : List Values) → slice_get epochs e ≡ Some rows → IsSinkOf query files e rows

-- the sink files are these rows, epoch by epoch, and no other is there
pub record AreSinks (query : Bound) (files : Files) (epochs : List (List Values)) : Type 0 where
  pub counted : AreCounted files (length epochs)
  pub each : AreFirst query files epochs

-- Of the first m sink files this is the first that is missing or malformed.
pub record IsFirstBad (query : Bound) (files : Files) (m : ℕ) (at : Name) : Type 0 where
  pub e : ℕ
  pub is : at ≡ name.Out e
  pub below : e < m
  pub before : (f : ℕ) → f < e → IsSink query files f
  pub bad : IsSink query files e → ⊥

-- The first sink file that is missing below another, or malformed.
pub record IsBadSink (query : Bound) (files : Files) (at : Name) : Type 0 where
  pub m : ℕ
  pub counted : AreCounted files m
  pub first : IsFirstBad query files m at

-- the sink files that are there, read so, are this text
pub record HasRead (own : Reading) (query : Bound) (files : Files) (text : List ℕ) : Type 0 where
  pub epochs : List (List Values)
  pub sinks : AreSinks query files epochs
  pub is : text ≡ text_read own query epochs

-- the checkpoint's table is this text
abbrev pub IsTable : Bound → Files → List ℕ → Type 0
IsTable query files text = HasRead (reading query) query files text
