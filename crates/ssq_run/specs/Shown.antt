-- How showing the table of a query's checkpoint ends.
use Rattle.std.specs.Prelude.{◌≡◌, ◌≤◌, ◌⊎◌, ◌++◌, ℕ, List, [], Option, Some, None}
use Rattle.std.specs.List.Sorted.{IsPermutation}
use Rattle.ssq_outside.specs.declared.name.Name.{Name}
use Rattle.ssq_outside.specs.Files.{Files, IsEmpty}
use Rattle.ssq_shape.specs.declared.bound.Bound.{Bound}
use Rattle.ssq_shape.specs.Plain.{output_names}
use Rattle.ssq_json.specs.Stored.{AreRows}
use Rattle.ssq_meaning.specs.Meaning.{Values}
use Rattle.ssq_meaning.specs.Table.{table}
use Rattle.ssq_core.specs.Course.{Cuts, Job}
use Rattle.ssq_core.specs.Sound.{StandsOrEmpty}
use Rattle.ssq_sink.specs.Table.{AreCounted, IsBadSink, IsTable, output_kinds, reading}
use Rattle.ssq_course.specs.Setting.{Setting, cuts_of, parts_in}
use Rattle.ssq_tables.specs.Agreeing.{rows_by_epoch, rows_read}
use Rattle.ssq_open.specs.declared.fault.OpenFault.{OpenFault}
use Rattle.ssq_open.specs.Jobs.{IsWantedJob}
use Rattle.ssq_open.specs.Looking.{query_of, HasRecordOf, IsLookedFor, IsRecordDenied}
use Rattle.ssq_open.specs.Opening.{IsOutside}
use Rattle.ssq_open.specs.Sought.{Sought}
use Rattle.ssq_run.specs.declared.stop.Stop.{Stop}
use Rattle.ssq_run.specs.declared.stop.Stop.TheVariants.{Damaged, DiskFault, OutFault, NoMemory}
use Rattle.ssq_run.specs.Stopping.{stop_of_open}

-- The record of the job is refused; where the checkpoint stands for a job of the query that is for the outside alone.
pub record IsDeniedBy (bound : Bound) (files : Files) (why : OpenFault) : Type 0 where
  pub record_denied : IsRecordDenied (query_of bound) files why
  pub outside : (s : Sought) (job : Job) → IsLookedFor (query_of bound) s → IsWantedJob s job → StandsOrEmpty job files → IsOutside why

-- why the record was not had: it is refused, or memory ran out
abbrev pub IsRecordFault : Bound → Files → Stop → Type 0
IsRecordFault bound files stop = ((why : OpenFault) × IsDeniedBy bound files why × (stop ≡ stop_of_open bound.streams why)) ⊎ (stop ≡ NoMemory)

-- of this text that is a front
abbrev pub IsFront : List ℕ → List ℕ → Type 0
IsFront front text = (left : List ℕ) × (text ≡ front ++ left)

-- In the order of the work: no file is there, and nothing is told; or the record of the job is refused, or the first sink file that is bad is named, or the
-- disk failed, and nothing is told; or the table of the query's sink files is told, all of it, or a front of it where the output failed. Where memory runs out
-- nothing is told.
pub data ShowEnd (bound : Bound) (files : Files) (told : List ℕ) (stop : Option Stop) : Type 0 where
  nothing_there : IsEmpty files → told ≡ [] → stop ≡ None → ShowEnd bound files told stop
  denied : (why : OpenFault) → IsDeniedBy bound files why → told ≡ [] → stop ≡ Some (stop_of_open bound.streams why) → ShowEnd bound files told stop
  spoilt : HasRecordOf (query_of bound) files → (at : Name) → IsBadSink bound files at → told ≡ [] → stop ≡ Some (Damaged at) → ShowEnd bound files told stop
  unread : HasRecordOf (query_of bound) files → told ≡ [] → stop ≡ Some DiskFault → ShowEnd bound files told stop
  starved : told ≡ [] → stop ≡ Some NoMemory → ShowEnd bound files told stop
  written : HasRecordOf (query_of bound) files → IsTable bound files told → stop ≡ None → ShowEnd bound files told stop
  broke_off : HasRecordOf (query_of bound) files → (text : List ℕ) → IsTable bound files text → IsFront told text → stop ≡ Some OutFault → ShowEnd bound files told stop

-- What was written after what stood there before is the table of the query's meaning, for these cuts: the canonical text of rows, and of no others, that are
-- the table after as many epochs as have a sink file, each as often, and come in the order in which sink files have them and are read. These epochs are the
-- committed ones, and may have the planned one with them.
pub record HasWrittenTable (s : Setting) (cuts : Cuts) (planned committed : ℕ) (files : Files) (before after : List ℕ) : Type 0 where
  pub epochs : ℕ
  pub counted : AreCounted files epochs
  pub least : committed ≤ epochs
  pub most : epochs ≤ planned
  pub rows : List Values
  pub same : IsPermutation rows (table s.job.bound (parts_in s) (cuts_of cuts) epochs)
  pub order : rows ≡ rows_read (reading s.job.bound) s.job.bound (rows_by_epoch s cuts epochs)
  pub text : List ℕ
  pub are : AreRows (output_names s.job.bound) (output_kinds s.job.bound) text rows
  pub only : (others : List Values) → AreRows (output_names s.job.bound) (output_kinds s.job.bound) text others → rows ≡ others
  pub is : after ≡ before ++ text
