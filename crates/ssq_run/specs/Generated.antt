-- How a run over generated input ends, in memory.
use Rattle.std.specs.Prelude.{◌≡◌, ◌⊎◌, ◌<◌, ◌+◌, ℕ, true, false, List, [], length, map, slice_get, Option, Some, None}
use Rattle.ssq_outside.specs.Logs.{Held}
use Rattle.ssq_shape.specs.declared.bound.Bound.{Bound}
use Rattle.ssq_shape.specs.Plain.{output_names}
use Rattle.ssq_json.specs.Stored.{AreRows}
use Rattle.ssq_meaning.specs.Meaning.{Values}
use Rattle.ssq_meaning.specs.Epochs.{EpochFault, fault}
use Rattle.ssq_core.specs.Course.{Cuts}
use Rattle.ssq_course.specs.Setting.{Setting, parts_in, cuts_of, rows_at}
use Rattle.ssq_board.specs.Core.{next_ends, is_behind}
use Rattle.ssq_open.specs.Looking.{begins}
use Rattle.ssq_sink.specs.Table.{output_kinds, table_text}
use Rattle.ssq_terms.specs.Laws.{due_at}
use Rattle.ssq_logs.specs.Parts.{counts_in, lines_in}
use Rattle.ssq_gen.specs.Counts.{counts_line}
use Rattle.ssq_gen.specs.Made.{made_held}
use Rattle.ssq_run.specs.declared.stop.Stop.{Stop}
use Rattle.ssq_run.specs.declared.stop.Stop.TheVariants.{NoMemory, LogFault, DiskFault, OutFault}
use Rattle.ssq_run.specs.Stopping.{stop_of_fault}

-- the partitions of such a run, and the most lines of a part in an epoch
abbrev pub made_partitions : ℕ
made_partitions = 4

abbrev pub made_cap : ℕ
made_cap = 1000

-- the query over what inputs hold, with so many partitions
abbrev pub setting_over : Held → Bound → Setting
setting_over held bound = record {
  job = record { bound = bound; partitions = made_partitions; parts = counts_in held bound.streams };
  lines = lines_in held bound.streams;
}

-- the query over the lines that are made
abbrev pub made_setting : Bound → (number n : ℕ) → Setting
made_setting bound number n = setting_over (made_held number n) bound

-- how many lines each part has
abbrev pub lengths : Setting → List ℕ
lengths s = map length s.lines

-- The epochs of one round that finds all lines: each end is the next one by the cap, as long as lines are not covered, and after them one without
-- lines comes where it is due. So there is one list of their cuts.
pub record AreEpochs (s : Setting) (cuts : Cuts) (n : ℕ) : Type 0 where
  pub starts : cuts 0 ≡ begins s.job.parts
  pub next : (e : ℕ) → e < n → cuts (e + 1) ≡ next_ends (Some made_cap) (cuts e) (lengths s)
  pub come : (e : ℕ) → e < n → (is_behind (cuts e) (lengths s) ≡ true) ⊎ (due_at s cuts e ≡ true)

-- all of them: all lines are covered, and no epoch without lines is due
pub record AreAllEpochs (s : Setting) (cuts : Cuts) (n : ℕ) : Type 0 where
  pub epochs : AreEpochs s cuts n
  pub covered : is_behind (cuts n) (lengths s) ≡ false
  pub quiet : due_at s cuts n ≡ false

-- What is told of a table: how many epochs it is made of, and counts of its rows.
pub record AreTold (bound : Bound) (lines : ℕ) (epochs : List (List Values)) (text : List ℕ) : Type 0 where
  pub rows : List Values
  pub are : AreRows (output_names bound) (output_kinds bound) (table_text bound epochs) rows
  pub is : text ≡ counts_line lines (length epochs) rows

-- The counts of the table whose epochs have the rows that the query means over so many made lines from this number on, all of them.
pub record AreCounts (bound : Bound) (number lines : ℕ) (text : List ℕ) : Type 0 where
  pub cuts : Cuts
  pub epochs : List (List Values)
  pub all : AreAllEpochs (made_setting bound number lines) cuts (length epochs)
  pub rows : (e : ℕ) (own : List Values) → slice_get epochs e ≡ Some own → AreRows (output_names bound) (output_kinds bound) (rows_at (made_setting bound number lines) cuts e) own
  pub told : AreTold bound lines epochs text

-- The first epoch that has a fault by the meaning of the query, and its fault.
pub record IsFirstFault (s : Setting) (why : EpochFault) : Type 0 where
  pub cuts : Cuts
  pub n : ℕ
  pub e : ℕ
  pub epochs : AreEpochs s cuts n
  pub below : e < n
  pub is : fault s.job.bound (parts_in s) (cuts_of cuts) e ≡ Some why
  pub clean : (f : ℕ) → f < e → fault s.job.bound (parts_in s) (cuts_of cuts) f ≡ None

-- what fails in memory fails because memory ran out
abbrev pub in_memory : Stop → Stop
in_memory LogFault = NoMemory
in_memory DiskFault = NoMemory
in_memory OutFault = NoMemory
in_memory stop = stop

-- Its counts are told; or it stopped at the first fault of the meaning, or memory ran out, and nothing is told.
pub data GenEnd (bound : Bound) (number lines : ℕ) (text : List ℕ) (stop : Option Stop) : Type 0 where
  counted : AreCounts bound number lines text → stop ≡ None → GenEnd bound number lines text stop
  at_fault : (why : EpochFault) → IsFirstFault (made_setting bound number lines) why → text ≡ [] → stop ≡ Some (stop_of_fault bound.streams why) → GenEnd bound number lines text stop
  out_of_memory : text ≡ [] → stop ≡ Some NoMemory → GenEnd bound number lines text stop
