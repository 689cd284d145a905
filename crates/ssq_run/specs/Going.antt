-- What is presupposed of the program's promises.
use Rattle.std.specs.Prelude.{◌≡◌, ◌⊎◌, ℕ, List, Option, Some}
use Rattle.ssq_outside.specs.Faults.{Rises}
use Rattle.ssq_outside.specs.History.{History, files_now}
use Rattle.ssq_shape.specs.declared.bound.Bound.{Bound}
use Rattle.ssq_core.specs.Sound.{StandsOrEmpty}
use Rattle.ssq_course.specs.Setting.{Setting, job_of}
use Rattle.ssq_open.specs.declared.wanted.Lens.{Lens}
use Rattle.ssq_terms.specs.Setting.{IsSettingOf, AreFound, found_lines}
use Rattle.ssq_runner.specs.Sources.{IsSettingFor}
use Rattle.ssq_runner.specs.Complete as run
use Rattle.ssq_words.specs.Asking.{Asked, asks_run, asks_show, asks_status, asked}
use Rattle.ssq_run.specs.Program.{Given}
use Rattle.ssq_run.specs.Queries.{IsQueryAt}

-- the words ask for the run of a file that is this query
pub record AsksRun (given : Given) : Type 0 where
  pub file : List ℕ
  pub partitions : Option ℕ
  pub most : Option ℕ
  pub rounds : ℕ
  pub bound : Bound
  pub asks : asked given.words ≡ Some (asks_run file partitions most rounds)
  pub is : IsQueryAt given.held file bound

-- This is the query that is to be run, over all lines that its logs will come to hold.
pub record IsAskedFor (given : Given) (start : History) (s : Setting) : Type 0 where
  pub asks : AsksRun given
  pub setting : IsSettingFor given.held asks.bound asks.partitions start s

-- The checkpoint is empty, or stands for the query that is to be run, of no part more lines are planned than were known to be there, and no stream
-- has more than 64 parts.
pub record CanGoOn (given : Given) (start : History) : Type 0 where
  pub asks : AsksRun given
  pub setting : Setting
  pub can : run.CanGoOn given.held given.known asks.bound asks.partitions start setting

-- And no limit is in the way.
pub record HasRoom (given : Given) (start : History) : Type 0 where
  pub asks : AsksRun given
  pub setting : Setting
  pub room : run.HasRoom given.held given.known asks.bound asks.partitions start setting

-- And no line from the first one on that is not committed is a fault, and no key.
pub record IsFaultless (given : Given) (start : History) : Type 0 where
  pub asks : AsksRun given
  pub setting : Setting
  pub faultless : run.IsFaultless given.held given.known asks.bound asks.partitions start setting

-- The words ask this of the checkpoint of a query, and it is empty, or stands for a job of that query, of whatever partitions, parts and
-- lines.
pub record LooksAt (given : Given) (start : History) (what : List ℕ → Asked) : Type 0 where
  pub file : List ℕ
  pub bound : Bound
  pub partitions : Option ℕ
  pub lens : Lens
  pub setting : Setting
  pub asks : asked given.words ≡ Some (what file)
  pub is : IsQueryAt given.held file bound
  pub of : IsSettingOf setting bound partitions lens
  pub found : AreFound (found_lines lens) setting.lines
  pub stands : StandsOrEmpty (job_of setting) (files_now start)

-- they ask how far it has come
abbrev pub CanLook : Given → History → Type 0
CanLook given start = LooksAt given start asks_status

-- they ask for its table
abbrev pub CanShow : Given → History → Type 0
CanShow given start = LooksAt given start asks_show

-- no fault of the inputs, the disk or the output was counted
pub record NoneFailed (inputs inputs_now disk disk_now out out_now : ℕ) : Type 0 where
  pub inputs_whole : Rises inputs inputs_now → ⊥
  pub disk_whole : Rises disk disk_now → ⊥
  pub out_whole : Rises out out_now → ⊥

-- it was done to its end, or memory ran out
abbrev pub IsDone : ℕ → Type 0
IsDone status = (status ≡ 0) ⊎ (status ≡ 10)

-- or a line or a key was a fault
abbrev pub IsDoneToAFault : ℕ → Type 0
IsDoneToAFault status = IsDone status ⊎ ((status ≡ 4) ⊎ (status ≡ 5))
