-- How the program ends: the refusals in their order, and what is told and left.
use Rattle.std.specs.Prelude.{◌≡◌, ◌≢◌, ◌⊎◌, ◌++◌, ℕ, List, [], take, Option, Some, None, Result}
use Rattle.ssq_outside.specs.Faults.{Rises}
use Rattle.ssq_outside.specs.History.{History, files_now}
use Rattle.ssq_outside.specs.Logs.{Held, Line}
use Rattle.ssq_shape.specs.declared.bound.Bound.{Bound}
use Rattle.ssq_accept.specs.declared.refusal.Refusal.{Refusal}
use Rattle.ssq_bind.specs.Explained.{explained}
use Rattle.ssq_logs.specs.Parts.{counts_in}
use Rattle.ssq_runner.specs.declared.ask.Ask.{Ask}
use Rattle.ssq_runner.specs.declared.fault.RunFault.{RunFault}
use Rattle.ssq_runner.specs.Sources.{RunOver}
use Rattle.ssq_words.specs.Asking.{Asked, asks_run, asks_show, asks_explain, asks_status, asks_gen, asked}
use Rattle.ssq_run.specs.declared.stop.Stop.{Stop}
use Rattle.ssq_run.specs.declared.stop.Stop.TheVariants.{Usage, LogFault, OutFault, NoMemory}
use Rattle.ssq_run.specs.Queries.{IsQueryFor, IsRefusedFor}
use Rattle.ssq_run.specs.Stopping.{stop_of_refusal, stop_of_end, status_in, IsToldAs}
use Rattle.ssq_run.specs.Lines.{stop_line}
use Rattle.ssq_run.specs.Looked.{LookEnd}
use Rattle.ssq_run.specs.Generated.{GenEnd}
use Rattle.ssq_run.specs.Shown.{ShowEnd}

-- What the program was given: its words, what its inputs hold, and how many lines of each part were known to be there.
pub record Given : Type 0 where
  pub words : List (List ℕ)
  pub held : Held
  pub known : List ℕ → ℕ → ℕ

-- what is asked of a run
abbrev pub ask_of : Option ℕ → Option ℕ → ℕ → Ask
ask_of partitions most rounds = record { partitions = partitions; cap = most; rounds = rounds }

-- What the outside was as the program began and is as it ends: the disk at each moment, the logs that came back, and what was written;
-- and what is left to be written.
pub record Went : Type 0 where
  pub start : History
  pub now : History
  pub disk_faults : ℕ
  pub disk_faults_now : ℕ
  pub returned : List (List ℕ)
  pub returned_now : List (List ℕ)
  pub old : List ℕ
  pub written : List ℕ
  pub text : List ℕ

-- nothing was done to the disk, no log came back, and nothing was written
pub record IsUntouched (went : Went) : Type 0 where
  pub still : went.now ≡ went.start
  pub none_back : went.returned_now ≡ went.returned
  pub unwritten : went.written ≡ went.old

-- and nothing is left to be
pub record IsIdle (went : Went) : Type 0 where
  pub untouched : IsUntouched went
  pub untold : went.text ≡ []

-- the inputs failed, or memory ran out
abbrev pub IsOutside : Option Stop → Type 0
IsOutside stop = (stop ≡ Some LogFault) ⊎ (stop ≡ Some NoMemory)

-- What is told of a query, which changes nothing: its table was shown, for which the disk is only read; or it was explained, or its checkpoint was looked at;
-- or generated input was run in memory, and told of; or memory ran out for the line that explains it.
pub data HasTold (bound : Bound) (OutTells : Type 0) (went : Went) (stop : Option Stop) : Asked → Type 0 where
  has_shown : (file : List ℕ) → went.now ≡ went.start → went.returned_now ≡ went.returned → went.text ≡ [] → (shown : List ℕ) → (OutTells → went.written ≡ went.old ++ shown) → ShowEnd bound (files_now went.start) shown stop
      → HasTold bound OutTells went stop (asks_show file)
  has_explained : (file : List ℕ) → IsUntouched went → went.text ≡ explained bound → stop ≡ None → HasTold bound OutTells went stop (asks_explain file)
  ran_out : (file : List ℕ) → IsIdle went → stop ≡ Some NoMemory → HasTold bound OutTells went stop (asks_explain file)
  has_looked : (file : List ℕ) → IsUntouched went → LookEnd bound (files_now went.start) went.text stop → HasTold bound OutTells went stop (asks_status file)
  has_generated : (number lines : ℕ) → IsUntouched went → GenEnd bound number lines went.text stop → HasTold bound OutTells went stop (asks_gen number lines)

module _ {L : Type 0} (told tells : Type 0) (lines : L → List Line) (available : L → ℕ) (answers : L → List ℕ) (faults : L → ℕ) where
  -- How a command goes whose file is a query: the query was run, and why that ended is told by the names of its streams; or something was told of it.
  pub data HasObeyed (held : Held) (known : List ℕ → ℕ → ℕ) (bound : Bound) (OutTells : Type 0) (went : Went) (stop : Option Stop) : Asked → Type 0 where
    has_run : (file : List ℕ) (partitions most : Option ℕ) (rounds : ℕ) (end : Result (Unit {0}) RunFault)
        → RunOver told tells lines available answers faults held known bound (ask_of partitions most rounds) went.start went.now went.disk_faults went.disk_faults_now went.returned went.returned_now OutTells went.old went.written went.text end
        → (told → IsToldAs stop (stop_of_end bound.streams (counts_in held bound.streams) end)) → HasObeyed held known bound OutTells went stop (asks_run file partitions most rounds)
    has_told : (what : Asked) → HasTold bound OutTells went stop what → HasObeyed held known bound OutTells went stop what

  -- How the program ends, in the order of its work: memory ran out for its words; they are no command; the query's file could not be read;
  -- it is refused; or the command was obeyed.
  pub data ProgramEnd (given : Given) (OutTells : Type 0) (went : Went) (stop : Option Stop) : Type 0 where
    unread : stop ≡ Some NoMemory → IsIdle went → ProgramEnd given OutTells went stop
    no_command : asked given.words ≡ None → stop ≡ Some Usage → IsIdle went → ProgramEnd given OutTells went stop
    no_file : (what : Asked) → asked given.words ≡ Some what → IsOutside stop → IsIdle went → ProgramEnd given OutTells went stop
    refused : (what : Asked) → asked given.words ≡ Some what → (why : Refusal) → IsRefusedFor given.held what why → stop ≡ Some (stop_of_refusal why) → IsIdle went → ProgramEnd given OutTells went stop
    obeyed : (what : Asked) (bound : Bound) → asked given.words ≡ Some what → IsQueryFor given.held what bound → HasObeyed given.held given.known bound OutTells went stop what → ProgramEnd given OutTells went stop

-- What the outside was and is, as what a call was given and what it leaves.
abbrev pub went_of : (start now : History) (disk_faults disk_faults_now : ℕ) (returned returned_now : List (List ℕ)) (old written text : List ℕ) → Went
went_of start now disk_faults disk_faults_now returned returned_now old written text = record {
  start = start;
  now = now;
  disk_faults = disk_faults;
  disk_faults_now = disk_faults_now;
  returned = returned;
  returned_now = returned_now;
  old = old;
  written = written;
  text = text;
}

-- what stands after what was told
abbrev pub line_in : Option Stop → List ℕ
line_in None = []
line_in (Some stop) = stop_line stop

-- The status, and what was written at the end. Whole: what was left to tell and the stop's line. The output failed: a front of that;
-- where the job was done this is status 8, and a front of that status's line stands after it. Memory ran out, status 10: for the stop's line,
-- and a front of what was left to tell was written; or for what was to be written, and a front of the line of that status was.
pub data Wrote (stop : Option Stop) (told old new : List ℕ) (before now status : ℕ) : Type 0 where
  whole : status ≡ status_in stop → new ≡ old ++ (told ++ line_in stop) → Wrote stop told old new before now status
  cut : status ≡ status_in stop → stop ≢ None → Rises before now → (n : ℕ) → new ≡ old ++ take n (told ++ line_in stop) → Wrote stop told old new before now status
  cut_done : status ≡ 8 → stop ≡ None → Rises before now → (n m : ℕ) → new ≡ old ++ take n told ++ take m (stop_line OutFault) → Wrote stop told old new before now status
  unsaid : status ≡ 10 → stop ≢ None → (n : ℕ) → new ≡ old ++ take n told → Wrote stop told old new before now status
  starved : status ≡ 10 → (n : ℕ) → new ≡ old ++ take n (stop_line NoMemory) → Wrote stop told old new before now status

-- the status is the stop's; or 8 where the job was done and the output failed; or 10
abbrev pub IsStatus : Option Stop → ℕ → ℕ → ℕ → Type 0
IsStatus stop before now status = (status ≡ status_in stop) ⊎ (((status ≡ 8) × (stop ≡ None) × Rises before now) ⊎ (status ≡ 10))

-- what there is to write: what is left to tell and the stop's line; where memory ran out, that line is absent
abbrev pub HasEnded : Option Stop → List ℕ → ℕ → List ℕ → Type 0
HasEnded stop told status text = ((status ≡ status_in stop) × (text ≡ told ++ line_in stop)) ⊎ ((stop ≢ None) × (status ≡ 10) × (text ≡ told))

module _ {L : Type 0} (told tells : Type 0) (lines : L → List Line) (available : L → ℕ) (answers : L → List ℕ) (faults : L → ℕ) where
  -- How the program ended, and what it wrote: why it stopped, if it did; what was written as rounds ended, and what was left to be written.
  pub record ProgramWrote (given : Given) (start now : History) (disk_faults disk_faults_now : ℕ) (returned returned_now : List (List ℕ)) (OutTells : Type 0) (old new : List ℕ) (before after status : ℕ) : Type 0 where
    pub stop : Option Stop
    pub written : List ℕ
    pub text : List ℕ
    pub end : ProgramEnd told tells lines available answers faults given OutTells (went_of start now disk_faults disk_faults_now returned returned_now old written text) stop
    pub answer : IsStatus stop before after status
    pub wrote : OutTells → Wrote stop text written new before after status
