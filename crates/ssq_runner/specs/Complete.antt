-- When a run goes on: what a checkpoint, the logs and the query have to be that it is not refused, meets no limit and finds no fault.
use Rattle.std.specs.Prelude.{◌≡◌, ◌<◌, ◌≤◌, ◌+◌, ◌-◌, ℕ, zero, suc, List, [], length, map, get_or, sum, slice_get, All, Option, Some, None, Result, Err, if◌then◌else◌}
use Rattle.ssq_outside.specs.Files.{Files, IsEmpty}
use Rattle.ssq_outside.specs.History.{History, files_now}
use Rattle.ssq_outside.specs.Logs.{Held, Line}
use Rattle.ssq_shape.specs.declared.bound.Bound.{Bound}
use Rattle.ssq_shape.specs.declared.bound.Stream.{Stream}
use Rattle.ssq_meaning.specs.Parts.{Part}
use Rattle.ssq_meaning.specs.Cut.{AreCuts}
use Rattle.ssq_meaning.specs.Cut.{Cuts as Offsets}
use Rattle.ssq_meaning.specs.Feeding.{fault_at}
use Rattle.ssq_meaning.specs.Epochs.{key_fault}
use Rattle.ssq_core.specs.Course.{Cuts, Job}
use Rattle.ssq_core.specs.Standing.{Stands}
use Rattle.ssq_course.specs.Setting.{Setting, parts_in, job_of, closes, cut_of as offsets_of}
use Rattle.ssq_board.specs.declared.front.Cause.TheVariants as cause
use Rattle.ssq_open.specs.Opening.{IsOutside}
use Rattle.ssq_logs.specs.declared.fault.PartsFault.TheVariants as parts_fault
use Rattle.ssq_logs.specs.declared.fault.LengthFault.TheVariants as length_fault
use Rattle.ssq_logs.specs.Asked.{most_lines}
use Rattle.ssq_logs.specs.Parts.{counts_in, IsFew}
use Rattle.ssq_logs.specs.Opened.{Part as LogPart, parts_of}
use Rattle.ssq_runner.specs.declared.ask.Ask.{Ask}
use Rattle.ssq_runner.specs.declared.fault.RunFault.{RunFault}
use Rattle.ssq_runner.specs.declared.fault.RunFault.TheVariants as fault
use Rattle.ssq_runner.specs.Sources.{IsSettingFor, RunOver}

-- the most epochs of a checkpoint
abbrev pub most_epochs : ℕ
most_epochs = 4294967295

-- how many lines of each part of each stream were known to be there, in order
abbrev pub known_in : Held → (List ℕ → ℕ → ℕ) → List Stream → List ℕ
known_in held known streams = map (λ (part : LogPart). known part.source part.number) (parts_of streams (counts_in held streams))

-- how many lines of each part the first epochs of these cuts cover, part by part; where there is no epoch the list is empty, and so none of any
-- part is covered
abbrev pub covered_by : Cuts → ℕ → List ℕ
covered_by cuts zero = []
covered_by cuts (suc e) = offsets_of (cuts (suc e))

-- A checkpoint can be resumed: it is empty; or it stands for the job, and of no part fewer lines were known to be there than are planned.
pub data CanBeResumed (job : Job) (known : List ℕ) (files : Files) : Type 0 where
  is_empty : IsEmpty files → CanBeResumed job known files
  stands : (is : Stands job files) → ((i : ℕ) → get_or (covered_by is.cuts is.planned) i 0 ≤ get_or known i 0) → CanBeResumed job known files

module _ {job : Job} {known : List ℕ} {files : Files} where
  -- how many epochs it has planned
  abbrev pub planned_in : CanBeResumed job known files → ℕ
  planned_in (is_empty none) = 0
  planned_in (stands is long) = is.planned

  -- how many lines of each part these cover
  abbrev pub covered_in : CanBeResumed job known files → List ℕ
  covered_in (is_empty none) = []
  covered_in (stands is long) = covered_by is.cuts is.planned

  -- and how many the committed ones do
  abbrev pub committed_in : CanBeResumed job known files → List ℕ
  committed_in (is_empty none) = []
  committed_in (stands is long) = covered_by is.cuts is.committed

  -- how many it has committed
  abbrev pub commits_in : CanBeResumed job known files → ℕ
  commits_in (is_empty none) = 0
  commits_in (stands is long) = is.committed

  -- cuts that go on from it: its planned epochs end where they do there
  abbrev pub GoOnFrom : CanBeResumed job known files → Offsets → Type 0
  GoOnFrom (is_empty none) cuts = Unit {0}
  GoOnFrom (stands is long) cuts = (e : ℕ) → 0 < e → e ≤ is.planned → cuts e ≡ offsets_of (is.cuts e)

-- A run can go on: the setting is that of the query over what the inputs hold; no stream has more than 64 parts; and the checkpoint can be
-- resumed, so that no log has lost a line that is planned.
pub record CanGoOn (held : Held) (known : List ℕ → ℕ → ℕ) (bound : Bound) (asks : Option ℕ) (start : History) (s : Setting) : Type 0 where
  pub setting : IsSettingFor held bound asks start s
  pub few_parts : All IsFew (counts_in held bound.streams)
  pub resumed : CanBeResumed (job_of s) (known_in held known bound.streams) (files_now start)

-- How many epochs so many lines come to, at most. Each has a line of its own; but where the query closes, one without lines may come first, and one
-- after each that has lines.
abbrev pub epochs_for : Bound → ℕ → ℕ
epochs_for bound lines = if closes bound then lines + lines + 1 else lines

-- And no limit is in the way: no part will come to hold more lines than are taken of one; and with the epochs that the lines come to that are not
-- planned yet there are fewer than the most.
pub record HasRoom (held : Held) (known : List ℕ → ℕ → ℕ) (bound : Bound) (asks : Option ℕ) (start : History) (s : Setting) : Type 0 where
  pub can : CanGoOn held known bound asks start s
  pub few_lines : All (λ (own : List Line). length own ≤ most_lines) s.lines
  pub few_epochs : planned_in can.resumed + epochs_for s.job.bound (sum (map (λ (own : List Line). length own) s.lines) - sum (covered_in can.resumed)) < most_epochs

-- And no line that is not committed is a fault of its part; and however the lines that no plan covers are cut into epochs, none that is not committed
-- overflows on a key.
pub record IsFaultless (held : Held) (known : List ℕ → ℕ → ℕ) (bound : Bound) (asks : Option ℕ) (start : History) (s : Setting) : Type 0 where
  pub room : HasRoom held known bound asks start s
  pub good : (i : ℕ) (part : Part) → slice_get (parts_in s) i ≡ Some part → (at : ℕ) (line : Line) → get_or (committed_in room.can.resumed) i 0 ≤ at → slice_get part.lines at ≡ Some line
      → fault_at s.job.bound part at line ≡ None
  pub keys : (cuts : Offsets) (n e : ℕ) → AreCuts (parts_in s) cuts n → GoOnFrom room.can.resumed cuts → commits_in room.can.resumed ≤ e → e < n → key_fault s.job.bound (parts_in s) cuts e ≡ None

-- The end is not a refusal: the checkpoint is refused for the outside alone, no log is short, and no file is damaged.
abbrev pub IsNoRefusal : Result (Unit {0}) RunFault → Type 0
IsNoRefusal (Err (fault.Open why)) = IsOutside why
IsNoRefusal (Err (fault.Round (cause.LogShort stream part logged lines))) = ⊥
IsNoRefusal (Err (fault.Round (cause.Damaged name))) = ⊥
IsNoRefusal _ = Unit {0}

-- It is not that of a limit: of parts, which a run that can go on has few enough of, of lines or of epochs.
abbrev pub IsNoLimit : Result (Unit {0}) RunFault → Type 0
IsNoLimit (Err (fault.Parts (parts_fault.Full stream))) = ⊥
IsNoLimit (Err (fault.Lines (length_fault.Full part lines))) = ⊥
IsNoLimit (Err (fault.Round cause.Full)) = ⊥
IsNoLimit _ = Unit {0}

-- It is not a fault of a line, nor of a key.
abbrev pub IsNoFault : Result (Unit {0}) RunFault → Type 0
IsNoFault (Err (fault.Round (cause.BadLine stream part offset what))) = ⊥
IsNoFault (Err (fault.Round (cause.Overflow stream part offset))) = ⊥
IsNoFault (Err (fault.Round cause.KeyOverflow)) = ⊥
IsNoFault (Err (fault.KeyOverflow key)) = ⊥
IsNoFault _ = Unit {0}

module _ {L : Type 0} (told tells : Type 0) (lines : L → List Line) (available : L → ℕ) (answers : L → List ℕ) (faults : L → ℕ) (OutTells : Type 0) where
  -- Where inputs, logs and the disk tell what they hold, an end of each run over them for which the premise holds of some setting is such an end.
  abbrev pub Runs : (Held → (List ℕ → ℕ → ℕ) → Bound → Option ℕ → History → Setting → Type 0) → (Result (Unit {0}) RunFault → Type 0) → Type 0
  Runs Premise Is = told → tells → (held : Held) (known : List ℕ → ℕ → ℕ) (bound : Bound) (ask : Ask) (start now : History) (disk_faults disk_faults_now : ℕ) (returned returned_now : List (List ℕ)) (old written text : List ℕ)
      (end : Result (Unit {0}) RunFault) (s : Setting) → Premise held known bound ask.partitions start s
      → RunOver told tells lines available answers faults held known bound ask start now disk_faults disk_faults_now returned returned_now OutTells old written text end → Is end

  -- what can go on is never refused
  abbrev pub RunsGoOn : Type 0
  RunsGoOn = Runs CanGoOn IsNoRefusal

  -- what has room meets no limit
  abbrev pub RunsMeetNoLimit : Type 0
  RunsMeetNoLimit = Runs HasRoom IsNoLimit

  -- and what is faultless finds no fault
  abbrev pub RunsMeetNoFault : Type 0
  RunsMeetNoFault = Runs IsFaultless IsNoFault
