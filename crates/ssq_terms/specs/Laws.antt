-- What holds of the job of each query.
use Rattle.std.specs.Prelude.{◌≡◌, ◌<◌, ◌≤◌, ◌+◌, ◌^◌, ℕ, List, All, Bool, true, false, length, ◌&&◌, get_or, slice_get, Option, Some, None, IfSome, is_some, unwrap_or}
use Rattle.std.specs.Option.{ForSome}
use Rattle.ssq_outside.specs.Files.{Files}
use Rattle.ssq_time.specs.Time.{IsLineTime, IsStampTime}
use Rattle.ssq_shape.specs.declared.bound.Bound.{Bound}
use Rattle.ssq_meaning.specs.Parts.{Part}
use Rattle.ssq_meaning.specs.Cut.{Cuts as Offsets}
use Rattle.ssq_meaning.specs.Feeding.{fault_in}
use Rattle.ssq_meaning.specs.Times.{is_above}
use Rattle.ssq_meaning.specs.Epochs.{seen, watermark_before}
use Rattle.ssq_water.specs.Water.{HasDelays}
use Rattle.ssq_plans.specs.declared.part.PartEnd.{PartEnd}
use Rattle.ssq_plans.specs.Records.{plan_text, IsPlan, IsCommit}
use Rattle.ssq_core.specs.Course.{Cuts, Job, plan_of, commit_of, AreSameUpTo}
use Rattle.ssq_core.specs.Machine.{reduce, out_task}
use Rattle.ssq_core.specs.Standing.{StandsAt}
use Rattle.ssq_core.specs.Sound.{AreProper}
use Rattle.ssq_course.specs.Setting.{Setting, parts_in, cut_of, cuts_of, first_ends, watermark_at, state_at, closes, partition_fault, course_of, job_of}
use Rattle.ssq_course.specs.Laws.{IsFit}
use Rattle.ssq_open.specs.declared.wanted.Lens.{Lens}
use Rattle.ssq_open.specs.Lens.{asked, found_from}
use Rattle.ssq_open.specs.Sought.{Sought}
use Rattle.ssq_open.specs.Looking.{begins}
use Rattle.ssq_open.specs.Epochs.{starts}
use Rattle.ssq_open.specs.Opening.{first_meta}
use Rattle.ssq_open.specs.Jobs.{IsWantedJob, AreStates}
use Rattle.ssq_board.specs.Core.{Scope}
use Rattle.ssq_board.specs.Rounds.{HasCap}
use Rattle.ssq_board.specs.Follows.{Terms, map_task}
use Rattle.ssq_terms.specs.Setting.{found_lines, AreFound, HasEventIfDelayed, IsSettingOf}

-- the greatest event time of a stream over the first epochs is that of a line
abbrev pub TimesAreOfLines : Type 0
TimesAreOfLines = (query : Bound) (parts : List Part) (cuts : Offsets) (stream e : ℕ) → ForSome (seen query parts cuts stream e) IsLineTime

-- a stream without a delay has no greatest event time, where it has no event column
abbrev pub UnmarkedHaveNoTimes : Type 0
UnmarkedHaveNoTimes = (query : Bound) (parts : List Part) (cuts : Offsets) (stream e : ℕ) → All HasEventIfDelayed query.streams → IfSome (slice_get query.streams stream) (λ s. s.delay ≡ None)
    → seen query parts cuts stream e ≡ None

-- the commit of an epoch can be written, where its number and those of the streams have 32 bits
abbrev pub CommitsCanBeWritten : Type 0
CommitsCanBeWritten = (s : Setting) (cuts : Cuts) (e : ℕ) → length s.job.bound.streams ≤ 2 ^ 32 → e < 2 ^ 32 → IsCommit (commit_of (course_of s cuts) e)

-- the watermark of an epoch is of the years 0001 to 9999, where no delay is above 366 days
abbrev pub WatermarksCanBePrinted : Type 0
WatermarksCanBePrinted = (s : Setting) (cuts : Cuts) (e : ℕ) → HasDelays s.job.bound → ForSome (watermark_at s cuts e) IsStampTime

-- the plan of an epoch that may follow those before it can be written, where also its number has 32 bits, and those of the parts can be
-- written
abbrev pub PlansCanBeWritten : Type 0
PlansCanBeWritten = (s : Setting) (cuts : Cuts) (e : ℕ) → HasDelays s.job.bound → All IsFit (parts_in s) → (job_of s).is_next cuts e ≡ true → e < 2 ^ 32 → IsPlan (plan_of (course_of s cuts) e)

-- where the logs come to hold what was found, the job of the setting is the one that is wanted
abbrev pub JobIsWanted : Type 0
JobIsWanted = (s : Setting) (bound : Bound) (partitions : Option ℕ) (lens : Lens) → IsSettingOf s bound partitions lens → AreFound (found_lines lens) s.lines → IsWantedJob (asked bound partitions lens) (job_of s)

-- and what the query keeps of each partition, epoch by epoch, are the states that the job's files hold
abbrev pub StatesAreJobs : Type 0
StatesAreJobs = (s : Setting) (bound : Bound) (partitions : Option ℕ) (lens : Lens) → IsSettingOf s bound partitions lens → AreFound (found_lines lens) s.lines → AreStates (job_of s) (state_at s)

-- with the partitions that were asked for, or else one, its record is that of a new checkpoint
abbrev pub FirstRecordIsJobs : Type 0
FirstRecordIsJobs = (s : Setting) (bound : Bound) (partitions : Option ℕ) (lens : Lens) → IsSettingOf s bound partitions lens → s.job.partitions ≡ unwrap_or partitions 1
    → (cuts : Cuts) → ((job_of s).course cuts).meta ≡ first_meta (asked bound partitions lens)

-- there is a part for each log, and they begin where those that were found do, and as the job's record says
abbrev pub PartsAreFound : Type 0
PartsAreFound = (s : Setting) (bound : Bound) (partitions : Option ℕ) (lens : Lens) → IsSettingOf s bound partitions lens
    → (length (parts_in s) ≡ length s.lines) × (first_ends s ≡ starts (found_from 0 lens.streams)) × (cut_of (found_from 0 lens.streams) ≡ found_lines lens)
    × (first_ends s ≡ begins s.job.parts)

-- the numbers of the parts can be written, where the logs come to hold what was found
abbrev pub PartsCanBeWritten : Type 0
PartsCanBeWritten = (s : Setting) (bound : Bound) (partitions : Option ℕ) (lens : Lens) → IsSettingOf s bound partitions lens → AreFound (found_lines lens) s.lines → All IsFit (parts_in s)

-- Whether after the first so many epochs one without lines is due: the query closes, and the watermark is above that of the last of them.
abbrev pub due_at : Setting → Cuts → ℕ → Bool
due_at s cuts n = closes s.job.bound && is_above (watermark_at s cuts n) (watermark_before s.job.bound (parts_in s) (cuts_of cuts) n)

-- So none is due before the first epoch; and after an epoch one is where the query closes and the watermark has risen by that epoch's end.
pub record AreDue (s : Setting) (cuts : Cuts) : Type 0 where
  pub first : due_at s cuts 0 ≡ false
  pub next : (e : ℕ) → due_at s cuts (e + 1) ≡ (closes s.job.bound && is_above (watermark_at s cuts (e + 1)) (watermark_at s cuts e))

abbrev pub DuesAreOfMarks : Type 0
DuesAreOfMarks = (s : Setting) (cuts : Cuts) → AreDue s cuts

-- The round of a desk is of this setting: it has its partitions, and before it the lines that were found; and an epoch may take lines.
pub record IsScopeOf (r : Scope) (s : Setting) (lens : Lens) : Type 0 where
  pub partitions : r.partitions ≡ s.job.partitions
  pub available : r.available ≡ found_lines lens
  pub cap : HasCap r.cap

-- what the numbers of a desk rest on, with its parts beginning where those that were found do
abbrev pub HasTerms : Setting → Scope → Lens → Type 0
HasTerms s r lens = (terms : Terms (job_of s) r (due_at s)) × (terms.start ≡ starts (found_from 0 lens.streams))

abbrev pub TasksHaveTerms : Type 0
TasksHaveTerms = (s : Setting) (bound : Bound) (partitions : Option ℕ) (lens : Lens) (r : Scope) → IsSettingOf s bound partitions lens → AreFound (found_lines lens) s.lines → IsScopeOf r s lens → HasTerms s r lens

-- an end in a cut is of the part at its place, and not above its lines
pub record IsEndAt (parts : List Part) (i : ℕ) (end : PartEnd) : Type 0 where
  pub part : Part
  pub there : slice_get parts i ≡ Some part
  pub stream : part.stream ≡ end.stream
  pub number : part.part ≡ end.part
  pub most : end.end ≤ length part.lines

-- each end of proper cuts is
abbrev pub EndsAreOfParts : Type 0
EndsAreOfParts = (s : Setting) (bound : Bound) (partitions : Option ℕ) (lens : Lens) (cuts : Cuts) (e i : ℕ) (end : PartEnd) → IsSettingOf s bound partitions lens → AreFound (found_lines lens) s.lines
    → cuts 0 ≡ starts (found_from 0 lens.streams) → AreProper (job_of s) cuts e → slice_get (cuts e) i ≡ Some end → IsEndAt (parts_in s) i end

-- Which tasks have a fault: a map task where its part has one between the cuts, a reduce task where a key of its partition overflows, and no
-- other.
pub record HasTaskFaults (s : Setting) (cuts : Cuts) (e : ℕ) : Type 0 where
  pub maps : (i : ℕ) (part : Part) → slice_get (parts_in s) i ≡ Some part
      → (course_of s cuts).is_fault (map_task e i) ≡ is_some (fault_in s.job.bound part (get_or (cut_of (cuts e)) i 0) (get_or (cut_of (cuts (e + 1))) i 0))
  pub reduces : (p : ℕ) → (course_of s cuts).is_fault (reduce e p) ≡ partition_fault s cuts e p
  pub outs : (course_of s cuts).is_fault (out_task e) ≡ false

abbrev pub FaultsAreOfTasks : Type 0
FaultsAreOfTasks = (s : Setting) (cuts : Cuts) (e : ℕ) → HasTaskFaults s cuts e

-- Two proper cuts of a job, whose first n plans spell the same, are the same up to there. Where there is no plan, nothing says where they
-- begin.
abbrev pub PlansSayTheirCuts : Type 0
PlansSayTheirCuts = (sought : Sought) (job : Job) (one other : Cuts) (n : ℕ) → IsWantedJob sought job → AreProper job one n → AreProper job other n → n ≤ 4294967295
    → ((e : ℕ) → e < n → plan_text (plan_of (job.course one) e) ≡ plan_text (plan_of (job.course other) e)) → (n ≡ 0 → one 0 ≡ other 0) → AreSameUpTo one other n

-- And where the same files stand for both, as many epochs are planned and committed, and the cuts are the same up to there.
abbrev pub FilesSayTheirCuts : Type 0
FilesSayTheirCuts = (sought : Sought) (job : Job) (one other : Cuts) (n k m l : ℕ) (files : Files) → IsWantedJob sought job → AreProper job one n → AreProper job other m
    → StandsAt (job.course one) n k files → StandsAt (job.course other) m l files → (n ≡ 0 → one 0 ≡ other 0) → (n ≡ m) × (k ≡ l) × AreSameUpTo one other n
