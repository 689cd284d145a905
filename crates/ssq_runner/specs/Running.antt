-- How a run goes, from its logs on.
use Rattle.std.specs.Prelude.{◌≡◌, ◌≤◌, ◌+◌, ℕ, List, [], length, map, unwrap_or, All, Option, None, Result, Err}
use Rattle.std.specs.Option.{ForSome}
use Rattle.ssq_outside.specs.Files.{IsEmpty}
use Rattle.ssq_outside.specs.History.{History, files_now, LeavesNow, LeavesOnly}
use Rattle.ssq_outside.specs.Logs.{Line}
use Rattle.ssq_shape.specs.declared.bound.Bound.{Bound}
use Rattle.ssq_plans.specs.declared.plan.Plan.{Plan}
use Rattle.ssq_core.specs.Course.{Cuts, Job}
use Rattle.ssq_core.specs.Standing.{Stands}
use Rattle.ssq_core.specs.Sound.{StandsOrEmpty}
use Rattle.ssq_open.specs.Jobs.{IsWantedJob, IsJobs, IsDeskOf, States, AreStates, HoldStates}
use Rattle.ssq_course.specs.Setting.{Setting, job_of}
use Rattle.ssq_open.specs.declared.fault.OpenFault.{OpenFault}
use Rattle.ssq_open.specs.Fault.{DiskRises}
use Rattle.ssq_open.specs.declared.wanted.Lens.{Lens}
use Rattle.ssq_open.specs.declared.wanted.Opened.{Opened}
use Rattle.ssq_open.specs.Epochs.{starts, last_ends}
use Rattle.ssq_open.specs.Lens.{asked, counts_of, found_from}
use Rattle.ssq_open.specs.Numbers.{HasNumbers}
use Rattle.ssq_open.specs.Stateful.{keeping_of}
use Rattle.ssq_open.specs.Stores.{AreStores}
use Rattle.ssq_open.specs.Watermarks.{watermarked}
use Rattle.ssq_open.specs.Sought.{Sought}
use Rattle.ssq_open.specs.Opening.{IsOpen, IsRefused, IsOutside, SyncedSince, IsBegun, IsOpening, first_short, first_meta}
use Rattle.ssq_promise.specs.Run.{WasRun, AreFilesOf, IsKept}
use Rattle.ssq_terms.specs.Laws.{due_at}
use Rattle.ssq_logs.specs.declared.fault.LengthFault.{LengthFault}
use Rattle.ssq_logs.specs.Asked.{AreAsked, IsStopped}
use Rattle.ssq_logs.specs.Parts.{IsFew}
use Rattle.ssq_board.specs.Rounds.{HasCap}
use Rattle.ssq_desk.specs.declared.told.Told.{Told}
use Rattle.ssq_drive.specs.Rounds.{IsMeant}
use Rattle.ssq_runner.specs.declared.fault.RunFault.{RunFault}
use Rattle.ssq_runner.specs.declared.fault.RunFault.TheVariants as fault
use Rattle.ssq_runner.specs.declared.ask.Ask.{Ask}
use Rattle.ssq_runner.specs.Lens.{lens_of}
use Rattle.ssq_runner.specs.Ending.{Begun, Ends, IsUncounted, IsOwnRun, WasTried, setting_in, cuts_in}

-- What a run is given: the query, how many partitions are asked for, if that is asked, the cap of its epochs, how many rounds, how many parts
-- each stream has, the disk and how often it has failed, the logs of the parts as they were opened, and what was written so far.
pub record Given (L : Type 0) : Type 0 where
  pub bound : Bound
  pub asks : Option ℕ
  pub cap : Option ℕ
  pub rounds : ℕ
  pub counts : List ℕ
  pub start : History
  pub disk_faults : ℕ
  pub logs : List L
  pub written : List ℕ

-- What was opened, over so many lines: it is in order, of the parts that were found and 1 to 64 partitions, those that are asked for where that is
-- asked; of no part more lines are planned than were found; of each partition that keeps state its store is there; and where the disk tells what it holds, each check of its files is met, or it was
-- begun. Its names were synced: until then each image is one that a crash might have left before, and from then on each has the files as they
-- were, or, where no file was there, the job's record alone.
pub record IsOpenedOn {D : Type 0} (tells : Type 0) (history : D → History) (bound : Bound) (asks : Option ℕ) (lens : Lens) (before now : D) (opened : Opened) : Type 0 where
  pub numbers : HasNumbers (watermarked bound.streams) (starts (found_from 0 lens.streams)) opened
  pub parts : opened.meta.parts ≡ counts_of lens.streams
  pub some_partitions : 1 ≤ opened.meta.partitions
  pub few_partitions : opened.meta.partitions ≤ 64
  pub as_asked : ForSome asks (λ count. opened.meta.partitions ≡ count)
  pub long : first_short (last_ends (starts (found_from 0 lens.streams)) opened.plans) (found_from 0 lens.streams) ≡ None
  pub stores : AreStores (keeping_of bound.shape opened.meta.partitions) opened.committed opened.stores
  pub is_open : tells → IsOpen (asked bound asks lens) (files_now (history before)) (history now) opened
  pub synced : tells → SyncedSince (history before) (history now) (IsBegun (asked bound asks lens) (files_now (history before)))
  -- where the checkpoint stands for a job that is wanted, or is empty and gets its record, a desk opens on it
  pub desk : tells → (job : Job) → IsWantedJob (asked bound asks lens) job → (IsEmpty (files_now (history before)) → (cuts : Cuts) → (job.course cuts).meta ≡ first_meta (asked bound asks lens)) → StandsOrEmpty job (files_now (history before))
      → IsDeskOf (asked bound asks lens) job (files_now (history now)) opened
  -- and the stores hold its states
  pub states : tells → (job : Job) (states : States) → IsWantedJob (asked bound asks lens) job → AreStates job states → StandsOrEmpty job (files_now (history before)) → HoldStates (asked bound asks lens) states opened

-- Nothing was opened: the checkpoint is refused, or memory ran out before it was asked. A refusal leaves no image that is new before the names
-- are synced, and from then on the files as they were, or, where no file was there, the job's record alone. Nothing but the outside refuses a
-- checkpoint that is the job's, of which no part is short.
pub data IsUnopened {D : Type 0} (tells : Type 0) (history : D → History) (faults : D → ℕ) (bound : Bound) (asks : Option ℕ) (lens : Lens) (before now : D) (why : RunFault) : Type 0 where
  denied : (cause : OpenFault) → why ≡ fault.Open cause → (tells → IsRefused (asked bound asks lens) (files_now (history before)) (files_now (history now)) cause)
      → (tells → IsOpening (asked bound asks lens) (history before) (history now))
      → (tells → (job : Job) (states : States) → IsWantedJob (asked bound asks lens) job → AreStates job states → IsJobs (asked bound asks lens) job (files_now (history before)) → IsOutside cause) → DiskRises cause (faults before) (faults now)
      → IsUnopened tells history faults bound asks lens before now why
  untried : why ≡ fault.NoMemory → now ≡ before → IsUnopened tells history faults bound asks lens before now why

-- An opening leaves what stands: where each image stands for a job that is wanted, or stands empty, so does each image of each of its moments.
abbrev pub LeavesStanding : {D : Type 0} → Type 0 → (D → History) → Bound → Option ℕ → Lens → (before now : D) → Type 0
LeavesStanding tells history bound asks lens before now = tells → (job : Job) → IsWantedJob (asked bound asks lens) job → (IsEmpty (files_now (history before)) → (cuts : Cuts) → (job.course cuts).meta ≡ first_meta (asked bound asks lens))
    → LeavesNow (history before) (StandsOrEmpty job) → LeavesOnly (history before) (history now) (StandsOrEmpty job)

-- And where each image stands for a job, so does each of its moments: none is empty.
abbrev pub KeepsStanding : {D : Type 0} → Type 0 → (D → History) → (before after : D) → Type 0
KeepsStanding tells history before after = tells → (job : Job) → LeavesNow (history before) (Stands job) → LeavesOnly (history before) (history after) (Stands job)

module _ {L : Type 0} where
  -- it is given this query, these parts, of which no stream has more than 64, and what is asked
  pub record IsOf (bound : Bound) (ask : Ask) (counts : List ℕ) (g : Given L) : Type 0 where
    pub bound_is : g.bound ≡ bound
    pub asks_are : g.asks ≡ ask.partitions
    pub cap_is : g.cap ≡ ask.cap
    pub rounds_are : g.rounds ≡ ask.rounds
    pub counts_are : g.counts ≡ counts
    pub few : All IsFew g.counts

  -- the job that is wanted, with so many lines found of each part
  abbrev pub sought_in : Given L → List ℕ → Sought
  sought_in g found = asked g.bound g.asks (lens_of g.counts found)

  -- nothing is written, nor left to be written
  pub record IsUnsaid (g : Given L) (OutTells : Type 0) (written text : List ℕ) : Type 0 where
    pub unwritten : OutTells → written ≡ g.written
    pub untold : text ≡ []

module _ {L : Type 0} (lines : L → List Line) where
  -- The setting is that of the run: the query over all lines that its logs will come to hold, with 1 to 64 partitions, those that are asked for
  -- where that is asked, and with the parts that its streams have. A new checkpoint gets the partitions that are asked for, or one.
  pub record IsRunOf (g : Given L) (s : Setting) : Type 0 where
    pub query : s.job.bound ≡ g.bound
    pub parts : s.job.parts ≡ g.counts
    pub lines_are : s.lines ≡ map lines g.logs
    pub some_partitions : 1 ≤ s.job.partitions
    pub few_partitions : s.job.partitions ≤ 64
    pub as_asked : ForSome g.asks (λ count. s.job.partitions ≡ count)
    pub first : IsEmpty (files_now g.start) → s.job.partitions ≡ unwrap_or g.asks 1

module _ {L : Type 0} (tells : Type 0) (lines : L → List Line) (available : L → ℕ) (answers : L → List ℕ) (faults : L → ℕ) where
  -- Rounds begin on what was opened, of a checkpoint that passes each check or was begun. Until its names were synced each image is one that a
  -- crash might have left before, and from then on each has the files as they were, or, where no file was there, the job's record alone.
  pub record IsBegunBy (g : Given L) (found : List ℕ) (b : Begun L) : Type 0 where
    pub bound_is : b.bound ≡ g.bound
    pub cap_is : b.cap ≡ g.cap
    pub rounds_are : b.rounds ≡ g.rounds
    pub logs_are : b.logs ≡ g.logs
    pub seen_is : b.seen ≡ found
    pub written_is : b.written ≡ g.written
    pub counted : g.disk_faults ≤ b.disk_faults
    -- an epoch may take lines
    pub has_cap : HasCap b.cap
    pub opened : tells → IsOpen (sought_in g found) (files_now g.start) b.start b.found
    pub synced : tells → SyncedSince g.start b.start (IsBegun (sought_in g found) (files_now g.start))
    -- where the checkpoint stands for the run's job, or is empty, what was opened is the job's own
    pub own : tells → (s : Setting) → IsRunOf lines g s → StandsOrEmpty (job_of s) (files_now g.start) → (setting_in tells lines available answers faults b ≡ s) × IsOwnRun tells lines available answers faults b

  -- What rounds promise that began so and told these epochs: they are a run of the machine; their plans are those of the files that they leave,
  -- or, once all are told, the publishing of one more failed, which was tried by lines that were found so; each file that was there when they began is in each image from then on, as it was, but for files of the
  -- state; each epoch is in each image from when it was acknowledged; and it is told with the watermark and the number of rows
  -- of the meaning, which finds no fault in it.
  pub record HavePromised (s : Setting) (b : Begun L) (now : History) (plans : List Plan) (told : List Told) (IsTried : List ℕ → Type 0) : Type 0 where
    pub run : WasRun tells (job_of s) b.start now (map (λ t. t.epoch) told)
    pub files : AreFilesOf (job_of s) b.cap (due_at s) IsTried (b.found.committed + length told ≡ length plans) (cuts_in b plans) (length plans) now
    pub kept : IsKept tells (job_of s) b.start now (files_now b.start) (map (λ t. t.epoch) told) run
    pub meant : All (IsMeant s (cuts_in b plans)) told

  -- How a run goes, in the order of its work: the lines of its logs are not counted; or they are asked, and the checkpoint is refused, by its first
  -- check that is not met, and for the outside alone where it is the run's, and of no part fewer lines were found than are planned; or they
  -- are asked, and memory runs out before it is opened; or they are asked, and rounds are run on what was opened, and keep what they promise where
  -- the checkpoint stood for the run's job or was empty. A refusal leaves no image that is new before the names are synced, and from then on the
  -- files as they were, or, where no file was there, the job's record alone.
  pub data RunEnd (g : Given L) (now : History) (disk_faults : ℕ) (logs : List L) (OutTells : Type 0) (written text : List ℕ) (end : Result (Unit {0}) RunFault) : Type 0 where
    uncounted : (why : LengthFault) → IsUncounted tells lines available answers faults g.logs logs why → IsStopped tells lines available answers faults 0 g.logs logs why → now ≡ g.start → IsUnsaid g OutTells written text → end ≡ Err (fault.Lines why) → RunEnd g now disk_faults logs OutTells written text end
    refused : (found : List ℕ) (why : OpenFault) → AreAsked tells lines available answers faults g.logs logs found → (tells → IsRefused (sought_in g found) (files_now g.start) (files_now now) why) → (tells → IsOpening (sought_in g found) g.start now)
        → (tells → (s : Setting) → IsRunOf lines g s → IsJobs (sought_in g found) (job_of s) (files_now g.start) → IsOutside why) → DiskRises why g.disk_faults disk_faults → IsUnsaid g OutTells written text → end ≡ Err (fault.Open why)
        → RunEnd g now disk_faults logs OutTells written text end
    starved : (found : List ℕ) → AreAsked tells lines available answers faults g.logs logs found → now ≡ g.start → IsUnsaid g OutTells written text → end ≡ Err fault.NoMemory → RunEnd g now disk_faults logs OutTells written text end
    ran : (found : List ℕ) (asked_logs : List L) → AreAsked tells lines available answers faults g.logs asked_logs found → (b : Begun L) → IsBegunBy g found b → (ends : Ends tells lines available answers faults b now disk_faults logs OutTells written text end)
        → (tells → (s : Setting) → IsRunOf lines g s → StandsOrEmpty (job_of s) (files_now g.start) → HavePromised s b now ends.plans ends.told (WasTried tells lines available answers faults b logs ends.plans ends.done end)) → RunEnd g now disk_faults logs OutTells written text end
