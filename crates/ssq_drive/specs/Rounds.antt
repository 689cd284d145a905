-- A round: what it begins on, what it plans and tells, and why it stops.
use Rattle.std.specs.Prelude.{◌≡◌, ◌≢◌, ◌⊎◌, ◌<◌, ◌≤◌, ◌+◌, ◌^◌, ◌++◌, ℕ, Bool, false, true, List, [], ◌∷◌, length, map, get_or, slice_get, All, IsSomeAnd, Option, Some, None, Result, Ok, Err, sum}
use Rattle.std.specs.Option.{ForSome}
use Rattle.ssq_outside.specs.declared.name.Name.TheVariants as name
use Rattle.ssq_outside.specs.Faults.{Rises}
use Rattle.ssq_outside.specs.Files.{Files}
use Rattle.ssq_outside.specs.History.{History, LeavesNow, files_now}
use Rattle.ssq_time.specs.Time.{IsStampTime}
use Rattle.ssq_shape.specs.declared.bound.Bound.{Bound}
use Rattle.ssq_meaning.specs.Meaning.{Line, Values}
use Rattle.ssq_meaning.specs.Feeding.{LineAt}
use Rattle.ssq_meaning.specs.Epochs.{out, fault, of_line, of_key}
use Rattle.ssq_step.specs.Indexing.{Timed}
use Rattle.ssq_plans.specs.declared.plan.Plan.{Plan}
use Rattle.ssq_core.specs.Course.{Ends, Cuts, plan_of}
use Rattle.ssq_core.specs.Settled.{IsSettledAs}
use Rattle.ssq_core.specs.Standing.{IsThere}
use Rattle.ssq_core.specs.Machine.{Desk, opened}
use Rattle.ssq_course.specs.Setting.{Setting, parts_in, watermark_at, cut_of as offsets_of, cuts_of as offsets, job_of, keeping_of, closes}
use Rattle.ssq_open.specs.declared.wanted.Lens.{Lens}
use Rattle.ssq_open.specs.declared.wanted.Opened.{Opened}
use Rattle.ssq_open.specs.Watermarks.{watermarked}
use Rattle.ssq_open.specs.Looking.{begins}
use Rattle.ssq_open.specs.Epochs.{cut_of, last_ends}
use Rattle.ssq_open.specs.Numbers.{HasNumbers}
use Rattle.ssq_open.specs.Stores.{AreStores}
use Rattle.ssq_store.specs.declared.store.Store.{Store}
use Rattle.ssq_board.specs.declared.front.Cause.{Cause}
use Rattle.ssq_board.specs.declared.front.Cause.TheVariants as cause
use Rattle.ssq_board.specs.Core.{Scope, next_ends, is_behind, is_of_epoch}
use Rattle.ssq_board.specs.Rounds.{HasCap}
use Rattle.ssq_board.specs.Shelf.{AreListed}
use Rattle.ssq_terms.specs.Setting.{CanRun, IsSettingOf, AreFound, found_lines}
use Rattle.ssq_terms.specs.Laws.{IsScopeOf, due_at}
use Rattle.ssq_terms.specs.Partitions.{HoldsStateOf}
use Rattle.ssq_promise.specs.Run.{WasRun, AreFilesOf, CallFailed}
use Rattle.ssq_desk.specs.declared.closed.NextRound.{NextRound}
use Rattle.ssq_desk.specs.declared.told.Told.{Told}
use Rattle.ssq_desk.specs.Closing.{lines_between}
use Rattle.ssq_desk.specs.Contents.{line_of}
use Rattle.ssq_desk.specs.First.{AreIndexes}
use Rattle.ssq_drive.specs.declared.round.Stopped.{Stopped}
use Rattle.ssq_drive.specs.Damaged.{IsDamagedIn}
use Rattle.ssq_drive.specs.Good.{HasGoodLines}
use Rattle.ssq_drive.specs.Kept.{IsKeptUp, NeedsNoUpkeep}

-- the query, with the partitions and parts that its checkpoint keeps, over the lines of the logs
abbrev pub setting_for : {L : Type 0} → (L → List Line) → Bound → Opened → List L → Setting
setting_for lines bound found logs = record { job = record { bound = bound; partitions = found.meta.partitions; parts = found.meta.parts }; lines = map lines logs }

-- where the parts begin that its checkpoint keeps
abbrev pub first_of : Opened → Ends
first_of found = begins found.meta.parts

-- there is an index for each store, in order, and it is that of its state
abbrev pub HaveIndexes : Bound → List Store → List (List Timed) → Type 0
HaveIndexes bound stores closings = AreIndexes (Unit {0}) bound stores closings

-- A round may begin so over this number of logs, whatever disk and logs tell: the query can be run, and what was opened is in order.
pub record CanBegin (bound : Bound) (logs : ℕ) (found : Opened) (r : Scope) : Type 0 where
  pub runs : CanRun bound
  pub partitions : r.partitions ≡ found.meta.partitions
  pub some_partitions : 1 ≤ found.meta.partitions
  pub few_partitions : found.meta.partitions ≤ 64
  pub streams : length found.meta.parts ≡ length bound.streams
  pub few_streams : length bound.streams ≤ 2 ^ 32
  pub parts : length r.available ≡ length (first_of found)
  pub log_each : logs ≡ length (first_of found)
  pub cap : HasCap r.cap
  pub few_tasks : length r.available + r.partitions ≤ 2 ^ 32
  pub few_lines : sum r.available < 2 ^ 64
  pub numbers : HasNumbers (watermarked bound.streams) (first_of found) found
  pub stores : AreStores (keeping_of bound.shape found.meta.partitions) found.committed found.stores
  pub long : (i : ℕ) → get_or (offsets_of (last_ends (first_of found) found.plans)) i 0 ≤ get_or r.available i 0

-- The files are the job's, a desk of the machine opens on them, and what was found is what they hold: where its epochs end, the plans, the
-- greatest times over the committed epochs, what partitions keep after these, and the names of the state's files.
pub record IsFoundOf (s : Setting) (files : Files) (found : Opened) : Type 0 where
  pub desk : Desk
  pub is : opened (job_of s) files desk
  pub cuts : desk.cuts ≡ cut_of (first_of found) found.plans
  pub planned : desk.planned ≡ length found.plans
  pub committed : desk.committed ≡ found.committed
  pub plans : (e : ℕ) (default : Plan) → e < length found.plans → get_or found.plans e default ≡ plan_of ((job_of s).course desk.cuts) e
  pub seen : ((found.committed ≡ 0) × (found.seen ≡ [])) ⊎ (found.seen ≡ ((job_of s).course desk.cuts).seen found.committed)
  pub states : (p : ℕ) → HoldsStateOf s desk.cuts found.committed p (slice_get found.stores p)
  pub names : AreListed files found.names

-- a log is as it was, but that more of its lines may be known to be there, and that it may have failed
pub record IsReturned {L : Type 0} (tells : Type 0) (lines : L → List Line) (available : L → ℕ) (answers : L → List ℕ) (faults : L → ℕ) (before after : L) : Type 0 where
  pub same : tells → lines after ≡ lines before
  pub grown : tells → available before ≤ available after
  pub unasked : tells → answers after ≡ answers before
  pub counted : faults before ≤ faults after

-- each log is
abbrev pub AreReturned : {L : Type 0} → Type 0 → (L → List Line) → (L → ℕ) → (L → List ℕ) → (L → ℕ) → (before after : List L) → Type 0
AreReturned tells lines available answers faults [] [] = Unit {0}
AreReturned tells lines available answers faults [] (new ∷ news) = ⊥
AreReturned tells lines available answers faults (old ∷ olds) [] = ⊥
AreReturned tells lines available answers faults (old ∷ olds) (new ∷ news) = IsReturned tells lines available answers faults old new × AreReturned tells lines available answers faults olds news

-- The plans that there were stay, and after them each epoch ends where the next cut does: at what was found, or by the cap before it. Each
-- has lines; but the last may have none, where the query closes.
pub record PlansOn (closing : Bool) (first : Ends) (cap : Option ℕ) (found : List ℕ) (old new : List Plan) : Type 0 where
  pub more : List Plan
  pub behind : new ≡ old ++ more
  pub next : (e : ℕ) → length old ≤ e → e < length new → cut_of first new (e + 1) ≡ next_ends cap (cut_of first new e) found
  pub due : (e : ℕ) → length old ≤ e → e < length new → (is_behind (cut_of first new e) found ≡ true) ⊎ ((e + 1 ≡ length new) × (closing ≡ true))

-- What is told of an epoch: its number, how many lines lie between its cuts, and a watermark that can be printed.
pub record IsToldOf (first : Ends) (plans : List Plan) (e : ℕ) (told : Told) : Type 0 where
  pub epoch : told.epoch ≡ e
  pub lines : told.lines ≡ lines_between (offsets_of (cut_of first plans e)) (offsets_of (cut_of first plans (e + 1)))
  pub stamp : ForSome told.watermark IsStampTime

-- the epochs from this one on are told, one after another
abbrev pub AreTold : Ends → List Plan → ℕ → List Told → Type 0
AreTold first plans e [] = Unit {0}
AreTold first plans e (told ∷ rest) = IsToldOf first plans e told × AreTold first plans (e + 1) rest

-- An epoch is told that has no fault, with its own watermark, and as many rows as it shows by the meaning.
pub record IsMeant (s : Setting) (cuts : Cuts) (told : Told) : Type 0 where
  pub faultless : fault s.job.bound (parts_in s) (offsets cuts) told.epoch ≡ None
  pub watermark : told.watermark ≡ watermark_at s cuts told.epoch
  pub rows : told.rows ≡ length (out s.job.bound (parts_in s) (offsets cuts) told.epoch)

-- the fault of an epoch is of this line, the first of it
abbrev pub IsFaultAt : Setting → Cuts → ℕ → Option LineAt → Type 0
IsFaultAt s cuts e None = ⊥
IsFaultAt s cuts e (Some at) = fault s.job.bound (parts_in s) (offsets cuts) e ≡ Some (of_line at)

-- the fault of an epoch is of this key, the least that overflows
abbrev pub IsKeyAt : Setting → Cuts → ℕ → Values → Type 0
IsKeyAt s cuts e key = fault s.job.bound (parts_in s) (offsets cuts) e ≡ Some (of_key key)

-- After so many epochs one more is to come, by what was found: some part has lines that they do not cover, or one without lines is due.
abbrev pub IsMore : Setting → Cuts → (found : List ℕ) → ℕ → Type 0
IsMore s cuts found e = (is_behind (cuts e) found ≡ true) ⊎ (due_at s cuts e ≡ true)

-- Why a round stopped that has so many epochs planned, at the first that is not committed: where disk and logs tell what they hold, a line
-- is told only where it is the first fault of that epoch, which is planned, and no log is short; where also what was opened is the job's own, a
-- key only where it is the fault of that epoch. There are too many epochs only where all are told and one more is to come: some part has more lines, or the query
-- closes; and by the job's own that one is due. What failed has counted it, and a log fails only as it reads an epoch that is planned and not told. A file that upkeep read, for a snapshot of an epoch that is told or was committed
-- before, is told only where it is damaged among those that the round leaves, and never where what was opened is the job's own.
abbrev pub IsRoundStop : (tells owned : Type 0) → Setting → Cuts → (found : List ℕ) → (planned e : ℕ) → Files → (disk disk_now logs : ℕ) → (key : Option Values) → Cause → Type 0
IsRoundStop tells owned s cuts found planned e files disk disk_now logs key (cause.BadLine t p o f) = (e < planned) × (tells → IsFaultAt s cuts e (line_of (cause.BadLine t p o f)))
IsRoundStop tells owned s cuts found planned e files disk disk_now logs key (cause.Overflow t p o) = (e < planned) × (tells → IsFaultAt s cuts e (line_of (cause.Overflow t p o)))
IsRoundStop tells owned s cuts found planned e files disk disk_now logs key cause.KeyOverflow = (e < planned) × IsSomeAnd key (λ own. owned → IsKeyAt s cuts e own)
IsRoundStop tells owned s cuts found planned e files disk disk_now logs key cause.LogFault = (e < planned) × (0 < logs)
IsRoundStop tells owned s cuts found planned e files disk disk_now logs key (cause.LogShort t p logged lines) = (lines < logged) × (tells → ⊥)
IsRoundStop tells owned s cuts found planned e files disk disk_now logs key (cause.Damaged q) = (owned → ⊥) × (tells → IsDamagedIn (keeping_of s.job.bound.shape s.job.partitions) e files q)
IsRoundStop tells owned s cuts found planned e files disk disk_now logs key cause.DiskFault = Rises disk disk_now
IsRoundStop tells owned s cuts found planned e files disk disk_now logs key cause.Full = (planned ≡ 4294967295) × ((is_behind (cuts planned) found ≡ true) ⊎ (closes s.job.bound ≡ true)) × (owned → IsMore s cuts found planned) × (e ≡ planned)
IsRoundStop tells owned s cuts found planned e files disk disk_now logs key cause.NoMemory = Unit {0}

-- A round that is over: all epochs are committed and told, and cover what was found; upkeep is done, by the names of the files that are left; and the
-- next round may begin on that, with these indexes.
pub record IsOver (bound : Bound) (logs : ℕ) (r : Scope) (found : Opened) (plans : List Plan) (told : List Told) (next : Opened) (closings : List (List Timed)) : Type 0 where
  pub plans_are : next.plans ≡ plans
  pub committed : next.committed ≡ length plans
  pub all : found.committed + length told ≡ length plans
  pub meta_is : next.meta ≡ found.meta
  pub covered : is_behind (last_ends (first_of found) plans) r.available ≡ false
  pub kept : NeedsNoUpkeep (keeping_of bound.shape found.meta.partitions) found.meta.partitions next.committed next.names
  pub can : CanBegin bound logs next r
  pub indexes : HaveIndexes bound next.stores closings

-- how a round ends: with what the next one begins on, or with why it stopped
abbrev pub Ended : Type 0
Ended = Result NextRound Stopped

-- How a round went, whatever the disk tells: these are its plans in the end, the epochs that it told are the first ones that were not
-- committed, of which no line is a fault where disk and logs tell what they hold, and it is over or stopped at an epoch after them, for a key
-- only where that is told. At most one epoch is planned and not told, the last: an epoch is planned only where each before it is committed and
-- acknowledged, and what is acknowledged is told.
pub record RoundWent (tells owned : Type 0) (s : Setting) (logs_count : ℕ) (r : Scope) (found : Opened) (files : Files) (disk disk_now logs : ℕ) (plans : List Plan) (told : List Told) (end : Ended) : Type 0 where
  pub on : PlansOn (closes s.job.bound) (first_of found) r.cap r.available found.plans plans
  pub told_are : AreTold (first_of found) plans found.committed told
  pub good : tells → All (λ told. HasGoodLines s (cut_of (first_of found) plans) told.epoch) told
  pub few : found.committed + length told ≤ length plans
  pub near : length plans ≤ found.committed + length told + 1
  pub over : (next : NextRound) → end ≡ Ok next → IsOver s.job.bound logs_count r found plans told next.opened next.closings.items
  pub stopped : (why : Stopped) → end ≡ Err why → IsRoundStop tells owned s (cut_of (first_of found) plans) r.available (length plans) (found.committed + length told) files disk disk_now logs why.key why.cause
  pub keyless : (why : Stopped) → end ≡ Err why → why.cause ≢ cause.KeyOverflow → why.key ≡ None

-- the round stopped since a call of the disk failed, or memory ran out
abbrev pub StoppedAtCall : Ended → Type 0
StoppedAtCall end = (why : Stopped) × (end ≡ Err why) × CallFailed (Some why.cause)

-- a cause that tasks of the epoch that runs alone bring: a fault of that epoch, or of a log
abbrev pub IsOfOpen : Cause → Type 0
IsOfOpen why = (is_of_epoch why ≡ true) ⊎ (why ≡ cause.LogFault)

-- What a round does that begins on the job's own settled files: it is a run of the machine; its plans are those of the files that it leaves,
-- or, once all are done with, the publishing of one more, cut by what was found, failed, and the round stopped at that; each epoch that it planned was to
-- come; each that it tells has the rows of the meaning; where it stopped for a fault of the epoch that runs, each image has the plan of that epoch, and
-- where it stopped for that or for a log that failed, none has its commit; and where it is over, its files are settled,
-- what the next round begins on is what they hold, upkeep is done by them, and no epoch without lines is due.
pub record RoundRan (tells : Type 0) (s : Setting) (r : Scope) (start now : History) (cuts : Cuts) (before committed planned : ℕ) (told : List Told) (end : Ended) : Type 0 where
  pub run : WasRun tells (job_of s) start now (map (λ t. t.epoch) told)
  pub files : AreFilesOf (job_of s) r.cap (due_at s) (λ lines. lines ≡ r.available) ((committed + length told ≡ planned) × StoppedAtCall end) cuts planned now
  pub due : (e : ℕ) → before ≤ e → e < planned → IsMore s cuts r.available e
  pub meant : All (IsMeant s cuts) told
  pub planned_stays : (why : Stopped) → end ≡ Err why → is_of_epoch why.cause ≡ true → LeavesNow now (λ image. IsThere image (name.Plan (committed + length told)))
  pub uncommitted : (why : Stopped) → end ≡ Err why → IsOfOpen why.cause → LeavesNow now (λ image. image (name.Commit (committed + length told)) ≡ None)
  pub settled : (next : NextRound) → end ≡ Ok next → IsSettledAs now (files_now now)
  pub found : (next : NextRound) → end ≡ Ok next → IsFoundOf s (files_now now) next.opened
  pub kept : (next : NextRound) → end ≡ Ok next → IsKeptUp (keeping_of s.job.bound.shape s.job.partitions) s.job.partitions (files_now now)
  pub quiet : (next : NextRound) → end ≡ Ok next → due_at s cuts planned ≡ false

-- What was opened is the job's own: the setting is that of the query and of the lines that were found, the files are settled, and what was
-- found is what they hold.
pub record IsOwn (s : Setting) (r : Scope) (start : History) (found : Opened) : Type 0 where
  pub asks : Option ℕ
  pub lens : Lens
  pub setting : IsSettingOf s s.job.bound asks lens
  pub scope : IsScopeOf r s lens
  pub lines : AreFound (found_lines lens) s.lines
  pub settled : IsSettledAs start (files_now start)
  pub found_is : IsFoundOf s (files_now start) found

-- how a round went, and what it did
pub record IsRound (tells : Type 0) (s : Setting) (logs_count : ℕ) (r : Scope) (found : Opened) (start now : History) (disk disk_now logs : ℕ) (told : List Told) (end : Ended) : Type 0 where
  pub plans : List Plan
  pub went : RoundWent tells (tells × IsOwn s r start found) s logs_count r found (files_now now) disk disk_now logs plans told end
  pub ran : tells → IsOwn s r start found → RoundRan tells s r start now (cut_of (first_of found) plans) (length found.plans) found.committed (length plans) told end
