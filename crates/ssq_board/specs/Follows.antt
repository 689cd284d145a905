-- When the state of a desk shows a desk of the machine, and what an entry does to the disk.
use Rattle.std.specs.Prelude.{◌≡◌, ◌⊎◌, ◌<◌, ◌≤◌, ◌+◌, nat_lt, ℕ, Bool, true, false, List, [], ◌∷◌, length, Option, Some, None}
use mathlib.Core.Option.{some}
use Rattle.ssq_outside.specs.declared.name.Name.{Name}
use Rattle.ssq_outside.specs.declared.name.Name.TheVariants as name
use Rattle.ssq_outside.specs.declared.gate.TaskId.{TaskId}
use Rattle.ssq_outside.specs.declared.gate.Kind.{Kind}
use Rattle.ssq_outside.specs.declared.gate.Kind.TheVariants as kind
use Rattle.ssq_outside.specs.Files.{Content}
use Rattle.ssq_outside.specs.History.{History, had_now, Elapses}
use Rattle.ssq_core.specs.Course.{Course, Ends, Cuts, Job, truth, IsCausal}
use Rattle.ssq_core.specs.Machine.{Desk, Change, nothing, misses, publishes, removes, syncs, Allows, Leaves, result_of, reduce, out_task, upkeep}
use Rattle.ssq_core.specs.Machine as machine
use Rattle.ssq_core.specs.Sound.{AreProper, is_state}
use Rattle.ssq_upkeep.specs.Upkeep.{is_among, is_up_to}
use Rattle.ssq_board.specs.declared.front.Cause.{Cause}
use Rattle.ssq_board.specs.declared.front.Place.{Place}
use Rattle.ssq_board.specs.declared.front.Place.TheVariants as place
use Rattle.ssq_board.specs.declared.front.Entry.{Entry}
use Rattle.ssq_board.specs.declared.front.Entry.TheVariants as entry
use Rattle.ssq_board.specs.Shelf.{Shelf, there_in, last_of, MayKeep, shelf_by}
use Rattle.ssq_board.specs.Core.{Scope, Core, next_ends, is_behind, has_line, has_line_at, at, is_open, is_of_epoch, fails_apart, May, after, cuts_by}

abbrev pub map_task : ℕ → ℕ → TaskId
map_task e i = record { epoch = e; kind = kind.Map; number = i }

-- What the numbers of a desk rest on: which tasks an epoch of the job has, which cut may come next, and (due) whether after the first so
-- many epochs one without lines is due.
pub record Terms (job : Job) (r : Scope) (due : Cuts → ℕ → Bool) : Type 0 where
  pub causal : IsCausal job
  -- where the job's parts begin
  pub start : Ends
  -- a map task for each part with lines in the epoch, a reduce task for each partition, and one out task
  pub maps : (cuts : Cuts) (e i : ℕ) → (job.course cuts).is_task (map_task e i) ≡ has_line_at (cuts e) (cuts (e + 1)) i
  pub reduces : (cuts : Cuts) (e p : ℕ) → (job.course cuts).is_task (reduce e p) ≡ nat_lt p r.partitions
  pub outs : (cuts : Cuts) (e : ℕ) → (job.course cuts).is_task (out_task e) ≡ true
  -- the next cut may come where it has lines, or one without lines is due
  pub next : (cuts : Cuts) (e : ℕ) → cuts 0 ≡ start → AreProper job cuts e → cuts (e + 1) ≡ next_ends r.cap (cuts e) r.available
      → (is_behind (cuts e) r.available ≡ true) ⊎ (due cuts e ≡ true) → job.is_next cuts e ≡ true
  -- a snapshot of each partition that keeps state may be made, and making it meets no fault of the epoch's
  pub upkeeps : (cuts : Cuts) (p v : ℕ) → p < (job.course cuts).keeping → (job.course cuts).is_task (upkeep p v) ≡ true
  pub upkeep_good : (cuts : Cuts) (p v : ℕ) → (job.course cuts).is_fault (upkeep p v) ≡ false
  -- what is due hangs on the cuts so far, and after an epoch without lines none is
  pub dues : (cuts other : Cuts) (n : ℕ) → ((e : ℕ) → e ≤ n → cuts e ≡ other e) → due cuts n ≡ due other n
  pub quiet : (cuts : Cuts) (e : ℕ) → AreProper job cuts (e + 1) → has_line (cuts e) (cuts (e + 1)) ≡ false → due cuts (e + 1) ≡ false

-- A state: the disk, what the desk knows, the files of the state, and the cuts.
pub record State : Type 0 where
  pub disk : History
  pub core : Core
  pub shelf : Shelf
  pub cuts : Cuts

-- what a version does that comes back: after a Stop nothing
abbrev pub publishes_by : Job → Cuts → TaskId → Option Cause → Change
publishes_by job cuts t None = publishes (name.Delta t.number t.epoch) (truth (job.course cuts) (name.Delta t.number t.epoch))
publishes_by job cuts t (Some f) = nothing

-- what a snapshot does that comes back: after a Stop nothing
abbrev pub makes_by : Job → Cuts → ℕ → ℕ → Option Cause → Change
makes_by job cuts p v None = publishes (name.Snapshot p v) (truth (job.course cuts) (name.Snapshot p v))
makes_by job cuts p v (Some f) = nothing

-- What an entry does to the disk: a file that it publishes is the true one of its name. One that was missed was tried.
abbrev pub change_of : Job → Core → Cuts → Entry → Change
change_of job c cuts (entry.Plan e) = publishes (name.Plan e) (truth (job.course cuts) (name.Plan e))
change_of job c cuts (entry.Claim t) = nothing
change_of job c cuts (entry.Report t f) = nothing
change_of job c cuts (entry.Version t) = publishes_by job cuts t c.front.stop
change_of job c cuts (entry.Missed t) = publishes_by job cuts t None
change_of job c cuts (entry.OutFile e) = publishes (name.Out e) (truth (job.course cuts) (name.Out e))
change_of job c cuts (entry.Sync clock) = syncs
change_of job c cuts (entry.Commit e due) = publishes (name.Commit e) (truth (job.course cuts) (name.Commit e))
change_of job c cuts (entry.Upkeep p v) = nothing
change_of job c cuts (entry.Snapshot p v) = makes_by job cuts p v c.front.stop
change_of job c cuts (entry.Unmade p v f) = nothing
change_of job c cuts (entry.Untaken p v) = makes_by job cuts p v None
change_of job c cuts (entry.Drop q) = removes q
change_of job c cuts (entry.Undropped q) = removes q
change_of job c cuts (entry.Stop f) = nothing

-- in a call that is done
abbrev pub Goes : Change → History → History → Type 0
Goes nothing old new = new ≡ old
Goes (misses t) old new = new ≡ old
Goes (publishes q bytes) old new = Elapses old new (Allows (publishes q bytes) (had_now old)) × Leaves (publishes q bytes) (had_now old) (had_now new)
Goes (removes q) old new = Elapses old new (Allows (removes q) (had_now old)) × Leaves (removes q) (had_now old) (had_now new)
Goes syncs old new = Elapses old new (Allows syncs (had_now old)) × Leaves syncs (had_now old) (had_now new)

-- and in one that failed
abbrev pub Tries : Change → History → History → Type 0
Tries nothing old new = new ≡ old
Tries (misses t) old new = new ≡ old
Tries (publishes q bytes) old new = Elapses old new (Allows (publishes q bytes) (had_now old))
Tries (removes q) old new = Elapses old new (Allows (removes q) (had_now old))
Tries syncs old new = Elapses old new (Allows syncs (had_now old))

-- What a call that failed may have tried, where the Stop is its entry: nothing, or an entry that may come, but for those whose failing has an entry of its own.
abbrev pub IsTried : Job → Scope → Core → Cuts → Change → Type 0
IsTried job r c cuts change = (change ≡ nothing) ⊎ ((e : Entry) × May r c e × (fails_apart e ≡ false) × (change ≡ change_of job c (cuts_by r cuts c e) e))

-- the disk's part of an entry: a Stop has the call that failed, and so have a version that was missed, a snapshot that was not taken, and a file
-- that was not removed
abbrev pub Moves : Job → Scope → Core → Cuts → Entry → History → History → Type 0
Moves job r c cuts (entry.Stop f) old new = (change : Change) × IsTried job r c cuts change × Tries change old new
Moves job r c cuts (entry.Missed t) old new = Tries (change_of job c cuts (entry.Missed t)) old new
Moves job r c cuts (entry.Untaken p v) old new = Tries (change_of job c cuts (entry.Untaken p v)) old new
Moves job r c cuts (entry.Undropped q) old new = Tries (change_of job c cuts (entry.Undropped q)) old new
Moves job r c cuts (entry.Sync clock) old new = Goes syncs old new × (clock ≡ new.moment)
Moves job r c cuts e old new = Goes (change_of job c (cuts_by r cuts c e) e) old new

-- A result is its task's own: without a fault exactly where the task has none. What came from outside says nothing of it.
abbrev pub IsOwnBy : Bool → Bool → Type 0
IsOwnBy is_fault true = is_fault ≡ true
IsOwnBy is_fault false = Unit {0}

abbrev pub IsOwn : Course → TaskId → Option Cause → Type 0
IsOwn course t None = course.is_fault t ≡ false
IsOwn course t (Some f) = IsOwnBy (course.is_fault t) (is_of_epoch f)

-- A task brings no version: it met a fault, or is no reduce task of a partition that keeps state.
abbrev pub BringsNoneBy : Course → TaskId → Kind → Option Cause → Type 0
BringsNoneBy course t kind.Reduce None = machine.seals course t ≡ false
BringsNoneBy course t _ f = Unit {0}

abbrev pub BringsNone : Course → TaskId → Option Cause → Type 0
BringsNone course t f = BringsNoneBy course t t.kind f

-- it brings one: it met no fault, and its partition keeps state
abbrev pub BringsVersion : Course → TaskId → Type 0
BringsVersion course t = IsOwn course t None × (machine.seals course t ≡ true)

-- what an entry tells is so: of its task, and of what is due next
abbrev pub IsRight : Job → (Cuts → ℕ → Bool) → Cuts → Entry → Type 0
IsRight job due cuts (entry.Report t f) = IsOwn (job.course cuts) t f × BringsNone (job.course cuts) t f
IsRight job due cuts (entry.Version t) = BringsVersion (job.course cuts) t
IsRight job due cuts (entry.Missed t) = BringsVersion (job.course cuts) t
IsRight job due cuts (entry.Commit e next) = next ≡ due cuts (e + 1)
IsRight job due cuts (entry.Upkeep p v) = p < (job.course cuts).keeping
IsRight job due cuts _ = Unit {0}

-- An entry leads from one state to another. What is said of contents holds where disk and logs tell them.
pub record Step (tells : Type 0) (job : Job) (r : Scope) (due : Cuts → ℕ → Bool) (s : State) (e : Entry) (n : State) : Type 0 where
  pub may : May r s.core e
  pub keeps : MayKeep r s.core s.shelf e
  pub moves : tells → Moves job r s.core s.cuts e s.disk n.disk
  pub right : tells → IsRight job due s.cuts e
  pub core : n.core ≡ after r s.core e
  pub shelf : n.shelf ≡ shelf_by s.core s.shelf e
  pub cuts : n.cuts ≡ cuts_by r s.cuts s.core e

abbrev pub Leads : Type 0 → Job → Scope → (Cuts → ℕ → Bool) → State → List Entry → State → Type 0
Leads tells job r due s [] n = s ≡ n
Leads tells job r due s (e ∷ es) n = (mid : State) × Step tells job r due s e mid × Leads tells job r due mid es n

-- a task is back without a fault, with its own sealed bytes where it seals any
pub record IsDone (course : Course) (t : TaskId) (there : machine.Place) : Type 0 where
  pub bytes : Content
  pub is : there ≡ machine.back false bytes
  pub has : machine.seals course t ≡ true → bytes ≡ Some (result_of course t)

-- where the machine has the task of a place
abbrev pub ShowsAt : Course → TaskId → machine.Place → Place → Type 0
ShowsAt course t there place.Rests = course.is_task t ≡ false
ShowsAt course t there place.Waits = (course.is_task t ≡ true) × (there ≡ machine.waits)
ShowsAt course t there place.Away = there ≡ machine.out
ShowsAt course t there (place.Back None) = IsDone course t there
ShowsAt course t there (place.Back (Some f)) = Unit {0}

-- the deltas of an epoch are there, one for each partition that keeps state
abbrev pub AreThere : Course → Desk → ℕ → Type 0
AreThere course d e = (p : ℕ) → p < course.keeping → d.there (name.Delta p e) ≡ true

-- a file that upkeep publishes
abbrev pub is_snapshot : Name → Bool
is_snapshot (name.Snapshot p v) = true
is_snapshot q = false

-- The desk shows a desk of the machine: their counts are the same; what is settled is settled there; each task of the epoch that runs is
-- where its place says; and the deltas that its reduce tasks brought are there. What the stores hold is the machine's own (`Sound`).
pub record Shows (job : Job) (r : Scope) (next_due : Cuts → ℕ → Bool) (terms : Terms job r next_due) (c : Core) (d : Desk) : Type 0 where
  pub planned : d.planned ≡ c.front.planned
  pub committed : d.committed ≡ c.front.committed
  pub starts : d.cuts 0 ≡ terms.start
  pub ends : d.cuts c.front.planned ≡ c.ends
  pub proper : AreProper job d.cuts c.front.planned
  pub settled : c.front.settled ≡ true → (q : Name) → is_snapshot q ≡ false → d.there q ≡ true → d.sure q ≡ true
  pub plan_there : (e : ℕ) → e < c.front.planned → d.there (name.Plan e) ≡ true
  pub plan_settled : is_open c ≡ true → c.front.fresh ≡ true → d.sure (name.Plan c.front.committed) ≡ true
  pub commits : (e : ℕ) → e < c.front.committed → d.there (name.Commit e) ≡ true
  pub written : is_open c ≡ true → c.front.written ≡ true → (d.there (name.Out c.front.committed) ≡ true)
      × IsDone (job.course d.cuts) (out_task c.front.committed) (d.tasks (out_task c.front.committed))
  pub tasks : is_open c ≡ true → (t : TaskId) (p : Place) → t.epoch ≡ c.front.committed → at c t ≡ some p → ShowsAt (job.course d.cuts) t (d.tasks t) p
  -- as long as the desk runs the delta of each partition is there whose reduce task brought it, and once the out task went out all are
  pub deltas : is_open c ≡ true → c.front.stop ≡ None → (p : ℕ) → p < (job.course d.cuts).keeping → at c (reduce c.front.committed p) ≡ some (place.Back None) → d.there (name.Delta p c.front.committed) ≡ true
  pub reduced : is_open c ≡ true → (d.tasks (out_task c.front.committed) ≡ machine.waits) ⊎ AreThere (job.course d.cuts) d c.front.committed
  -- each map task of the epoch has its place
  pub mapped : is_open c ≡ true → (i : ℕ) → (job.course d.cuts).is_task (map_task c.front.committed i) ≡ true → i < length c.maps
  -- tasks were claimed only where the plan is settled, and none of a later epoch
  pub claimed : (t : TaskId) → t.epoch ≡ c.front.committed → (d.tasks t ≡ machine.waits) ⊎ (c.front.fresh ≡ true)
  pub later : (t : TaskId) → c.front.planned ≤ t.epoch → d.tasks t ≡ machine.waits
  -- as long as the desk runs no task came back after a fault of the outside
  pub whole : c.front.stop ≡ None → (t : TaskId) → d.tasks t ≡ machine.failed → ⊥
  -- what is due
  pub has_lines : is_open c ≡ true → c.front.has_lines ≡ false → has_line (d.cuts c.front.committed) (d.cuts c.front.planned) ≡ false
  pub due : is_open c ≡ false → c.front.due ≡ next_due d.cuts c.front.planned

-- Where the task of a snapshot is as long as the desk runs: it was not handed out yet; or it was; or its file is there; or that was dropped, or need
-- not be made, by a settled snapshot above it that lies 20 below an acknowledged epoch.
abbrev pub IsKept : Shelf → Desk → ℕ → ℕ → Type 0
IsKept s d p v = (d.tasks (upkeep p v) ≡ machine.waits) ⊎ ((is_among s.claimed (name.Snapshot p v) ≡ true)
    ⊎ ((d.there (name.Snapshot p v) ≡ true) ⊎ ((w : ℕ) × (v < w) × (d.sure (name.Snapshot p w) ≡ true) × (d.sure (name.Commit (w + 20)) ≡ true))))

-- The shelf shows the files of the state that the machine's desk knows, by the last acknowledged epoch, with so many epochs committed.
pub record Shelves (last : Option ℕ) (committed : ℕ) (stop : Option Cause) (s : Shelf) (d : Desk) : Type 0 where
  -- which files are there, and which of these no crash can take away
  pub names : (q : Name) → is_state q ≡ true → d.there q ≡ is_among (there_in s) q
  pub sure : (q : Name) → is_state q ≡ true → d.sure q ≡ is_among s.settled q
  -- which commits are there, and no crash can take away
  pub acknowledged : (e : ℕ) → d.sure (name.Commit e) ≡ is_up_to last e
  pub commits : (e : ℕ) → committed ≤ e → d.there (name.Commit e) ≡ false
  -- where nothing is to be settled, all snapshots are
  pub tidy : s.tidy ≡ true → (p v : ℕ) → d.there (name.Snapshot p v) ≡ true → d.sure (name.Snapshot p v) ≡ true
  -- a snapshot that is being made is with a worker
  pub claimed : (p v : ℕ) → is_among s.claimed (name.Snapshot p v) ≡ true → d.tasks (upkeep p v) ≡ machine.out
  pub kept : stop ≡ None → (p v : ℕ) → IsKept s d p v

abbrev pub ShowsShelf : Core → Shelf → Desk → Type 0
ShowsShelf c s d = Shelves (last_of c) c.front.committed c.front.stop s d

-- the machine's state that it shows: a desk never owes a Stop, since a task that comes back is one entry with the Stop that it brings about
abbrev pub life_of : Option Cause → machine.Life
life_of None = machine.running
life_of (Some f) = machine.stopped

abbrev pub shown : History → Core → Desk → machine.State
shown disk c d = record { disk = disk; desk = Some d; life = life_of c.front.stop }
