-- A run as a list of events of the machine, and what that promises.
use Rattle.std.specs.Prelude.{◌≡◌, ◌⊎◌, ◌<◌, ◌≤◌, ◌+◌, ◌++◌, ℕ, Bool, true, false, List, [], Option, Some, None, Contains, is_some}
use Rattle.ssq_outside.specs.declared.name.Name.{Name}
use Rattle.ssq_outside.specs.declared.name.Name.TheVariants as name
use Rattle.ssq_outside.specs.Files.{Files}
use Rattle.ssq_outside.specs.History.{History, files_now, LeavesNow, LeavesOnly}
use Rattle.ssq_core.specs.declared.event.Event.{Event}
use Rattle.ssq_core.specs.Course.{Course, Cuts, Job, IsCausal, AreSameUpTo, truth}
use Rattle.ssq_core.specs.Standing.{IsThere, is_allowed}
use Rattle.ssq_core.specs.Staying.{IsNoOther}
use Rattle.ssq_core.specs.Settled.{IsSettledAs}
use Rattle.ssq_core.specs.Machine as machine
use Rattle.ssq_core.specs.Machine.{Desk, running, opened}
use Rattle.ssq_core.specs.Sound.{AreProper, StandsOrEmpty, is_state}
use Rattle.ssq_upkeep.specs.Upkeep.{IsDue, is_among}
use Rattle.ssq_core.specs.Laws.{acknowledged, HasEpoch}
use Rattle.ssq_board.specs.declared.front.Cause.{Cause}
use Rattle.ssq_board.specs.declared.front.Cause.TheVariants as cause
use Rattle.ssq_board.specs.declared.front.Entry.{Entry}
use Rattle.ssq_board.specs.Core.{Scope, is_open, is_behind, next_ends, extended}
use Rattle.ssq_board.specs.Shown.{Start, first}
use Rattle.ssq_board.specs.Shelf.{IsFirstShelf, AreListed, there_in, asked_in, last_of}
use Rattle.ssq_board.specs.Follows.{Terms, State, Leads}
use Rattle.ssq_board.specs.Laws.{IsOpenedAt}
use Rattle.ssq_board.specs.Told.{acknowledged_of}

-- the machine between two rounds: there is no desk
abbrev pub closed : History → machine.State
closed disk = record { disk = disk; desk = None; life = running }

-- From one time to a later one these events came, and these epochs were acknowledged by them, whatever events come later.
pub record WasRun (tells : Type 0) (job : Job) (start now : History) (told : List ℕ) : Type 0 where
  pub events : List Event
  pub leads : machine.Leads tells job (closed start) events (closed now)
  pub tells_of : (more : List Event) → acknowledged None (events ++ more) ≡ told ++ acknowledged None more

-- where nothing was done
abbrev pub NothingIsRun : Type 0 → Type 0
NothingIsRun tells = (job : Job) (disk : History) → WasRun tells job disk disk []

-- What a round begins on: the files are settled, and a desk of the machine opens on them with the numbers of the round.
pub record Begins (job : Job) (r : Scope) (due : Cuts → ℕ → Bool) (terms : Terms job r due) (st : Start) (s : State) : Type 0 where
  pub files : Files
  pub settled : IsSettledAs s.disk files
  pub desk : Desk
  pub is : opened job files desk
  pub at : IsOpenedAt job r due terms st desk
  pub core : s.core ≡ first r st
  pub cuts : s.cuts ≡ desk.cuts
  pub shelf : IsFirstShelf files s.shelf

-- the entries of a round's desk are a run
abbrev pub RoundIsRun : Type 0 → Type 0
RoundIsRun tells = tells → (job : Job) (r : Scope) (due : Cuts → ℕ → Bool) (terms : Terms job r due) (st : Start) (es : List Entry) (s n : State) → Begins job r due terms st s
    → Leads tells job r due s es n → WasRun tells job s.disk n.disk (acknowledged_of r st es)

abbrev pub RunsAreJoined : Type 0 → Type 0
RunsAreJoined tells = (job : Job) (start mid now : History) (told more : List ℕ) → WasRun tells job start mid told → WasRun tells job mid now more → WasRun tells job start now (told ++ more)

-- What a round left that is over: its files are settled, it knows which of the state are there, and for any cuts that are the round's as far as epochs are planned, a desk of the
-- machine opens on them.
pub record IsLeft (job : Job) (n : State) (cuts : Cuts) : Type 0 where
  pub settled : IsSettledAs n.disk (files_now n.disk)
  pub desk : Desk
  pub is : opened job (files_now n.disk) desk
  pub are : desk.cuts ≡ cuts
  pub planned : desk.planned ≡ n.core.front.planned
  pub committed : desk.committed ≡ n.core.front.committed
  pub listed : AreListed (files_now n.disk) n.shelf.settled

abbrev pub RoundLeavesFound : Type 0 → Type 0
RoundLeavesFound tells = tells → (job : Job) (r : Scope) (due : Cuts → ℕ → Bool) (terms : Terms job r due) (st : Start) (es : List Entry) (s n : State) → Begins job r due terms st s
    → Leads tells job r due s es n → n.core.front.stop ≡ None → n.core.front.settled ≡ true → n.shelf.tidy ≡ true → is_open n.core ≡ false
    → (cuts : Cuts) → AreSameUpTo cuts n.cuts n.core.front.planned → IsLeft job n cuts

-- The files are true to the course: each that is there is the true one of its name, and none is of an epoch from this one on.
pub record AreTrueTo (course : Course) (planned : ℕ) (files : Files) : Type 0 where
  pub are_true : (q : Name) → IsNoOther files q (truth course q)
  pub allowed : (q : Name) → IsThere files q → is_allowed course.keeping planned planned q ≡ true

-- So they are, and one plan more was tried: none is of an epoch from this one on, but that its plan may be there, and nothing else of it.
pub record AreTriedTo (course : Course) (planned : ℕ) (files : Files) : Type 0 where
  pub are_true : (q : Name) → IsNoOther files q (truth course q)
  pub allowed : (q : Name) → IsThere files q → (is_allowed course.keeping planned planned q ≡ true) ⊎ (q ≡ name.Plan planned)

-- a round stopped since a call of the disk failed, or memory ran out
abbrev pub CallFailed : Option Cause → Type 0
CallFailed stop = (stop ≡ Some cause.DiskFault) ⊎ (stop ≡ Some cause.NoMemory)

-- The plans of a round are those of the files that it leaves: each image is true to their cuts, and has no other plan. Or the publishing of
-- one plan more failed, so that an image may have it: which comes only where all others are done with, and is cut as the next, by lines that
-- were found so, of which it takes some, or where an epoch without lines is due.
pub data AreFilesOf (job : Job) (cap : Option ℕ) (due : Cuts → ℕ → Bool) (IsFound : List ℕ → Type 0) (AreDone : Type 0) (cuts : Cuts) (planned : ℕ) (now : History) : Type 0 where
  as_planned : LeavesNow now (AreTrueTo (job.course cuts) planned) → AreFilesOf job cap due IsFound AreDone cuts planned now
  one_tried : AreDone → (found : List ℕ) → IsFound found → (is_behind (cuts planned) found ≡ true) ⊎ (due cuts planned ≡ true)
      → LeavesNow now (AreTriedTo (job.course (extended cuts planned (next_ends cap (cuts planned) found))) planned) → AreFilesOf job cap due IsFound AreDone cuts planned now

-- Where a desk opens on settled files they are true to its cuts.
abbrev pub OpenedIsTrue : Type 0
OpenedIsTrue = (job : Job) (disk : History) (d : Desk) → IsSettledAs disk (files_now disk) → opened job (files_now disk) d → LeavesNow disk (AreTrueTo (job.course d.cuts) d.planned)

-- What a round leaves are files of its plans, for any cuts that are the round's as far as epochs are planned. One plan more was tried only where the round
-- stopped at that, by the lines that it found.
abbrev pub RoundLeavesTrue : Type 0 → Type 0
RoundLeavesTrue tells = tells → (job : Job) (r : Scope) (due : Cuts → ℕ → Bool) (terms : Terms job r due) (st : Start) (es : List Entry) (s n : State) → Begins job r due terms st s
    → Leads tells job r due s es n
    → (cuts : Cuts) → AreSameUpTo cuts n.cuts n.core.front.planned → AreFilesOf job r.cap due (λ found. found ≡ r.available) ((n.core.front.planned ≤ n.core.front.committed) × (n.core.front.settled ≡ true) × CallFailed n.core.front.stop) cuts n.core.front.planned n.disk

-- Where the snapshot of a version is due, its partition's state can be made of files: each file is the true one of its name; which of the state are
-- there is known; and each delta up to the version is there, or a snapshot below the version that stands for it.
pub record KnowsState (job : Job) (n : State) (p v : ℕ) : Type 0 where
  pub planned : v < n.core.front.planned
  pub proper : AreProper job n.cuts n.core.front.planned
  pub few : n.core.front.planned ≤ 4294967295
  pub are_true : (q : Name) → IsNoOther (files_now n.disk) q (truth (job.course n.cuts) q)
  pub there : (q : Name) → is_state q ≡ true → is_some (files_now n.disk q) ≡ is_among (there_in n.shelf) q
  pub deltas : (w : ℕ) → w ≤ v → (is_among (there_in n.shelf) (name.Delta p w) ≡ true) ⊎ ((s : ℕ) × (w ≤ s) × (s < v) × (is_among (there_in n.shelf) (name.Snapshot p s) ≡ true))

abbrev pub RoundKnowsState : Type 0 → Type 0
RoundKnowsState tells = tells → (job : Job) (r : Scope) (due : Cuts → ℕ → Bool) (terms : Terms job r due) (st : Start) (es : List Entry) (s n : State) → Begins job r due terms st s
    → Leads tells job r due s es n → n.core.front.stop ≡ None → (keeping : ℕ) → ((cuts : Cuts) → (job.course cuts).keeping ≡ keeping)
    → (p v : ℕ) → p < keeping → IsDue (asked_in n.shelf) n.shelf.settled p (last_of n.core) v → KnowsState job n p v

-- How a round went on: each epoch that it planned was to come, since some part had lines that no plan covered, or one without lines was due;
-- none that is committed has a fault; and where no epoch is open, it is known whether one without lines is due.
pub record WentOn (job : Job) (r : Scope) (due : Cuts → ℕ → Bool) (s n : State) : Type 0 where
  pub come : (e : ℕ) → s.core.front.planned ≤ e → e < n.core.front.planned → (is_behind (n.cuts e) r.available ≡ true) ⊎ (due n.cuts e ≡ true)
  pub faultless : (e : ℕ) → e < n.core.front.committed → (job.course n.cuts).is_faulty e ≡ false
  pub due_is : is_open n.core ≡ false → n.core.front.due ≡ due n.cuts n.core.front.planned

abbrev pub RoundGoesOn : Type 0 → Type 0
RoundGoesOn tells = tells → (job : Job) (r : Scope) (due : Cuts → ℕ → Bool) (terms : Terms job r due) (st : Start) (es : List Entry) (s n : State) → Begins job r due terms st s
    → Leads tells job r due s es n → WentOn job r due s n

-- Each epoch that was acknowledged by some time of a run is in each image from then on.
abbrev pub AcknowledgedAreKept : {tells : Type 0} {job : Job} {start now : History} {told : List ℕ} → WasRun tells job start now told → Type 0
AcknowledgedAreKept {tells} {job} {start} {now} run = (before after : List Event) (at : machine.State) → run.events ≡ before ++ after → machine.Leads tells job (closed start) before at → machine.Leads tells job at after (closed now)
    → (e : ℕ) → Contains (acknowledged None before) e → LeavesOnly at.disk now (HasEpoch (files_now at.disk) e)

-- What a run promises that began on these files: each image of each moment stands, or stands empty; a file that was there is in each image,
-- as it was, but for files of the state; and each epoch that was acknowledged is in each image from then on.
pub record IsKept (tells : Type 0) (job : Job) (start now : History) (files : Files) (told : List ℕ) (run : WasRun tells job start now told) : Type 0 where
  pub stands : LeavesOnly start now (StandsOrEmpty job)
  pub stays : (q : Name) → is_state q ≡ false → IsThere files q → LeavesOnly start now (λ image. image q ≡ files q)
  pub acknowledged_stay : AcknowledgedAreKept run

abbrev pub RunIsKept : Type 0 → Type 0
RunIsKept tells = tells → (job : Job) (start now : History) (files : Files) (told : List ℕ) → IsCausal job → IsSettledAs start files → StandsOrEmpty job files → (run : WasRun tells job start now told)
    → IsKept tells job start now files told run
