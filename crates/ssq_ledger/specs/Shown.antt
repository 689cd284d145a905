-- What a ledger shows, and what is so of every ledger.
use Rattle.std.specs.Prelude.{◌≡◌, ◌⊎◌, ◌+◌, ◌≤◌, ◌^◌, ◌++◌, [], ◌∷◌, ℕ, Bool, true, false, List, length, Option, Some, None, Result, Ok, Err}
use Rattle.ssq_outside.specs.History.{History}
use Rattle.ssq_outside.specs.Faults.{Rises}
use Rattle.ssq_outside.specs.declared.gate.TaskId.{TaskId}
use Rattle.ssq_outside.specs.declared.name.Name.TheVariants as name
use Rattle.ssq_core.specs.Course.{Cuts, Job, AreSameUpTo, truth}
use Rattle.ssq_board.specs.declared.front.Cause.{Cause}
use Rattle.ssq_board.specs.declared.front.Cause.TheVariants as cause
use Rattle.std.specs.List.{list_all}
use mathlib.Core.Option.{some}
use lib.ListN.{get_elem?}
use Rattle.ssq_core.specs.Machine.{out_task}
use Rattle.ssq_board.specs.declared.front.Front.{Front}
use Rattle.ssq_board.specs.declared.front.Place.TheVariants as place
use Rattle.ssq_board.specs.declared.front.Entry.TheVariants as entry
use Rattle.ssq_board.specs.declared.front.Entry.{Entry}
use Rattle.ssq_board.specs.Core.{Scope, Core, May, need, after, after_all, cuts_all, has_line, is_open, is_fine, due}
use Rattle.ssq_board.specs.Shelf.{Shelf, shelf_all}
use Rattle.ssq_board.specs.Shown.{Start, IsStart, IsSound, first, planned_by}
use Rattle.ssq_board.specs.Follows.{State, Terms, Leads, IsOwn, BringsNone, BringsVersion}

-- What was opened: the job, its cuts so far, when an epoch without lines is due, where the round begins, and the files of the state.
pub record Opening : Type 0 where
  pub job : Job
  pub due : Cuts → ℕ → Bool
  pub cuts : Cuts
  pub start : Start
  pub shelf : Shelf

-- What a ledger shows: what was opened, with the disk as it was then; what the round has before it; the disk and what the ledger knows
-- now; and what its calls did.
pub record Shown (D O : Type 0) : Type 0 where
  pub opening : O
  pub opened : D
  pub scope : Scope
  pub disk : D
  pub core : Core
  pub history : List Entry

abbrev pub state : History → Core → Shelf → Cuts → State
state disk core shelf cuts = record { disk = disk; core = core; shelf = shelf; cuts = cuts }

-- the cuts of the epochs that are planned by these entries
abbrev pub cuts_after : Opening → Scope → List Entry → Cuts
cuts_after o r es = cuts_all r o.cuts (first r o.start) es

-- the files of the state after these entries, and the snapshots that are being made
abbrev pub shelf_after : Opening → Scope → List Entry → Shelf
shelf_after o r es = shelf_all r (first r o.start) o.shelf es

-- the state where a round begins
abbrev pub first_state : Opening → Scope → History → State
first_state o r opened = state opened (first r o.start) o.shelf o.cuts

-- What the plans of a job tell: where the cuts end, and a watermark that hangs on the epochs before.
pub record TellsPlans (job : Job) : Type 0 where
  pub ends : (cuts : Cuts) (e : ℕ) → (job.course cuts).ends e ≡ cuts e
  pub watermark : (cuts other : Cuts) (e : ℕ) → AreSameUpTo cuts other e → (job.course cuts).watermark e ≡ (job.course other).watermark e

pub record IsLedger (tells : Type 0) (o : Opening) (opened : History) (r : Scope) (disk : History) (core : Core) (entries : List Entry) (capacity : ℕ) : Type 0 where
  -- the entries may come one after another, and lead to what the ledger is: with the disk as it is, where it tells that
  pub until : History
  pub is_disk : tells → until ≡ disk
  pub leads : Leads tells o.job r o.due (first_state o r opened) entries (state until core (shelf_after o r entries) (cuts_after o r entries))
  pub start : IsStart r o.start
  -- what its numbers rest on
  pub terms : tells → Terms o.job r o.due
  pub plans : TellsPlans o.job
  -- there is room for all entries that can still come
  pub room : length entries + need core ≤ capacity
  pub few : length r.available + r.partitions ≤ 2 ^ 32

module _ {D O : Type 0} where
  -- the cuts of the epochs that are planned
  abbrev pub cuts_of : (O → Opening) → Shown D O → Cuts
  cuts_of opening s = cuts_after (opening s.opening) s.scope s.history

  -- the files of the state, and the snapshots that are being made
  abbrev pub shelf_of : (O → Opening) → Shown D O → Shelf
  shelf_of opening s = shelf_after (opening s.opening) s.scope s.history

  -- the ledger's history is legal from what was opened, and leads to what it is
  abbrev pub IsLegal : Type 0 → (D → History) → (O → Opening) → Shown D O → Type 0
  IsLegal tells history opening s = (until : History) × (tells → until ≡ history s.disk)
      × Leads tells (opening s.opening).job s.scope (opening s.opening).due (first_state (opening s.opening) s.scope (history s.opened)) s.history (state until s.core (shelf_of opening s) (cuts_of opening s))

  -- where disk and logs tell what they hold, it leads to the disk as it is
  abbrev pub LeadsHere : Type 0 → (D → History) → (O → Opening) → Shown D O → Type 0
  LeadsHere tells history opening s = Leads tells (opening s.opening).job s.scope (opening s.opening).due (first_state (opening s.opening) s.scope (history s.opened)) s.history
      (state (history s.disk) s.core (shelf_of opening s) (cuts_of opening s))

  -- a result is its task's own
  abbrev pub IsTrue : (O → Opening) → Shown D O → TaskId → Option Cause → Type 0
  IsTrue opening s t f = IsOwn ((opening s.opening).job.course (cuts_of opening s)) t f

  -- it brings no version of a partition's state; or it does, and these are the bytes of its delta
  abbrev pub HasNone : (O → Opening) → Shown D O → TaskId → Option Cause → Type 0
  HasNone opening s t f = BringsNone ((opening s.opening).job.course (cuts_of opening s)) t f

  abbrev pub HasVersion : (O → Opening) → Shown D O → TaskId → List ℕ → Type 0
  HasVersion opening s t bytes = BringsVersion ((opening s.opening).job.course (cuts_of opening s)) t × (bytes ≡ truth ((opening s.opening).job.course (cuts_of opening s)) (name.Delta t.number t.epoch))

  -- These entries came. The disk is what it is now.
  abbrev pub did : Shown D O → D → List Entry → Shown D O
  did s disk es = record { opening = s.opening; opened = s.opened; scope = s.scope; disk = disk; core = after_all s.scope s.core es; history = s.history ++ es }

-- all map and reduce tasks are back without a fault, or were not there
pub record AreBack (c : Core) : Type 0 where
  pub maps : list_all is_fine c.maps ≡ true
  pub reduces : list_all is_fine c.reduces ≡ true

-- What is so of each ledger, by its history.
pub record IsInOrder (r : Scope) (c : Core) : Type 0 where
  pub sound : IsSound r c
  pub few : length r.available + r.partitions ≤ 2 ^ 32
  -- between epochs all tasks are back, the out task too
  pub between : is_open c ≡ false → AreBack c
  pub out_between : is_open c ≡ false → list_all is_fine c.outs ≡ true
  -- as long as the out task is away its rows are not published
  pub unwritten : get_elem? c.outs 0 ≡ some place.Away → c.front.written ≡ false
  -- once it is back without a fault, and the ledger runs, they may be
  pub brings : (e : ℕ) → c.front.stop ≡ None → May r c (entry.Report (out_task e) None) → May r (after r c (entry.Report (out_task e) None)) (entry.OutFile c.front.committed)

-- the counts where a round begins
abbrev pub first_front : Start → Front
first_front s = record { planned = planned_by s.is_planned s.committed; committed = s.committed; fresh = true; settled = true; written = false; has_lines = has_line s.from s.to; due = s.due; stop = None }

-- why there is no next plan: as many epochs are planned as there may be, or memory ran out
abbrev pub IsNoPlan : ℕ → Cause → Type 0
IsNoPlan planned cause.Full = planned ≡ 4294967295
IsNoPlan planned cause.NoMemory = Unit {0}
IsNoPlan planned _ = ⊥

-- a Stop as a call's answer
abbrev pub answer : Option Cause → Result (Unit {0}) Cause
answer None = Ok tt
answer (Some f) = Err f

-- A version came back: the Stop that this brings about is the answer. Or its publishing failed, where the ledger ran, and the disk counted that.
module _ {D O : Type 0} where
  abbrev pub IsVersioned : Shown D O → Shown D O → TaskId → Result (Unit {0}) Cause → Type 0 → Type 0
  IsVersioned old new t result risen = ((new ≡ did old new.disk (entry.Version t ∷ [])) × (result ≡ answer (due old.core t None)))
      ⊎ ((old.core.front.stop ≡ None) × (new ≡ did old new.disk (entry.Missed t ∷ [])) × (result ≡ Err cause.DiskFault) × risen)

-- why a call of the disk failed: the disk counted a fault, or memory ran out
abbrev pub HasRisen : Cause → ℕ → ℕ → Type 0
HasRisen cause.DiskFault before now = Rises before now
HasRisen cause.NoMemory before now = Unit {0}
HasRisen _ before now = ⊥

-- why no epoch was planned: as many are planned as there may be, or a call of the disk failed
abbrev pub IsUnplanned : ℕ → ℕ → ℕ → Cause → Type 0
IsUnplanned planned before now cause.Full = planned ≡ 4294967295
IsUnplanned planned before now f = HasRisen f before now
