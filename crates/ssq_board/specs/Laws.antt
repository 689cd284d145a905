-- What follows of entries: that they are legal events of the machine.
use Rattle.std.specs.Prelude.{◌≡◌, ◌≤◌, ◌<◌, ◌+◌, ◌*◌, ◌⊎◌, length, ℕ, Bool, true, false, List, [], ◌∷◌, Some, None}
use Rattle.ssq_outside.specs.Files.{Files}
use Rattle.ssq_core.specs.Course.{Cuts, Job}
use Rattle.ssq_core.specs.Machine.{Desk, opened}
use Rattle.ssq_core.specs.Machine as machine
use Rattle.std.specs.List.{list_all}
use mathlib.Core.Option.{some}
use lib.ListN.{get_elem?}
use Rattle.ssq_board.specs.declared.front.Cause.{Cause}
use Rattle.ssq_board.specs.declared.front.Place.{Place}
use Rattle.ssq_board.specs.declared.front.Place.TheVariants as place
use Rattle.ssq_board.specs.declared.front.Entry.{Entry}
use Rattle.ssq_board.specs.Core.{Scope, Core, May, IsFull, after, is_open, is_stopped, is_behind, is_here, is_of_epoch, due_stop, need, ready_of, events_all}
use Rattle.ssq_board.specs.Shown.{Start, IsStart, IsSound, first}
use Rattle.ssq_board.specs.declared.front.Entry.TheVariants as entry
use Rattle.ssq_board.specs.declared.front.Ready.TheVariants as ready
use Rattle.ssq_board.specs.Rounds.{WaitsFor, HasCap, Comes, Worked, Versioned, IsAtRest, spends, left}
use Rattle.ssq_board.specs.Told.{IsTold, IsCovered}
use Rattle.ssq_board.specs.Shelf.{Shelf, IsFirstShelf}
use Rattle.ssq_board.specs.Follows.{Terms, State, Leads, Shows, ShowsShelf, shown}

-- From a desk that the state shows, each list of entries that came is a legal list of events of the machine, and leads to a desk that
-- the state then shows.
abbrev pub FollowsMachine : Type 0 → Type 0
FollowsMachine tells = tells → (job : Job) (r : Scope) (due : Cuts → ℕ → Bool) (terms : Terms job r due) (es : List Entry) (s n : State) (d : Desk) → IsSound r s.core → d.cuts ≡ s.cuts → Shows job r due terms s.core d
    → ShowsShelf s.core s.shelf d → Leads tells job r due s es n
    → (d' : Desk) × machine.Leads tells job (shown s.disk s.core d) (events_all r s.core es) (shown n.disk n.core d') × (d'.cuts ≡ n.cuts) × Shows job r due terms n.core d' × ShowsShelf n.core n.shelf d'

-- the numbers of what was opened
pub record IsOpenedAt (job : Job) (r : Scope) (next_due : Cuts → ℕ → Bool) (terms : Terms job r next_due) (s : Start) (d : Desk) : Type 0 where
  pub start : IsStart r s
  pub committed : d.committed ≡ s.committed
  pub planned : d.planned ≡ (first r s).front.planned
  pub begins : d.cuts 0 ≡ terms.start
  pub from : d.cuts s.committed ≡ s.from
  pub to : d.cuts (first r s).front.planned ≡ s.to
  pub due : s.is_planned ≡ false → s.due ≡ next_due d.cuts s.committed

-- What the machine's Open leaves is shown by the first state.
abbrev pub FirstShows : Type 0
FirstShows = (job : Job) (r : Scope) (due : Cuts → ℕ → Bool) (terms : Terms job r due) (s : Start) (files : Files) (d : Desk) → IsOpenedAt job r due terms s d → opened job files d → IsSound r (first r s) × Shows job r due terms (first r s) d

-- The shelf where a round begins shows that desk.
abbrev pub FirstShelf : Type 0
FirstShelf = (job : Job) (r : Scope) (s : Start) (files : Files) (d : Desk) (shelf : Shelf) → d.committed ≡ s.committed → opened job files d → IsFirstShelf files shelf → ShowsShelf (first r s) shelf d

-- What is so of every state that entries lead to, whatever the disk and the logs tell; and what it means that a round is over.
abbrev pub SoundAndTold : Type 0 → Type 0
SoundAndTold tells = (job : Job) (r : Scope) (due : Cuts → ℕ → Bool) (st : Start) (es : List Entry) (s n : State) → IsStart r st → s.core ≡ first r st → Leads tells job r due s es n
    → IsSound r n.core × IsTold r st es n.core × (ready_of r n.core ≡ ready.Over → IsCovered r st es n.core)

-- what is so of a desk stays so
abbrev pub EntryKeepsSound : Type 0
EntryKeepsSound = (r : Scope) (c : Core) (e : Entry) → May r c e → IsSound r c → IsSound r (after r c e)

abbrev pub FirstIsSound : Type 0
FirstIsSound = (r : Scope) (s : Start) → IsStart r s → IsSound r (first r s)

-- What is next may come: `ready_of` names an entry that may.
pub record NamesWhatMay (r : Scope) (c : Core) : Type 0 where
  pub plan : ready_of r c ≡ ready.Plan → c.front.planned < 4294967295 → May r c (entry.Plan c.front.planned)
  pub full : ready_of r c ≡ ready.Plan → c.front.planned ≡ 4294967295 → IsFull r c
  pub task : ready_of r c ≡ ready.Task → WaitsFor c
  pub commit : ready_of r c ≡ ready.Commit → (due : Bool) → May r c (entry.Commit c.front.committed due)
  pub sync : ready_of r c ≡ ready.Sync → (c.front.stop ≡ None) × ((c.front.settled ≡ false) ⊎ ((is_open c ≡ true) × (c.front.fresh ≡ false)))
  pub over : ready_of r c ≡ ready.Over → (c.front.stop ≡ None) × (c.front.planned ≤ c.front.committed) × (c.front.settled ≡ true) × (is_behind c.ends r.available ≡ false) × (c.front.due ≡ false)

abbrev pub ReadyNames : Type 0
ReadyNames = (r : Scope) (c : Core) → NamesWhatMay r c

-- Room: what an entry spends was kept for it, and a sync spends none.
pub record Spends (r : Scope) (c : Core) : Type 0 where
  pub falls : (e : Entry) → May r c e → spends e ≡ true → need (after r c e) + 1 ≤ need c
  pub sync : (clock : ℕ) → May r c (entry.Sync clock) → need (after r c (entry.Sync clock)) ≡ need c
  pub bound : need c ≤ 2 * (length r.available + r.partitions) + 5

abbrev pub RoomIsKept : Type 0
RoomIsKept = (r : Scope) (c : Core) → IsSound r c → Spends r c

-- Each turn of a round on one thread leaves less to do.
pub record Falls (r : Scope) (c n : Core) : Type 0 where
  pub plan : HasCap r.cap → (e : ℕ) → May r c (entry.Plan e) → Comes r c n (entry.Plan e ∷ []) → left r n < left r c
  pub work : Worked r c n → left r n < left r c
  pub version : Versioned r c n → left r n < left r c
  pub sync : (clock : ℕ) → ready_of r c ≡ ready.Sync → Comes r c n (entry.Sync clock ∷ []) → left r n < left r c
  pub commit : (e : ℕ) (due : Bool) → May r c (entry.Commit e due) → Comes r c n (entry.Commit e due ∷ []) → left r n < left r c

abbrev pub TurnsFall : Type 0
TurnsFall = (r : Scope) (c n : Core) → IsSound r c → Falls r c n

-- On one thread Idle never comes: between two turns nobody has a task, each turn leaves it so or the desk stopped, and then something
-- can be done, or the round is over.
pub record Rests (r : Scope) (c n : Core) : Type 0 where
  pub never_idle : ready_of r c ≡ ready.Idle → ⊥
  pub plan : (e : ℕ) → Comes r c n (entry.Plan e ∷ []) → IsAtRest n ⊎ (is_stopped n.front.stop ≡ true)
  pub work : Worked r c n → IsAtRest n ⊎ (is_stopped n.front.stop ≡ true)
  pub version : Versioned r c n → IsAtRest n ⊎ (is_stopped n.front.stop ≡ true)
  pub sync : (clock : ℕ) → ready_of r c ≡ ready.Sync → Comes r c n (entry.Sync clock ∷ []) → IsAtRest n ⊎ (is_stopped n.front.stop ≡ true)
  pub commit : (e : ℕ) (due : Bool) → Comes r c n (entry.Commit e due ∷ []) → IsAtRest n ⊎ (is_stopped n.front.stop ≡ true)

abbrev pub TurnsRest : Type 0
TurnsRest = ((r : Scope) (s : Start) → IsAtRest (first r s)) × ((r : Scope) (c n : Core) → IsSound r c → IsAtRest c → Rests r c n)

-- The cause for which a phase stops is one that a task of it met. Where it is the epoch's own, all tasks of the phase are here, none of them
-- met a cause of the outside, and none before it met any: map tasks are in the order of lines, so a line's is the first of the epoch.
pub record IsCauseOf (ps : List Place) (f : Cause) : Type 0 where
  pub place_of : ℕ
  pub here : get_elem? ps place_of ≡ some (place.Back (Some f))
  pub first : is_of_epoch f ≡ true → (list_all is_here ps ≡ true) × ((i : ℕ) (g : Cause) → get_elem? ps i ≡ some (place.Back (Some g)) → (is_of_epoch g ≡ true) × (place_of ≤ i))

abbrev pub StopsByTheFirst : Type 0
StopsByTheFirst = (ps : List Place) (f : Cause) → due_stop ps ≡ Some f → IsCauseOf ps f
