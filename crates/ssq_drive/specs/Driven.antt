-- What a round on one thread does to its desk.
use Rattle.std.specs.Prelude.{◌≡◌, ◌⊎◌, ◌<◌, ◌≤◌, ◌+◌, not, ℕ, zero, suc, Bool, true, false, List, [], ◌∷◌, Some, None, IfSome}
use Rattle.std.specs.List.{list_any}
use Rattle.ssq_outside.specs.declared.name.Name.{Name}
use Rattle.ssq_outside.specs.declared.name.Name.TheVariants as name
use Rattle.ssq_outside.specs.Faults.{Rises}
use Rattle.ssq_upkeep.specs.Upkeep.{is_among}
use Rattle.ssq_board.specs.declared.front.Cause.{Cause}
use Rattle.ssq_board.specs.declared.front.Cause.TheVariants as cause
use Rattle.ssq_board.specs.declared.front.Entry.{Entry}
use Rattle.ssq_board.specs.declared.front.Entry.TheVariants as entry
use Rattle.ssq_board.specs.declared.front.Ready.TheVariants as ready
use Rattle.ssq_board.specs.Core.{Scope, Core, IsFull, is_open, is_stopped, ready_of, with_front, synced_front}
use Rattle.ssq_board.specs.Rounds.{IsAtRest, left, one_if}
use Rattle.ssq_board.specs.Shelf.{Shelf, acknowledged_in, shelf_all, there_in}
use Rattle.ssq_ledger.specs.Shown.{Opening, Shown, did, shelf_of}
use Rattle.ssq_ledger.specs.Upkept.{NoneIsDue, NoneGoes}

-- Why a desk stopped, whose disk had counted so many faults before, and so many now. The disk failed only where it counted that; the
-- limit of epochs is met only where so many are planned, and one more was to be; a file is found damaged only where it is; and a log fails only as an
-- open epoch reads it. What else lines, keys and logs brought is not told here.
abbrev pub StopsFor : (IsDamaged : Name → Type 0) → Scope → Core → (before now : ℕ) → Cause → Type 0
StopsFor IsDamaged r c before now cause.DiskFault = Rises before now
StopsFor IsDamaged r c before now cause.Full = IsFull r c
StopsFor IsDamaged r c before now (cause.Damaged q) = IsDamaged q
StopsFor IsDamaged r c before now cause.LogFault = is_open c ≡ true
StopsFor IsDamaged r c before now _ = Unit {0}

-- no file is
abbrev pub no_file : Name → Type 0
no_file q = ⊥

-- a commit after which an epoch without lines is due
abbrev pub brings_due : Entry → Bool
brings_due (entry.Commit e due) = due
brings_due _ = false

-- Upkeep is done: what it changed is settled, no snapshot is due of the first so many partitions that is not being made, and no file may go.
pub record IsUpkept (keeping partitions : ℕ) (c : Core) (s : Shelf) : Type 0 where
  pub tidy : s.tidy ≡ true
  pub none_due : NoneIsDue keeping c s
  pub none_goes : NoneGoes partitions c s

-- A round ended: all that was found is covered, committed and settled, and upkeep is done; or the desk stopped.
abbrev pub IsEnded : {D O : Type 0} → (O → Opening) → (keeping : ℕ) → Shown D O → Type 0
IsEnded opening keeping shown = ((ready_of shown.scope shown.core ≡ ready.Over) × IsUpkept keeping shown.scope.partitions shown.core (shelf_of opening shown)) ⊎ (ready_of shown.scope shown.core ≡ ready.Stopped)

-- what a desk knows, once names are settled
abbrev pub rested : Core → Core
rested c = with_front c (synced_front c.front)

-- how many of a partition's first so many versions have no snapshot among these names
unfoldable pub lacking : List Name → (p n : ℕ) → ℕ
lacking names p zero = 0
lacking names p (suc n) = one_if (not (is_among names (name.Snapshot p n))) + lacking names p n

-- and of all of so many partitions
unfoldable pub lacking_in : List Name → (partitions n : ℕ) → ℕ
lacking_in names zero n = 0
lacking_in names (suc p) n = lacking names p n + lacking_in names p n

-- what upkeep has left to make
abbrev pub unmade : ℕ → Core → Shelf → ℕ
unmade keeping c s = lacking_in (there_in s) keeping (acknowledged_in c)

module _ {D O : Type 0} where
  module _ (faults : D → ℕ) (IsDamaged : Shown D O → Name → Type 0) (closing : Bool) where
    -- What was done on one thread to a desk, whose query closes or does not.
    pub record IsDriven (old new : Shown D O) : Type 0 where
      -- entries came, and nothing else
      pub entries : (es : List Entry) × (new ≡ did old new.disk es)
      -- after none of them an epoch without lines is due, where the query does not close
      pub quiet : closing ≡ false → list_any brings_due entries.0 ≡ false
      -- no snapshot is being made where none was
      pub returned : (k : Shelf) → k.claimed ≡ [] → (shelf_all old.scope old.core k entries.0).claimed ≡ []
      -- none where the desk was stopped
      pub stopped : (f : Cause) → old.core.front.stop ≡ Some f → new ≡ old
      -- nobody has a task
      pub rest : IsAtRest new.core
      -- where the desk stopped, it was for this
      pub cause : old.core.front.stop ≡ None → IfSome new.core.front.stop (StopsFor (IsDamaged new) old.scope new.core (faults old.disk) (faults new.disk))
      pub counted : faults old.disk ≤ faults new.disk

    -- upkeep on a desk that runs: it knows what it knew, but that names may be settled; or it stopped
    pub record KeepsUp (old new : Shown D O) : Type 0 where
      pub driven : IsDriven old new
      pub same : (new.core ≡ old.core) ⊎ ((new.core ≡ rested old.core) ⊎ (is_stopped new.core.front.stop ≡ true))

  -- one turn: the desk ran, and now there is less to do
  pub record IsTurn (faults : D → ℕ) (closing : Bool) (old new : Shown D O) : Type 0 where
    pub running : old.core.front.stop ≡ None
    pub less : left old.scope new.core < left old.scope old.core
    pub driven : IsDriven faults (λ shown. no_file) closing old new

  -- A snapshot was asked for: none is due; or the next that was due was made.
  abbrev pub IsMade : (O → Opening) → (keeping : ℕ) → (old new : Shown D O) → Bool → Type 0
  IsMade opening keeping old new false = (new ≡ old) × NoneIsDue keeping old.core (shelf_of opening old)
  IsMade opening keeping old new true = (new.core ≡ old.core) × (unmade keeping new.core (shelf_of opening new) < unmade keeping old.core (shelf_of opening old))

  -- names are settled: nothing was to be, or they were synced
  abbrev pub IsTidied : (O → Opening) → (old new : Shown D O) → Type 0
  IsTidied opening old new = ((new ≡ old) × ((shelf_of opening old).tidy ≡ true)) ⊎ ((clock : ℕ) × (new ≡ did old new.disk (entry.Sync clock ∷ [])))

  -- Files were removed until none may go: what was not due is not, and no file is new where none was.
  pub record IsCleared (opening : O → Opening) (keeping : ℕ) (old new : Shown D O) : Type 0 where
    pub core : new.core ≡ old.core
    pub none_due : NoneIsDue keeping old.core (shelf_of opening old) → NoneIsDue keeping new.core (shelf_of opening new)
    pub news : (shelf_of opening old).news ≡ [] → (shelf_of opening new).news ≡ []
    pub none_goes : NoneGoes new.scope.partitions new.core (shelf_of opening new)
