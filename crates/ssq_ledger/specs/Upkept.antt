-- What the calls of upkeep do to a ledger.
use Rattle.std.specs.Prelude.{◌≡◌, ◌⊎◌, ◌<◌, ℕ, Bool, true, false, [], ◌∷◌, Option, Some, None, Result, Ok, Err}
use Rattle.ssq_outside.specs.declared.name.Name.{Name}
use Rattle.ssq_upkeep.specs.Upkeep.{IsDue, IsNext, Goes, IsLeast}
use Rattle.ssq_board.specs.declared.front.Cause.{Cause}
use Rattle.ssq_board.specs.declared.front.Cause.TheVariants as cause
use Rattle.ssq_board.specs.declared.front.Entry.TheVariants as entry
use Rattle.ssq_board.specs.Core.{Core}
use Rattle.ssq_board.specs.Shelf.{Shelf, asked_in, last_of, there_in}
use Rattle.ssq_ledger.specs.Shown.{Opening, Shown, did, shelf_of}

-- of none of the first so many partitions a snapshot is due that is not being made
abbrev pub NoneIsDue : ℕ → Core → Shelf → Type 0
NoneIsDue keeping c k = (p v : ℕ) → p < keeping → IsDue (asked_in k) k.settled p (last_of c) v → ⊥

-- none of the files may go
abbrev pub NoneGoes : ℕ → Core → Shelf → Type 0
NoneGoes partitions c k = (q : Name) → Goes (there_in k) k.settled partitions (last_of c) q → ⊥

module _ {D O : Type 0} where
  -- A snapshot was asked for: none is due; or this one was handed out, the first of the first partition that has one; or memory ran out, and the ledger
  -- stopped.
  abbrev pub IsClaimed : (O → Opening) → ℕ → Shown D O → Shown D O → Result (Option (ℕ × ℕ)) Cause → Type 0
  IsClaimed opening keeping old new (Ok None) = (new ≡ old) × NoneIsDue keeping old.core (shelf_of opening old)
  IsClaimed opening keeping old new (Ok (Some at)) = (new ≡ did old old.disk (entry.Upkeep at.0 at.1 ∷ [])) × (at.0 < keeping)
      × NoneIsDue at.0 old.core (shelf_of opening old) × IsNext (asked_in (shelf_of opening old)) (shelf_of opening old).settled at.0 (last_of old.core) at.1
  IsClaimed opening keeping old new (Err f) = (f ≡ cause.NoMemory) × (new ≡ did old old.disk (entry.Stop f ∷ []))

  -- A snapshot came back sealed. Or its publishing failed, where the ledger ran, and the disk counted that.
  abbrev pub IsTaken : Shown D O → Shown D O → (p v : ℕ) → Result (Unit {0}) Cause → Type 0 → Type 0
  IsTaken old new p v result risen = ((new ≡ did old new.disk (entry.Snapshot p v ∷ [])) × (result ≡ Ok tt))
      ⊎ ((old.core.front.stop ≡ None) × (new ≡ did old new.disk (entry.Untaken p v ∷ [])) × (result ≡ Err cause.DiskFault) × risen)

  -- The first file that may go was removed; or none may go; or the removal of that one failed, and the disk counted it; or memory ran out.
  abbrev pub IsDropped : (O → Opening) → Shown D O → Shown D O → Result Bool Cause → Type 0 → Type 0
  IsDropped opening old new (Ok false) risen = (new ≡ old) × NoneGoes old.scope.partitions old.core (shelf_of opening old)
  IsDropped opening old new (Ok true) risen = (q : Name) × IsLeast (there_in (shelf_of opening old)) (shelf_of opening old).settled old.scope.partitions (last_of old.core) q × (new ≡ did old new.disk (entry.Drop q ∷ []))
  IsDropped opening old new (Err f) risen = ((f ≡ cause.NoMemory) × (new ≡ did old old.disk (entry.Stop f ∷ [])))
      ⊎ ((q : Name) × IsLeast (there_in (shelf_of opening old)) (shelf_of opening old).settled old.scope.partitions (last_of old.core) q × (f ≡ cause.DiskFault) × (new ≡ did old new.disk (entry.Undropped q ∷ [])) × risen)
