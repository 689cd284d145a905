-- The files of the state that a desk knows, and the snapshots that are being made.
use Rattle.std.specs.Prelude.{◌≡◌, ◌-◌, ◌++◌, ◌||◌, not, ℕ, zero, suc, Bool, true, false, List, [], ◌∷◌, Option, Some, None, is_some, filter, if◌then◌else◌}
use Rattle.ssq_outside.specs.declared.name.Name.{Name}
use Rattle.ssq_outside.specs.declared.name.Name.TheVariants as name
use Rattle.ssq_outside.specs.Files.{Files, same_name}
use Rattle.ssq_upkeep.specs.Upkeep.{IsDueAmong, is_among, is_sure, Goes}
use Rattle.ssq_core.specs.Sound.{is_state}
use Rattle.ssq_board.specs.declared.front.Entry.{Entry}
use Rattle.ssq_board.specs.declared.front.Entry.TheVariants as entry
use Rattle.ssq_board.specs.Core.{Scope, Core, after, is_open, is_stopped}

-- The files of the state: those that no crash can take away, and those that were published since the last sync of names; the snapshots that
-- are being made; and whether since that sync no snapshot was published and no file removed.
pub record Shelf : Type 0 where
  pub settled : List Name
  pub news : List Name
  pub claimed : List Name
  pub tidy : Bool

-- the files that are there, and with those that are being made
abbrev pub there_in : Shelf → List Name
there_in s = s.settled ++ s.news

abbrev pub asked_in : Shelf → List Name
asked_in s = there_in s ++ s.claimed

-- a name is among others no more
abbrev pub without : Name → List Name → List Name
without q names = filter (λ n. not (same_name n q)) names

-- a file is there
abbrev pub with_name : Name → Shelf → Shelf
with_name q s = record { settled = s.settled; news = (if is_among (there_in s) q then s.news else s.news ++ q ∷ []); claimed = s.claimed; tidy = s.tidy }

-- a snapshot is being made no more
abbrev pub unclaimed : Name → Shelf → Shelf
unclaimed q s = record { settled = s.settled; news = s.news; claimed = without q s.claimed; tidy = s.tidy }

-- what upkeep changed is to be settled
abbrev pub untidy : Shelf → Shelf
untidy s = record { settled = s.settled; news = s.news; claimed = s.claimed; tidy = false }

-- what an entry does, after a Stop or not
abbrev pub version_on : Bool → Name → Shelf → Shelf
version_on true q s = s
version_on false q s = with_name q s

abbrev pub snapshot_on : Bool → Name → Shelf → Shelf
snapshot_on true q s = unclaimed q s
snapshot_on false q s = untidy (with_name q (unclaimed q s))

abbrev pub shelf_by : Core → Shelf → Entry → Shelf
shelf_by c s (entry.Version t) = version_on (is_stopped c.front.stop) (name.Delta t.number t.epoch) s
shelf_by c s (entry.Sync clock) = record { settled = there_in s; news = []; claimed = s.claimed; tidy = true }
shelf_by c s (entry.Upkeep p v) = record { settled = s.settled; news = s.news; claimed = s.claimed ++ name.Snapshot p v ∷ []; tidy = s.tidy }
shelf_by c s (entry.Snapshot p v) = snapshot_on (is_stopped c.front.stop) (name.Snapshot p v) s
shelf_by c s (entry.Unmade p v f) = unclaimed (name.Snapshot p v) s
shelf_by c s (entry.Untaken p v) = unclaimed (name.Snapshot p v) s
shelf_by c s (entry.Drop q) = record { settled = without q s.settled; news = without q s.news; claimed = s.claimed; tidy = false }
shelf_by c s _ = s

-- what entries do, one after another
abbrev pub shelf_all : Scope → Core → Shelf → List Entry → Shelf
shelf_all r c s [] = s
shelf_all r c s (e ∷ es) = shelf_all r (after r c e) (shelf_by c s e) es

-- the shelf of a round that begins with these files
abbrev pub first_shelf : List Name → Shelf
first_shelf names = record { settled = names; news = []; claimed = []; tidy = true }

-- the names are those of the files of the state, among others perhaps
abbrev pub AreListed : Files → List Name → Type 0
AreListed files names = (q : Name) → is_state q ≡ true → is_among names q ≡ is_some (files q)

-- Where a round begins on files all those of the state are settled, and no snapshot is being made.
pub record IsFirstShelf (files : Files) (s : Shelf) : Type 0 where
  pub names : AreListed files s.settled
  pub news : s.news ≡ []
  pub claimed : s.claimed ≡ []
  pub tidy : s.tidy ≡ true

-- how many epochs are acknowledged: all that are committed, but for the last where names are not settled after its commit
abbrev pub acknowledged_in : Core → ℕ
acknowledged_in c = if is_open c || c.front.settled then c.front.committed else c.front.committed - 1

-- the last of the first so many epochs
abbrev pub last_before : ℕ → Option ℕ
last_before zero = None
last_before (suc n) = Some n

abbrev pub last_of : Core → Option ℕ
last_of c = last_before (acknowledged_in c)

-- What upkeep asks of files: a snapshot is handed out that is due and is not being made; what comes back was handed out; and a file is removed that
-- may go.
abbrev pub MayKeep : Scope → Core → Shelf → Entry → Type 0
MayKeep r c s (entry.Upkeep p v) = IsDueAmong (is_among (asked_in s)) (is_sure s.settled (last_of c)) p v
MayKeep r c s (entry.Snapshot p v) = is_among s.claimed (name.Snapshot p v) ≡ true
MayKeep r c s (entry.Unmade p v f) = is_among s.claimed (name.Snapshot p v) ≡ true
MayKeep r c s (entry.Untaken p v) = is_among s.claimed (name.Snapshot p v) ≡ true
MayKeep r c s (entry.Drop q) = Goes (there_in s) s.settled r.partitions (last_of c) q
MayKeep r c s (entry.Undropped q) = Goes (there_in s) s.settled r.partitions (last_of c) q
MayKeep r c s _ = Unit {0}
