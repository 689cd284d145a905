-- Upkeep by names and numbers: which snapshot is due, and which file may go.
--
-- The state of a partition is kept by a delta for each version, and by a snapshot of one version in ten. A snapshot is due where its
-- version is acknowledged and it is not there. Once a snapshot was there at a sync of names, and lies 20 or more below the last
-- acknowledged epoch, the partition's deltas up to it and its snapshots below it may go. What may go is not due.
--
-- The two rules (`IsDueAmong`, `MayGo`) are said of which names are there, and which of these no crash can take away, so that a machine
-- over events may speak by them too. Below they are said of lists of names: those that are there, and those that were there at the last
-- sync of names.
use Rattle.std.specs.Prelude.{◌≡◌, ◌⊎◌, ◌≤◌, ◌<◌, ◌+◌, ◌%◌, nat_lt, not, ℕ, Bool, true, false, List, Option, Some, None}
use Rattle.std.specs.List.{list_any}
use Rattle.ssq_outside.specs.declared.name.Name.{Name}
use Rattle.ssq_outside.specs.declared.name.Name.TheVariants as name
use Rattle.ssq_outside.specs.Files.{same_name, name_before}

-- The snapshot of a version of a partition is due: the version is the last of ten (9, 19, 29 ..), it is acknowledged (no crash can take its commit away), and
-- its snapshot is not there. One that may go is not due: no settled snapshot above it lies 20 below an acknowledged epoch.
pub record IsDueAmong (there sure : Name → Bool) (p v : ℕ) : Type 0 where
  pub tenth : v % 10 ≡ 9
  pub acknowledged : sure (name.Commit v) ≡ true
  pub absent : there (name.Snapshot p v) ≡ false
  pub stays : (s : ℕ) → v < s → sure (name.Snapshot p s) ≡ true → sure (name.Commit (s + 20)) ≡ false

-- A file may go: of its partition there is a settled snapshot 20 below an acknowledged epoch, and the file is a snapshot below that one or
-- a delta not above it.
pub record MayGo (sure : Name → Bool) (q : Name) : Type 0 where
  pub p : ℕ
  pub s : ℕ
  pub v : ℕ
  pub snapshot : sure (name.Snapshot p s) ≡ true
  pub acknowledged : sure (name.Commit (s + 20)) ≡ true
  pub is : ((q ≡ name.Delta p v) × (v ≤ s)) ⊎ ((q ≡ name.Snapshot p v) × (v < s))

-- the name is in the list
abbrev pub is_among : List Name → Name → Bool
is_among names q = list_any (λ n. same_name n q) names

-- the epoch is acknowledged: it does not lie above the last that is
abbrev pub is_up_to : Option ℕ → ℕ → Bool
is_up_to None e = false
is_up_to (Some last) e = not (nat_lt last e)

-- No crash can take this away: it was there at the last sync of names. Which commits no crash can take away the last acknowledged epoch
-- tells.
abbrev pub is_sure : List Name → Option ℕ → Name → Bool
is_sure settled last (name.Commit e) = is_up_to last e
is_sure settled last q = is_among settled q

-- the snapshot of this version of a partition is due
abbrev pub IsDue : List Name → List Name → ℕ → Option ℕ → ℕ → Type 0
IsDue names settled partition last version = IsDueAmong (is_among names) (is_sure settled last) partition version

-- It is the first that is: due ones are made in order.
pub record IsNext (names settled : List Name) (partition : ℕ) (last : Option ℕ) (version : ℕ) : Type 0 where
  pub due : IsDue names settled partition last version
  pub first : (other : ℕ) → IsDue names settled partition last other → version ≤ other

-- a file of the state, of the first so many partitions
abbrev pub is_of : ℕ → Name → Bool
is_of partitions (name.Delta p v) = nat_lt p partitions
is_of partitions (name.Snapshot p v) = nat_lt p partitions
is_of partitions q = false

-- a file that is there may go
pub record Goes (names settled : List Name) (partitions : ℕ) (last : Option ℕ) (q : Name) : Type 0 where
  pub there : is_among names q ≡ true
  pub of : is_of partitions q ≡ true
  pub may : MayGo (is_sure settled last) q

-- it is the least of those, in the order of names
pub record IsLeast (names settled : List Name) (partitions : ℕ) (last : Option ℕ) (q : Name) : Type 0 where
  pub goes : Goes names settled partitions last q
  pub least : (other : Name) → Goes names settled partitions last other → name_before other q ≡ false
