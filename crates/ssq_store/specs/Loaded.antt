-- What the files of a partition's state make.
use Rattle.std.specs.Prelude.{◌≡◌, ◌⊎◌, ℕ, zero, suc, ◌+◌, ◌<◌, ◌≤◌, ◌^◌, List, [], ◌∷◌, length, if◌then◌else◌, Option, Some, None, IsSome, ⊤}
use Rattle.ssq_outside.specs.declared.name.Name.{Name}
use Rattle.ssq_outside.specs.declared.name.Name.TheVariants as name
use Rattle.ssq_outside.specs.Files.{Content, Files, same_name}
use Rattle.ssq_store.specs.declared.fault.SnapshotFault.{SnapshotFault}
use Rattle.ssq_store.specs.declared.fault.SnapshotFault.TheVariants as snapshot_fault
use Rattle.ssq_version.specs.State.{State, Change, IsState, IsChange, IsBetween, AreNews}
use Rattle.ssq_version.specs.Text.{delta_text, snapshot_text}
use Rattle.ssq_store.specs.declared.fault.StoreFault.{StoreFault}
use Rattle.ssq_store.specs.declared.fault.StoreFault.TheVariants as fault

-- how many versions there are up to this one: none before the first
abbrev pub count_to : Option ℕ → ℕ
count_to None = 0
count_to (Some version) = version + 1

-- What stands there is the file of this state, at a version of a partition.
pub record IsSnapshot (content : Content) (partition version : ℕ) (state : State) : Type 0 where
  pub kept : IsState state
  pub few : length state < 2 ^ 64
  pub is : content ≡ Some (snapshot_text partition version state)

-- What stands there is the file of what a version of a partition changed, from the old state to the new one.
pub record IsDelta (content : Content) (partition version : ℕ) (old new : State) : Type 0 where
  pub change : Change
  pub kept : IsChange change
  pub few : length change < 2 ^ 64
  pub between : IsBetween old new change
  pub is : content ≡ Some (delta_text partition version change)
  pub state : IsState new

-- it is the file of no state
abbrev pub IsNoSnapshot : Content → ℕ → ℕ → Type 0
IsNoSnapshot content partition version = (state : State) → IsSnapshot content partition version state → ⊥

-- it is the file of no change of that state
abbrev pub IsNoDelta : Content → ℕ → ℕ → State → Type 0
IsNoDelta content partition version old = (new : State) → IsDelta content partition version old new → ⊥

-- by what stands at a version's snapshot: that is the state, or else it comes otherwise
abbrev pub ByEither : Content → ℕ → ℕ → State → Type 0 → Type 0
ByEither None partition version state otherwise = otherwise
ByEither (Some bytes) partition version state otherwise = IsSnapshot (Some bytes) partition version state

-- The files make this state of a partition after so many versions. Before the first it is empty. After a version it is that of the
-- version's snapshot, where that is there, and else the state before the version with the version's change. So it comes from the newest
-- snapshot and the changes after it, and no other file has to do with it.
unfoldable pub Makes : Files → ℕ → ℕ → State → Type 0
Makes files partition zero state = state ≡ []
Makes files partition (suc version) state =
    ByEither (files (name.Snapshot partition version)) partition version state
    ((old : State) × Makes files partition version old × IsDelta (files (name.Delta partition version)) partition version old state)

-- by what stands at a version's snapshot: that is damaged, or else another file is
abbrev pub DamagedByEither : Content → ℕ → ℕ → Name → Type 0 → Type 0
DamagedByEither None partition version at otherwise = otherwise
DamagedByEither (Some bytes) partition version at otherwise = (at ≡ name.Snapshot partition version) × IsNoSnapshot (Some bytes) partition version

-- The first file that is needed for the state of a partition after so many versions, and is missing or malformed: a snapshot that is
-- the file of no state, or a delta that is the file of no change of the state before it.
unfoldable pub IsDamaged : Files → ℕ → ℕ → Name → Type 0
IsDamaged files partition zero at = ⊥
IsDamaged files partition (suc version) at =
    DamagedByEither (files (name.Snapshot partition version)) partition version at
    (IsDamaged files partition version at
    ⊎ ((old : State) × Makes files partition version old × (at ≡ name.Delta partition version) × IsNoDelta (files (name.Delta partition version)) partition version old))

-- why a state is not loaded; a fault of the outside may come at any time
abbrev pub Refuses : Files → ℕ → ℕ → StoreFault → Type 0
Refuses files partition count (fault.Damaged at) = IsDamaged files partition count at
Refuses files partition count fault.DiskFault = ⊤
Refuses files partition count fault.NoMemory = ⊤

-- no version from `from` up to `count` has a snapshot
abbrev pub HaveNone : Files → ℕ → ℕ → ℕ → Type 0
HaveNone files partition from count = (version : ℕ) → from ≤ version → version < count → files (name.Snapshot partition version) ≡ None

-- What stands there is the file of a change that says nothing but what is new to the state before it.
pub record IsTold (content : Content) (partition version : ℕ) (old : State) (change : Change) : Type 0 where
  pub kept : IsChange change
  pub few : length change < 2 ^ 64
  pub new : AreNews old change
  pub is : content ≡ Some (delta_text partition version change)

-- why the state in a snapshot, or the change in a delta, is not read
abbrev pub SnapshotRefuses : Content → ℕ → ℕ → StoreFault → Type 0
SnapshotRefuses content partition version (fault.Damaged at) = (at ≡ name.Snapshot partition version) × IsSome content × IsNoSnapshot content partition version
SnapshotRefuses content partition version fault.DiskFault = ⊤
SnapshotRefuses content partition version fault.NoMemory = ⊤

abbrev pub DeltaRefuses : Content → ℕ → ℕ → State → StoreFault → Type 0
DeltaRefuses content partition version old (fault.Damaged at) = (at ≡ name.Delta partition version) × IsNoDelta content partition version old
DeltaRefuses content partition version old fault.DiskFault = ⊤
DeltaRefuses content partition version old fault.NoMemory = ⊤

-- ---- files in a list

-- what stands under a name in a list of files: the first of that name
abbrev pub content_in : List (Name × List ℕ) → Name → Content
content_in [] name = None
content_in (file ∷ files) name = if same_name file.0 name then Some file.1 else content_in files name

abbrev pub files_in : List (Name × List ℕ) → Files
files_in files = λ name. content_in files name

-- why a snapshot is not sealed; memory may run out, and the file aside fail, at any time
abbrev pub SnapshotFails : Files → ℕ → ℕ → SnapshotFault → Type 0
SnapshotFails files partition count (snapshot_fault.Damaged at) = IsDamaged files partition count at
SnapshotFails files partition count snapshot_fault.DiskFault = ⊤
SnapshotFails files partition count snapshot_fault.NoMemory = ⊤

-- The files of a partition are true to these states, its state after each number of versions: each snapshot is that of its version, and
-- each delta from a floor on is there and that of its version. The floor is the first version, or after a snapshot.
pub record AreTrue (files : Files) (partition count floor : ℕ) (states : ℕ → State) : Type 0 where
  pub first : states 0 ≡ []
  pub snapshots : (version : ℕ) → version < count → IsSome (files (name.Snapshot partition version)) → IsSnapshot (files (name.Snapshot partition version)) partition version (states (suc version))
  pub deltas : (version : ℕ) → floor ≤ version → version < count → IsDelta (files (name.Delta partition version)) partition version (states version) (states (suc version))
  pub base : (floor ≡ 0) ⊎ ((version : ℕ) × (floor ≡ suc version) × (version < count) × IsSome (files (name.Snapshot partition version)))
