-- The snapshots that a desk hands out, and how they are taken back.
use Rattle.std.specs.Prelude.{◌≡◌, ◌⊎◌, ◌<◌, ◌+◌, ◌-◌, ◌++◌, ℕ, zero, suc, true, List, [], ◌∷◌, map, All, Option, Some, None, IfSome, Result, Ok, Err, IfOk, IfErr, OnOk}
use Rattle.std.specs.List.{find}
use Rattle.std.specs.Option.{is_none}
use Rattle.ssq_outside.specs.declared.name.Name.{Name}
use Rattle.ssq_outside.specs.declared.name.Name.TheVariants as name
use Rattle.ssq_outside.specs.Files.{Files}
use Rattle.ssq_outside.specs.History.{History}
use Rattle.ssq_meaning.specs.Meaning.{Line}
use Rattle.ssq_upkeep.specs.Upkeep.{IsNext, is_among}
use Rattle.ssq_version.specs.State.{State}
use Rattle.ssq_version.specs.Text.{snapshot_text}
use Rattle.ssq_store.specs.declared.fault.SnapshotFault.{SnapshotFault}
use Rattle.ssq_store.specs.declared.fault.SnapshotFault.TheVariants as snapshot
use Rattle.ssq_store.specs.Fault.{SnapshotRises, IsApart}
use Rattle.ssq_store.specs.Loaded.{files_in, Makes, IsDamaged, SnapshotFails}
use Rattle.ssq_core.specs.Course.{Course, truth}
use Rattle.ssq_course.specs.Setting.{course_of}
use Rattle.ssq_board.specs.declared.front.Cause.{Cause}
use Rattle.ssq_board.specs.declared.front.Cause.TheVariants as cause
use Rattle.ssq_board.specs.declared.front.Entry.TheVariants as entry
use Rattle.ssq_board.specs.Shelf.{asked_in, last_of}
use Rattle.ssq_ledger.specs.Names.{IsNewestBelow}
use Rattle.ssq_ledger.specs.Shown.{Opening, Shown, HasRisen, cuts_of, did, shelf_of}
use Rattle.ssq_ledger.specs.Upkept.{IsTaken, NoneIsDue}
use Rattle.ssq_desk.specs.declared.upkeep.UpkeepTask.{UpkeepTask}
use Rattle.ssq_desk.specs.declared.upkeep.UpkeepDone.{UpkeepDone}
use Rattle.ssq_desk.specs.declared.round.Round.{Round}
use Rattle.ssq_desk.specs.Round.{Owns, setting_of}
use Rattle.ssq_desk.specs.Whole.{opening_in}

-- so many deltas of a partition, from this version on
abbrev pub deltas_from : (p from count : ℕ) → List Name
deltas_from p from zero = []
deltas_from p from (suc count) = name.Delta p from ∷ deltas_from p (from + 1) count

-- the first of these names at which nothing stands
abbrev pub first_missing : Files → List Name → Option Name
first_missing files names = find (λ q. is_none (files q)) names

-- One of these files was not found: where the disk tells what it holds, it is the first that is not there.
abbrev pub IsNotFound : (tells : Type 0) → Files → List Name → Name → Type 0
IsNotFound tells files names q = (is_among names q ≡ true) × (tells → first_missing files names ≡ Some q)

-- The files that make the state of a partition at a version: the newest snapshot below it, where there is one, and the deltas after that.
abbrev pub files_for : (p v : ℕ) → Option ℕ → List Name
files_for p v None = deltas_from p 0 (v + 1)
files_for p v (Some below) = name.Snapshot p below ∷ deltas_from p (below + 1) (v - below)

-- the names of files
abbrev pub names_in : List (Name × List ℕ) → List Name
names_in files = map (λ file. file.0) files

-- A snapshot that is to be made has the files that make its state, each of which was read, and a file aside. What is said of contents holds under
-- the premise: the state that the files make is that of the snapshot's true bytes, and the file aside is empty.
pub record IsUpkeepTask {S : Type 0} (owned : Type 0) (written : S → List ℕ) (faults : S → ℕ) (course : Course) (task : UpkeepTask S) : Type 0 where
  pub below : Option ℕ
  pub older : IfSome below (λ b. b < task.version)
  pub are : names_in task.files.items ≡ files_for task.partition task.version below
  pub state : owned → (state : State) × Makes (files_in task.files.items) task.partition (task.version + 1) state
      × (truth course (name.Snapshot task.partition task.version) ≡ snapshot_text task.partition task.version state)
  pub empty : owned → written task.stage ≡ []
  pub fresh : faults task.stage ≡ 0

-- These files were read, those that make the state, by the names that were there; and where the disk tells that, this is what they hold.
pub record IsReadBy (tells : Type 0) (files : Files) (p v : ℕ) (names : List Name) (read : List (Name × List ℕ)) : Type 0 where
  pub below : Option ℕ
  pub newest : IsNewestBelow p v names below
  pub are : names_in read ≡ files_for p v below
  pub found : tells → All (λ file. files file.0 ≡ Some file.1) read

abbrev pub AreReadFor : {S : Type 0} → Type 0 → Files → List Name → UpkeepTask S → Type 0
AreReadFor tells files names task = IsReadBy tells files task.partition task.version names task.files.items

-- What came of it: the sealed file has the state that the files make; or one of these is damaged, the file aside failed, or memory ran out.
pub record IsUpkeepDone {S F : Type 0} (tells : Type 0) (written : S → List ℕ) (sealed : F → List ℕ) (faults : S → ℕ) (task : UpkeepTask S) (done : UpkeepDone S F) : Type 0 where
  pub partition_is : done.partition ≡ task.partition
  pub version_is : done.version ≡ task.version
  pub made : OnOk done.outcome ((state : State) × Makes (files_in task.files.items) task.partition (task.version + 1) state)
  pub sealed_is : tells → IfOk done.outcome (λ file. (state : State) × Makes (files_in task.files.items) task.partition (task.version + 1) state
      × (sealed file ≡ written task.stage ++ snapshot_text task.partition task.version state))
  pub damaged : IfErr done.outcome (λ failed. SnapshotFails (files_in task.files.items) task.partition (task.version + 1) failed.1)
  pub risen : IfErr done.outcome (λ failed. SnapshotRises failed.1 (faults task.stage) (faults failed.0))
  pub unfailed : IfErr done.outcome (λ failed. IsApart failed.1 (faults task.stage) (faults failed.0))

-- why no snapshot was made
abbrev pub cause_of_snapshot : SnapshotFault → Cause
cause_of_snapshot (snapshot.Damaged q) = cause.Damaged q
cause_of_snapshot snapshot.DiskFault = cause.DiskFault
cause_of_snapshot snapshot.NoMemory = cause.NoMemory

-- a file is not damaged where what was opened is the job's own
abbrev pub NeverDamaged : Type 0 → SnapshotFault → Type 0
NeverDamaged owned (snapshot.Damaged q) = owned → ⊥
NeverDamaged owned snapshot.DiskFault = Unit {0}
NeverDamaged owned snapshot.NoMemory = Unit {0}

-- Why upkeep fails: this file is damaged, the disk counted a fault, or memory ran out.
abbrev pub FailsFor : (Name → Type 0) → (before now : ℕ) → Cause → Type 0
FailsFor IsBad before now (cause.Damaged q) = IsBad q
FailsFor IsBad before now f = HasRisen f before now

-- A file that makes the state, by the names that were there, was not found.
pub record IsUnread (tells : Type 0) (files : Files) (p v : ℕ) (names : List Name) (q : Name) : Type 0 where
  pub below : Option ℕ
  pub newest : IsNewestBelow p v names below
  pub unfound : IsNotFound tells files (files_for p v below) q

-- and that is never so where what was opened is the job's own
abbrev pub IsMissing : (tells owned : Type 0) → Files → (p v : ℕ) → List Name → Name → Type 0
IsMissing tells owned files p v names q = IsUnread tells files p v names q × (owned → ⊥)

-- One of the files that were read is the first that is malformed; and never where what was opened is the job's own.
pub record IsMalformed (owned : Type 0) (files : List (Name × List ℕ)) (p v : ℕ) (q : Name) : Type 0 where
  pub among : is_among (names_in files) q ≡ true
  pub is : IsDamaged (files_in files) p (v + 1) q
  pub never : owned → ⊥

module _ {D O : Type 0} (opening : O → Opening) where
  -- the snapshot of this version is the next that is due: the first of the first partition that has one, of the first so many
  abbrev pub IsNextDue : ℕ → Shown D O → (p v : ℕ) → Type 0
  IsNextDue keeping s p v = (p < keeping) × NoneIsDue p s.core (shelf_of opening s) × IsNext (asked_in (shelf_of opening s)) (shelf_of opening s).settled p (last_of s.core) v

  -- A snapshot was asked for: none is due; or this one was handed out, the next that is; or memory ran out for that; or it was handed out, could not
  -- be begun, and came back at once, which stopped the desk.
  abbrev pub IsHandedOut : {S : Type 0} → ℕ → (IsMissing : (p v : ℕ) → Name → Type 0) → (before now : ℕ) → (old new : Shown D O) → Result (Option (UpkeepTask S)) Cause → Type 0
  IsHandedOut keeping IsMissing before now old new (Ok None) = (new ≡ old) × NoneIsDue keeping old.core (shelf_of opening old)
  IsHandedOut keeping IsMissing before now old new (Ok (Some task)) = (new ≡ did old new.disk (entry.Upkeep task.partition task.version ∷ [])) × IsNextDue keeping old task.partition task.version
  IsHandedOut keeping IsMissing before now old new (Err f) = ((f ≡ cause.NoMemory) × (new ≡ did old old.disk (entry.Stop f ∷ [])))
      ⊎ ((p v : ℕ) × IsNextDue keeping old p v × (new ≡ did old new.disk (entry.Upkeep p v ∷ entry.Unmade p v f ∷ [])) × FailsFor (IsMissing p v) before now f)

module _ {D O S F : Type 0} where
  -- How it is taken back: the sealed file as the ledger takes it, and else what came in its place.
  abbrev pub IsTakenBack : (old new : Shown D O) → (p v : ℕ) → Result F (S × SnapshotFault) → Result (Unit {0}) Cause → Type 0 → Type 0
  IsTakenBack old new p v (Ok file) result risen = IsTaken old new p v result risen
  IsTakenBack old new p v (Err failed) result risen = (new ≡ did old new.disk (entry.Unmade p v (cause_of_snapshot failed.1) ∷ [])) × (result ≡ Err (cause_of_snapshot failed.1))

module _ {D L : Type 0} (stores logs : Type 0) (history : D → History) (lines : L → List Line) where
  -- it is one of a desk
  abbrev pub IsUpkeepOf : {S : Type 0} → (S → List ℕ) → (S → ℕ) → Shown D (Round L) → UpkeepTask S → Type 0
  IsUpkeepOf written faults shown task = IsUpkeepTask (Owns stores logs history lines shown) written faults (course_of (setting_of lines shown.opening) (cuts_of (opening_in lines) shown)) task
