-- How faults of the outside become faults of a store.
use Rattle.std.specs.Prelude.{◌≡◌, ℕ, ⊤}
use Rattle.ssq_outside.specs.Faults.{Rises}
use Rattle.ssq_outside.specs.declared.disk.DiskError.{DiskError}
use Rattle.ssq_outside.specs.declared.disk.DiskError.TheVariants as disk
use Rattle.ssq_outside.specs.declared.disk.StageError.{StageError}
use Rattle.ssq_outside.specs.declared.disk.StageError.TheVariants as stage
use Rattle.ssq_store.specs.declared.fault.StoreFault.{StoreFault}
use Rattle.ssq_store.specs.declared.fault.StoreFault.TheVariants as store
use Rattle.ssq_store.specs.declared.fault.SealFault.{SealFault}
use Rattle.ssq_store.specs.declared.fault.SealFault.TheVariants as seal
use Rattle.ssq_store.specs.declared.fault.SnapshotFault.{SnapshotFault}
use Rattle.ssq_store.specs.declared.fault.SnapshotFault.TheVariants as snapshot

abbrev pub fault_of_disk : DiskError → StoreFault
fault_of_disk disk.Fault = store.DiskFault
fault_of_disk disk.NoMemory = store.NoMemory

abbrev pub fault_of_stage : StageError → SealFault
fault_of_stage stage.Fault = seal.DiskFault
fault_of_stage stage.NoMemory = seal.NoMemory

-- a fault of a disk is told only where it was counted
abbrev pub DiskRises : StoreFault → ℕ → ℕ → Type 0
DiskRises (store.Damaged name) before now = ⊤
DiskRises store.DiskFault before now = Rises before now
DiskRises store.NoMemory before now = ⊤

-- a fault of a file aside is told only where it was counted
abbrev pub StageRises : SealFault → ℕ → ℕ → Type 0
StageRises seal.DiskFault before now = Rises before now
StageRises seal.NoMemory before now = ⊤

abbrev pub snapshot_fault : StoreFault → SnapshotFault
snapshot_fault (store.Damaged name) = snapshot.Damaged name
snapshot_fault store.DiskFault = snapshot.DiskFault
snapshot_fault store.NoMemory = snapshot.NoMemory

abbrev pub snapshot_fault_of_stage : StageError → SnapshotFault
snapshot_fault_of_stage stage.Fault = snapshot.DiskFault
snapshot_fault_of_stage stage.NoMemory = snapshot.NoMemory

-- a fault of the file aside is told only where it was counted
abbrev pub SnapshotRises : SnapshotFault → ℕ → ℕ → Type 0
SnapshotRises (snapshot.Damaged name) before now = ⊤
SnapshotRises snapshot.DiskFault before now = Rises before now
SnapshotRises snapshot.NoMemory before now = ⊤

-- it is none of the file aside, which counted nothing
abbrev pub IsApart : SnapshotFault → ℕ → ℕ → Type 0
IsApart (snapshot.Damaged name) before now = now ≡ before
IsApart snapshot.DiskFault before now = ⊤
IsApart snapshot.NoMemory before now = now ≡ before
