-- Why there is no table.
use Rattle.std.specs.Prelude.{◌≡◌, ℕ, None, ⊤}
use Rattle.ssq_outside.specs.Faults.{Rises}
use Rattle.ssq_outside.specs.Files.{Files}
use Rattle.ssq_outside.specs.declared.disk.DiskError.{DiskError}
use Rattle.ssq_outside.specs.declared.disk.DiskError.TheVariants as disk
use Rattle.ssq_outside.specs.declared.name.Name.{Name}
use Rattle.ssq_outside.specs.declared.name.Name.TheVariants as name
use Rattle.ssq_shape.specs.declared.bound.Bound.{Bound}
use Rattle.ssq_sink.specs.declared.fault.SinkFault.{SinkFault}
use Rattle.ssq_sink.specs.declared.fault.SinkFault.TheVariants.{Damaged, DiskFault, NoMemory}
use Rattle.ssq_sink.specs.Table.{IsSink}

abbrev pub fault_of_disk : DiskError → SinkFault
fault_of_disk disk.Fault = DiskFault
fault_of_disk disk.NoMemory = NoMemory

-- P of the name, where a file is at fault; else the disk failed, or memory ran out
abbrev pub IfDamaged : (Name → Type 0) → SinkFault → Type 0
IfDamaged P (Damaged at) = P at
IfDamaged P DiskFault = ⊤
IfDamaged P NoMemory = ⊤

-- the sink file of an epoch is missing
abbrev pub IsAbsent : Files → ℕ → Name → Type 0
IsAbsent files e at = (at ≡ name.Out e) × (files (name.Out e) ≡ None)

-- it is missing, or malformed
abbrev pub IsBad : Bound → Files → ℕ → Name → Type 0
IsBad query files e at = (at ≡ name.Out e) × (IsSink query files e → ⊥)

-- a fault of the disk is told only where it was counted
abbrev pub HasRisen : SinkFault → (before now : ℕ) → Type 0
HasRisen (Damaged at) before now = ⊤
HasRisen DiskFault before now = Rises before now
HasRisen NoMemory before now = ⊤
