-- What an out task does.
use Rattle.std.specs.Prelude.{◌≡◌, ◌⊎◌, ◌++◌, ℕ, List, length, IfOk, IfErr}
use Rattle.ssq_outside.specs.declared.disk.StageError.{StageError}
use Rattle.ssq_outside.specs.declared.disk.StageError.TheVariants as error
use Rattle.ssq_outside.specs.Faults.{Rises}
use Rattle.ssq_plans.specs.Records.{commit_text}
use Rattle.ssq_sink.specs.Sink.{sink_text}
use Rattle.ssq_task.specs.Lists.{joined_vecs}
use Rattle.ssq_task.specs.Committing.{commit_at}
use Rattle.ssq_task.specs.declared.out.GatherFault.{GatherFault}
use Rattle.ssq_task.specs.declared.out.GatherFault.TheVariants as fault
use Rattle.ssq_task.specs.declared.out.OutTask.{OutTask}
use Rattle.ssq_task.specs.declared.out.Gathered.{Gathered}
use Rattle.ssq_task.specs.declared.stages.Stages.{Stages}
use Rattle.ssq_task.specs.declared.stages.SealedEpoch.{SealedEpoch}
use Rattle.ssq_task.specs.declared.stages.Aside.{Aside}
use Rattle.ssq_task.specs.declared.stages.Aside.TheVariants.{Open, Sealed}
use Rattle.ssq_task.specs.declared.stages.Remnant.{Remnant}

-- the fault of a task by that of a file aside
abbrev pub fault_of_stage : StageError → GatherFault
fault_of_stage error.Fault = fault.DiskFault
fault_of_stage error.NoMemory = fault.NoMemory

module _ {S : Type 0} (written : S → List ℕ) where
  -- each file has its text after what it had
  pub record HasWritten (rows commit : List ℕ) (before now : Stages S) : Type 0 where
    pub rows_is : written now.rows ≡ written before.rows ++ rows
    pub commit_is : written now.commit ≡ written before.commit ++ commit

module _ {S : Type 0} (faults : S → ℕ) where
  -- a file failed only where it counted a fault
  abbrev pub WriteCause : GatherFault → Stages S → Stages S → Type 0
  WriteCause fault.DiskFault before now = Rises (faults before.rows) (faults now.rows) ⊎ Rises (faults before.commit) (faults now.commit)
  WriteCause fault.NoMemory before now = Unit {0}

  -- one of the files that are left counted a fault
  abbrev pub HasRisen : {F : Type 0} → Stages S → Aside S F → S → Type 0
  HasRisen before (Open rows) commit = Rises (faults before.rows) (faults rows) ⊎ Rises (faults before.commit) (faults commit)
  HasRisen before (Sealed rows) commit = Rises (faults before.commit) (faults commit)

  abbrev pub SealCause : {F : Type 0} → Stages S → Remnant S F → Type 0
  SealCause before left = HasRisen before left.rows left.commit

  -- the task failed since memory ran out, or since a file failed
  abbrev pub GatherCause : {F : Type 0} → GatherFault → Stages S → Remnant S F → Type 0
  GatherCause fault.DiskFault before left = HasRisen before left.rows left.commit
  GatherCause fault.NoMemory before left = Unit {0}

module _ {S F : Type 0} (written : S → List ℕ) (sealed : F → List ℕ) where
  -- the bytes of the sealed files: what was written to them
  pub record IsSealed (before : Stages S) (files : SealedEpoch F) : Type 0 where
    pub rows : sealed files.rows ≡ written before.rows
    pub commit : sealed files.commit ≡ written before.commit

module _ {S F : Type 0} (tells : Type 0) (written : S → List ℕ) (sealed : F → List ℕ) (faults : S → ℕ) where
  -- the sealed files: the text of the rows, and that of the commit, after what the files had
  pub record HasEpoch (task : OutTask S F) (files : SealedEpoch F) : Type 0 where
    pub rows : sealed files.rows ≡ written task.stages.rows ++ sink_text task.view.bound.now (joined_vecs task.rows.items)
    pub commit : sealed files.commit ≡ written task.stages.commit ++ commit_text (commit_at task.view.bound.now task.epoch task.seen)

  -- It names its task and gives back its greatest times, and brings both files of the epoch with the number of its rows; or what is left
  -- of them, and why.
  pub record IsGathered (task : OutTask S F) (done : Gathered S F) : Type 0 where
    pub view : done.view ≡ task.view
    pub epoch : done.epoch ≡ task.epoch
    pub seen : done.seen ≡ task.seen
    pub files : tells → IfOk done.outcome (HasEpoch task)
    pub count : IfOk done.outcome (λ files. files.count ≡ length (joined_vecs task.rows.items))
    pub cause : IfErr done.outcome (λ failed. GatherCause faults failed.0 task.stages failed.1)
