-- What a reduce task brings.
use Rattle.std.specs.Prelude.{◌≡◌, ◌++◌, ⊤, ℕ, ℤ, List, [], All, map, filter, not, Option, Some, None, is_some, IfSome, IsSomeAnd, IfOk, IfErr}
use Rattle.std.specs.List.Sorted.{IsPermutation}
use Rattle.ssq_time.specs.Time.{IsStampTime}
use Rattle.ssq_value.specs.Kind.{IfTime}
use Rattle.ssq_outside.specs.Faults.{Rises}
use Rattle.ssq_shape.specs.declared.bound.Bound.{Bound}
use Rattle.ssq_shape.specs.declared.bound.Shape.{Shape}
use Rattle.ssq_shape.specs.declared.bound.Shape.TheVariants.{Plain, Group, Dedup, Join}
use Rattle.ssq_meaning.specs.FedRows.{FedRow}
use Rattle.ssq_meaning.specs.Meaning.{Values}
use Rattle.ssq_meaning.specs.Operator.{operator_of}
use Rattle.ssq_meaning.specs.Epochs.{timely}
use Rattle.ssq_meaning.specs.Times.{is_past}
use Rattle.ssq_step.specs.declared.fault.StepFault.{StepFault}
use Rattle.ssq_step.specs.declared.fault.StepFault.TheVariants as step
use Rattle.ssq_step.specs.Indexing.{IsIndex}
use Rattle.ssq_version.specs.State.{between}
use Rattle.ssq_version.specs.Text.{delta_text}
use Rattle.ssq_store.specs.declared.fault.SealFault.{SealFault}
use Rattle.ssq_store.specs.declared.fault.SealFault.TheVariants as seal
use Rattle.ssq_task.specs.declared.partition.Held.{Held}
use Rattle.ssq_task.specs.declared.partition.State.{State}
use Rattle.ssq_task.specs.declared.partition.ReduceTask.{ReduceTask}
use Rattle.ssq_task.specs.declared.partition.Reduced.{Reduced}
use Rattle.ssq_task.specs.declared.partition.ReducedRows.{ReducedRows}
use Rattle.ssq_task.specs.declared.partition.ReduceFault.{ReduceFault}
use Rattle.ssq_task.specs.declared.partition.ReduceFault.TheVariants as fault
use Rattle.ssq_task.specs.Lists.{joined_vecs}
use Rattle.ssq_task.specs.Stepping.{CanStepBy}

-- the values of each row, in order
abbrev pub values_of : List FedRow → List Values
values_of rows = map (λ row. row.values) rows

-- the rows whose time is not past at a watermark
abbrev pub not_past : Option ℤ → List FedRow → List FedRow
not_past now rows = filter (λ row. not (is_past now row.time)) rows

-- ---- faults

-- the fault of a task by that of the operator's step
abbrev pub fault_of_step : StepFault → ReduceFault
fault_of_step (step.Overflow key) = fault.Overflow key
fault_of_step step.NoMemory = fault.NoMemory

-- the fault of a task by that of the sealing of its delta
abbrev pub fault_of_seal : SealFault → ReduceFault
fault_of_seal seal.DiskFault = fault.DiskFault
fault_of_seal seal.NoMemory = fault.NoMemory

-- What comes back of the file aside with a fault. Where a key overflows, it comes back as it was; where the disk failed it comes back, and
-- counted that; where memory ran out it counted nothing, if it comes back: it doesn't where it was sealed already.
abbrev pub IsStageAfter : {S : Type 0} → (S → ℕ) → ReduceFault → (before : S) → (after : Option S) → Type 0
IsStageAfter faults (fault.Overflow key) before after = after ≡ Some before
IsStageAfter faults fault.DiskFault before after = IsSomeAnd after (λ stage. Rises (faults before) (faults stage))
IsStageAfter faults fault.NoMemory before after = IfSome after (λ stage. faults stage ≡ faults before)

-- without state there is no such file, and the one fault is that memory ran out
abbrev pub IsAsideAfter : {S : Type 0} → (S → ℕ) → ReduceFault → Option (State S) → (after : Option S) → Type 0
IsAsideAfter faults own None after = (own ≡ fault.NoMemory) × (after ≡ None)
IsAsideAfter faults own (Some state) after = IsStageAfter faults own state.stage after

-- ---- what a partition holds

-- the index of its groups by the times at which they close is of what the store keeps
abbrev pub IsIndexed : Bound → Held → Type 0
IsIndexed query held = IsIndex query held.store.state held.closing

-- ---- what comes back of the state

-- a store comes back exactly where there was one, and is of its partition
abbrev pub IsBack : {S : Type 0} → Option (State S) → Option Held → Type 0
IsBack None held = held ≡ None
IsBack (Some state) held = IsSomeAnd held (λ held. held.store.partition ≡ state.held.store.partition)

-- what a store keeps is as before; of the index beside it nothing is said
abbrev pub IsAsBefore : {S : Type 0} → Option (State S) → Option Held → Type 0
IsAsBefore None held = held ≡ None
IsAsBefore (Some state) held = IsSomeAnd held (λ held. (held.store.version ≡ state.held.store.version) × (held.store.state ≡ state.held.store.state))

-- what the file aside has, where there is one
abbrev pub written_in : {S : Type 0} → (S → List ℕ) → Option (State S) → List ℕ
written_in written None = []
written_in written (Some state) = written state.stage

-- ---- what a task is given

-- The state is the partition's own, and what the rows leave that it accepted before, with the index of its keys by the times at which they
-- close: from that the operator of the shape can step.
pub record IsGivenState {S : Type 0} (shape : Shape) (query : Bound) (partition : ℕ) (old new : List FedRow) (before now : Option ℤ) (state : State S) : Type 0 where
  pub own : state.held.store.partition ≡ partition
  pub given : CanStepBy shape query state.held.store.state state.held.closing old new before now

-- What the operator of a shape needs: a query that keeps nothing has no state, any other has such a one.
abbrev pub IsGivenBy : {S : Type 0} → Shape → Bound → (partition : ℕ) → (old new : List FedRow) → (before now : Option ℤ) → Option (State S) → Type 0
IsGivenBy Plain query partition old new before now state = state ≡ None
IsGivenBy (Group grouping) query partition old new before now state = IsSomeAnd state (IsGivenState (Group grouping) query partition old new before now)
IsGivenBy (Dedup columns) query partition old new before now state = IsSomeAnd state (IsGivenState (Dedup columns) query partition old new before now)
IsGivenBy (Join joining) query partition old new before now state = IsSomeAnd state (IsGivenState (Join joining) query partition old new before now)

-- what the operator of a query needs
abbrev pub IsGiven : {S : Type 0} → Bound → (partition : ℕ) → (old new : List FedRow) → (before now : Option ℤ) → Option (State S) → Type 0
IsGiven query partition old new before now state = IsGivenBy query.shape query partition old new before now state

-- ---- what a task brings: of an epoch of a partition, whose watermark is now, and whose rows that are not late are new

module _ {S F : Type 0} (tells : Type 0) (written : S → List ℕ) (sealed : F → List ℕ) (query : Bound) (epoch partition : ℕ) (now : Option ℤ) (new : List FedRow) where
  -- It is the epoch's, by the rows that the partition accepted before (old) and the watermark before: the rows are those that the operator
  -- shows, as a bag, and no key overflows; the store holds what all accepted rows leave; and the delta has the bytes of the change from what
  -- the rows before left to that, after what the file aside had.
  pub record IsEpoch (old : List FedRow) (before : Option ℤ) (state : Option (State S)) (held : Option Held) (brought : ReducedRows F) : Type 0 where
    pub shown : IsPermutation brought.rows.items ((operator_of query).added old new before now)
    pub faultless : (operator_of query).fault old new before now ≡ None
    pub kept : IfSome held (λ held. held.store.state ≡ (operator_of query).state (old ++ new) now)
    pub changed : tells → IfSome brought.delta (λ file. sealed file
        ≡ written_in written state ++ delta_text partition epoch (between ((operator_of query).state old before) ((operator_of query).state (old ++ new) now)))

  -- A delta comes exactly where there was a state, and the store is at the epoch's version; where the index was of what the store kept it is of
  -- what it keeps now, whatever that is; each time that is shown can be printed; and all of it is the epoch's.
  pub record HasBrought (state : Option (State S)) (held : Option Held) (brought : ReducedRows F) : Type 0 where
    pub delta : is_some brought.delta ≡ is_some state
    pub version : IfSome held (λ held. held.store.version ≡ Some epoch)
    pub indexed : IfSome state (λ state. IsIndexed query state.held) → IfSome held (IsIndexed query)
    pub printable : All (All (IfTime IsStampTime)) brought.rows.items
    pub meaning : (old : List FedRow) (before : Option ℤ) → IsGiven query partition old new before now state → IsEpoch old before state held brought

module _ {S : Type 0} (faults : S → ℕ) (query : Bound) (partition : ℕ) (now : Option ℤ) (new : List FedRow) where
  -- a key that overflows is the operator's fault
  abbrev pub IsCause : (old : List FedRow) → (before : Option ℤ) → ReduceFault → Type 0
  IsCause old before (fault.Overflow key) = (operator_of query).fault old new before now ≡ Some key
  IsCause old before fault.DiskFault = ⊤
  IsCause old before fault.NoMemory = ⊤

  -- what the store keeps is as before, the file aside comes back, and the fault has its cause
  pub record HasFailed (state : Option (State S)) (held : Option Held) (failed : ReduceFault × Option S) : Type 0 where
    pub same : IsAsBefore state held
    pub aside : IsAsideAfter faults failed.0 state failed.1
    pub cause : (old : List FedRow) (before : Option ℤ) → IsGiven query partition old new before now state → IsCause old before failed.0

-- the rows of a task that are not late
abbrev pub timely_in : {S F : Type 0} → ReduceTask S F → List FedRow
timely_in task = timely task.view.bound.now task.watermark (joined_vecs task.rows.items)

-- It names its task, and gives back what the partition keeps. Whatever rows the partition accepted before, and whatever the watermark before was:
-- it brings what is the epoch's, or tells why not.
pub record IsReduced {S F : Type 0} (tells : Type 0) (written : S → List ℕ) (sealed : F → List ℕ) (faults : S → ℕ) (task : ReduceTask S F) (done : Reduced S F) : Type 0 where
  pub view : done.view ≡ task.view
  pub epoch : done.epoch ≡ task.epoch
  pub partition : done.partition ≡ task.partition
  pub watermark : done.watermark ≡ task.watermark
  pub held : IsBack task.state done.held
  pub brought : IfOk done.outcome (HasBrought tells written sealed task.view.bound.now task.epoch task.partition task.watermark (timely_in task) task.state done.held)
  pub failed : IfErr done.outcome (HasFailed faults task.view.bound.now task.partition task.watermark (timely_in task) task.state done.held)
