-- What a partition goes on from, epoch after epoch: what its reduce task is given, and what the task brings.
use Rattle.std.specs.Prelude.{◌≡◌, ◌<◌, ◌≤◌, ◌+◌, ◌^◌, ◌++◌, ℕ, ℤ, List, false, filter_map, get_or, Option, Some, None, option_map, IfOk, IfErr, IfSome}
use Rattle.std.specs.List.{range_with_len}
use Rattle.ssq_shape.specs.declared.bound.Bound.{Bound}
use Rattle.ssq_meaning.specs.FedRows.{FedRow}
use Rattle.ssq_meaning.specs.Cut.{AreCuts}
use Rattle.ssq_meaning.specs.Epochs.{accepted, fed, on_time, bucket, key_fault, watermark_before}
use Rattle.ssq_meaning.specs.Group.{least_key}
use Rattle.ssq_meaning.specs.Meaning.{Values}
use Rattle.ssq_meaning.specs.Operator.{operator_of}
use Rattle.ssq_store.specs.declared.store.Store.{Store}
use Rattle.ssq_core.specs.Course.{Cuts}
use Rattle.ssq_course.specs.Setting.{Setting, parts_in, cut_of, cuts_of, watermark_at, keeping_of, state_at, delta_at, partition_fault}
use Rattle.ssq_task.specs.declared.partition.Held.{Held}
use Rattle.ssq_task.specs.declared.partition.State.{State}
use Rattle.ssq_task.specs.declared.partition.ReduceTask.{ReduceTask}
use Rattle.ssq_task.specs.declared.partition.Reduced.{Reduced}
use Rattle.ssq_task.specs.declared.partition.ReducedRows.{ReducedRows}
use Rattle.ssq_task.specs.declared.partition.ReduceFault.{ReduceFault}
use Rattle.ssq_task.specs.declared.partition.ReduceFault.TheVariants as fault
use Rattle.ssq_task.specs.Lists.{joined_vecs}
use Rattle.ssq_task.specs.Reducing.{IsGiven, IsIndexed, IsReduced, timely_in, written_in}
use Rattle.ssq_open.specs.declared.wanted.Lens.{Lens}
use Rattle.ssq_terms.specs.Setting.{IsSettingOf, AreFound, found_lines}
use Rattle.ssq_terms.specs.Rows.{IsShownOf}

-- ---- the rows of a partition

-- those that it accepted in the first e epochs
abbrev pub accepted_by : Setting → Cuts → (e p : ℕ) → List FedRow
accepted_by s cuts e p = bucket s.job.partitions p (accepted s.job.bound (parts_in s) (cuts_of cuts) e)

-- those that epoch e feeds to it
abbrev pub fed_to : Setting → Cuts → (e p : ℕ) → List FedRow
fed_to s cuts e p = bucket s.job.partitions p (fed s.job.bound (parts_in s) (cuts_of cuts) e)

-- and those of them that are not late
abbrev pub on_time_to : Setting → Cuts → (e p : ℕ) → List FedRow
on_time_to s cuts e p = bucket s.job.partitions p (on_time s.job.bound (parts_in s) (cuts_of cuts) e)

-- the watermark of the epoch before e
abbrev pub mark_before : Setting → Cuts → ℕ → Option ℤ
mark_before s cuts e = watermark_before s.job.bound (parts_in s) (cuts_of cuts) e

-- ---- the keys of a partition

-- the least key of a partition that overflows in epoch e
abbrev pub overflow_of : Setting → Cuts → (e p : ℕ) → Option Values
overflow_of s cuts e p = (operator_of s.job.bound).fault (accepted_by s cuts e p) (on_time_to s cuts e p) (mark_before s cuts e) (watermark_at s cuts e)

-- the least key on which an epoch overflows is the least of those on which its partitions do
abbrev pub KeysAreLeast : Type 0
KeysAreLeast = (s : Setting) (cuts : Cuts) (e : ℕ) → 1 ≤ s.job.partitions
    → key_fault s.job.bound (parts_in s) (cuts_of cuts) e ≡ least_key (filter_map (overflow_of s cuts e) (range_with_len 0 s.job.partitions))

-- ---- the state of a partition

-- The store of a partition, if any, holds its state after the first e epochs: of one that keeps state it is there and the partition's own, and of
-- any other there is none.
abbrev pub HoldsStateOf : Setting → Cuts → (e p : ℕ) → Option Store → Type 0
HoldsStateOf s cuts e p None = keeping_of s.job.bound.shape s.job.partitions ≤ p
HoldsStateOf s cuts e p (Some store) = (p < keeping_of s.job.bound.shape s.job.partitions) × (store.partition ≡ p) × (store.state ≡ state_at s cuts p e)

-- the store of what a partition holds
abbrev pub store_of : Option Held → Option Store
store_of held = option_map (λ held. held.store) held

-- What a partition goes on from after the first e epochs: the store of its state, if it keeps one, with the index of that.
pub record HoldsPartition (s : Setting) (cuts : Cuts) (e p : ℕ) (held : Option Held) : Type 0 where
  pub store : HoldsStateOf s cuts e p (store_of held)
  pub indexed : IfSome held (IsIndexed s.job.bound)

-- what a reduce task is given of it
abbrev pub held_in : {S : Type 0} → Option (State S) → Option Held
held_in state = option_map (λ state. state.held) state

-- ---- the cuts of its epochs

-- The cuts of the first n epochs begin with no line and never fall, and they cover no more lines of a part than were found of it.
pub record CoverFound (s : Setting) (lens : Lens) (cuts : Cuts) (n : ℕ) : Type 0 where
  pub are_cuts : AreCuts (parts_in s) (cuts_of cuts) n
  pub found : (i : ℕ) → get_or (cut_of (cuts n)) i 0 ≤ get_or (found_lines lens) i 0

-- ---- a reduce task

-- A reduce task is that of its partition in epoch e, whose number has 32 bits: with the epoch's watermark, the rows that the epoch feeds to the partition, and what the
-- partition holds after the epochs before.
pub record IsReduceOf {S F : Type 0} (s : Setting) (cuts : Cuts) (e : ℕ) (task : ReduceTask S F) : Type 0 where
  pub query : task.view.bound.now ≡ s.job.bound
  pub epoch : task.epoch ≡ e
  pub few : task.epoch < 2 ^ 32
  pub below : task.partition < s.job.partitions
  pub watermark : task.watermark ≡ watermark_at s cuts e
  pub rows : joined_vecs task.rows.items ≡ fed_to s cuts e task.partition
  pub held : HoldsPartition s cuts e task.partition (held_in task.state)

-- So it is given all that the operator of the query needs to go on, by the rows that the partition accepted before and the watermark before.
abbrev pub IsGivenPartition : {S F : Type 0} → Setting → Cuts → ℕ → ReduceTask S F → Type 0
IsGivenPartition s cuts e task =
    IsGiven task.view.bound.now task.partition (accepted_by s cuts e task.partition) (timely_in task) (mark_before s cuts e) task.watermark task.state

abbrev pub PartitionsContinue : (S F : Type 0) → Type 0
PartitionsContinue S F = (s : Setting) (bound : Bound) (partitions : Option ℕ) (lens : Lens) (cuts : Cuts) (e : ℕ) (task : ReduceTask S F) → IsSettingOf s bound partitions lens
    → AreFound (found_lines lens) s.lines → CoverFound s lens cuts (e + 1) → IsReduceOf s cuts e task → IsGivenPartition s cuts e task

-- ---- what it brings

-- What a reduce task brings is the partition's: the rows that it shows of epoch e, in any order; no key overflows; and, where the partition
-- keeps state, that state after epoch e with its index, and what the epoch changes in it, as the delta's bytes after what the file aside had.
pub record IsVersionOf {S F : Type 0} (tells : Type 0) (written : S → List ℕ) (sealed : F → List ℕ) (s : Setting) (cuts : Cuts) (e p : ℕ) (state : Option (State S)) (held : Option Held) (brought : ReducedRows F) : Type 0 where
  pub shown : IsShownOf s cuts e p brought.rows.items
  pub faultless : partition_fault s cuts e p ≡ false
  pub kept : HoldsPartition s cuts (e + 1) p held
  pub changed : tells → IfSome brought.delta (λ file. sealed file ≡ written_in written state ++ delta_at s cuts p e)

-- a key is at fault only where it is the least of the partition that overflows in epoch e
abbrev pub IsFaultOf : Setting → Cuts → (e p : ℕ) → ReduceFault → Type 0
IsFaultOf s cuts e p (fault.Overflow key) = overflow_of s cuts e p ≡ Some key
IsFaultOf s cuts e p fault.DiskFault = Unit {0}
IsFaultOf s cuts e p fault.NoMemory = Unit {0}

-- or it fails, and the store holds what it held; of the index beside it nothing is said
pub record IsNoVersionOf {S : Type 0} (s : Setting) (cuts : Cuts) (e p : ℕ) (held : Option Held) (failed : ReduceFault × Option S) : Type 0 where
  pub same : HoldsStateOf s cuts e p (store_of held)
  pub cause : IsFaultOf s cuts e p failed.0

pub record BringsPartition {S F : Type 0} (tells : Type 0) (written : S → List ℕ) (sealed : F → List ℕ) (s : Setting) (cuts : Cuts) (e : ℕ) (task : ReduceTask S F) (done : Reduced S F) : Type 0 where
  pub brought : IfOk done.outcome (IsVersionOf tells written sealed s cuts e task.partition task.state done.held)
  pub failed : IfErr done.outcome (IsNoVersionOf s cuts e task.partition done.held)

abbrev pub PartitionsAreBrought : {S F : Type 0} → (tells : Type 0) → (S → List ℕ) → (F → List ℕ) → (S → ℕ) → Type 0
PartitionsAreBrought {S} {F} tells written sealed faults = (s : Setting) (bound : Bound) (partitions : Option ℕ) (lens : Lens) (cuts : Cuts) (e : ℕ) (task : ReduceTask S F) (done : Reduced S F)
    → IsSettingOf s bound partitions lens → AreFound (found_lines lens) s.lines → CoverFound s lens cuts (e + 1) → IsReduceOf s cuts e task → IsReduced tells written sealed faults task done
    → BringsPartition tells written sealed s cuts e task done
