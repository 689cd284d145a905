-- The causes that results bring.
use Rattle.std.specs.Prelude.{◌≡◌, [], ◌∷◌, ℕ, Option, Some, None, Result, Ok, Err}
use Rattle.ssq_json.specs.declared.bad_row.BadRow.{BadRow}
use Rattle.ssq_json.specs.declared.bad_row.BadRow.TheVariants as bad
use Rattle.ssq_feed.specs.declared.fault.FeedFault.{FeedFault}
use Rattle.ssq_feed.specs.declared.fault.FeedFault.TheVariants as feed
use Rattle.ssq_outside.specs.declared.gate.TaskId.{TaskId}
use Rattle.ssq_meaning.specs.Meaning.{Values}
use Rattle.ssq_task.specs.declared.partition.Held.{Held}
use Rattle.ssq_task.specs.declared.partition.ReduceTask.{ReduceTask}
use Rattle.ssq_task.specs.declared.partition.Reduced.{Reduced}
use Rattle.ssq_task.specs.declared.partition.ReducedRows.{ReducedRows}
use Rattle.ssq_task.specs.declared.partition.ReduceFault.{ReduceFault}
use Rattle.ssq_task.specs.declared.partition.ReduceFault.TheVariants as reduce
use Rattle.ssq_task.specs.declared.out.GatherFault.{GatherFault}
use Rattle.ssq_task.specs.declared.out.GatherFault.TheVariants as gather
use Rattle.ssq_board.specs.declared.front.Cause.{Cause}
use Rattle.ssq_board.specs.declared.front.Cause.TheVariants as cause
use Rattle.ssq_board.specs.declared.front.RowFault.TheVariants as row
use Rattle.ssq_board.specs.declared.front.Entry.TheVariants as entry
use Rattle.ssq_board.specs.Core.{due}
use Rattle.ssq_ledger.specs.Shown.{Shown, IsVersioned, did, answer}

-- the cause for which a line is bad; that memory ran out makes no line a bad one
abbrev pub cause_of_bad : (stream part offset : ℕ) → BadRow → Cause
cause_of_bad stream part offset bad.TooLong = cause.BadLine stream part offset row.TooLong
cause_of_bad stream part offset bad.NotJson = cause.BadLine stream part offset row.NotJson
cause_of_bad stream part offset bad.NotObject = cause.BadLine stream part offset row.NotObject
cause_of_bad stream part offset (bad.WrongType column) = cause.BadLine stream part offset (row.WrongType column)
cause_of_bad stream part offset bad.NoEventTime = cause.BadLine stream part offset row.NoEventTime
cause_of_bad stream part offset bad.NoMemory = cause.NoMemory

-- why a map task of this part brought nothing
abbrev pub cause_of_feed : (stream part : ℕ) → FeedFault → Cause
cause_of_feed stream part (feed.BadLine offset what) = cause_of_bad stream part offset what
cause_of_feed stream part (feed.Overflow offset) = cause.Overflow stream part offset
cause_of_feed stream part feed.LogFault = cause.LogFault
cause_of_feed stream part (feed.LogShort logged found) = cause.LogShort stream part logged found
cause_of_feed stream part feed.NoMemory = cause.NoMemory

-- why a reduce task did
abbrev pub cause_of_reduce : ReduceFault → Cause
cause_of_reduce (reduce.Overflow key) = cause.KeyOverflow
cause_of_reduce reduce.DiskFault = cause.DiskFault
cause_of_reduce reduce.NoMemory = cause.NoMemory

-- the key on which it failed
abbrev pub key_of_reduce : ReduceFault → Option Values
key_of_reduce (reduce.Overflow key) = Some key
key_of_reduce reduce.DiskFault = None
key_of_reduce reduce.NoMemory = None

abbrev pub key_of_outcome : {A S : Type 0} → Result A (ReduceFault × Option S) → Option Values
key_of_outcome (Ok brought) = None
key_of_outcome (Err failed) = key_of_reduce failed.0

-- the cause of a reduce task that left its file aside, if it had one
abbrev pub cause_of_failed : {S : Type 0} → ReduceFault × Option S → Cause
cause_of_failed failed = cause_of_reduce failed.0

-- why an out task did
abbrev pub cause_of_gather : GatherFault → Cause
cause_of_gather gather.DiskFault = cause.DiskFault
cause_of_gather gather.NoMemory = cause.NoMemory

-- the cause that a result brings, where it brings one
abbrev pub fault_of : {A E : Type 0} → (E → Cause) → Result A E → Option Cause
fault_of cause_of (Ok brought) = None
fault_of cause_of (Err fault) = Some (cause_of fault)

-- what a reduce task brings: itself, with what its partition keeps and what came of it
abbrev pub reduced_by : {S F : Type 0} → ReduceTask S F → Option Held → Result (ReducedRows F) (ReduceFault × Option S) → Reduced S F
reduced_by task held outcome = record { view = task.view; epoch = task.epoch; partition = task.partition; watermark = task.watermark; held = held; outcome = outcome }

-- the sealed delta that it brings, where it brings one
abbrev pub delta_of : {E F : Type 0} → Result (ReducedRows F) E → Option F
delta_of (Ok brought) = brought.delta
delta_of (Err failed) = None

-- How its result is taken: with a delta as a version, which is published; else there is its report alone. Either answers the Stop that it brings
-- about.
module _ {D O F : Type 0} where
  abbrev pub IsReturned : Option F → Shown D O → Shown D O → TaskId → Option Cause → Result (Unit {0}) Cause → Type 0 → Type 0
  IsReturned (Some delta) s n t fault result risen = IsVersioned s n t result risen
  IsReturned None s n t fault result risen = (n ≡ did s n.disk (entry.Report t fault ∷ [])) × (result ≡ answer (due s.core t fault))
