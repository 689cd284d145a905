-- The causes that tasks bring are none of the desk's.
use Rattle.std.proofs.Common.{◌≡◌, ℕ, true, Option, Some, IfSome, Result, Ok, Err, subst}
use Rattle.ssq_json.specs.declared.bad_row.BadRow.{BadRow}
use Rattle.ssq_json.specs.declared.bad_row.BadRow.TheVariants as bad
use Rattle.ssq_feed.specs.declared.task.FedRows.{FedRows}
use Rattle.ssq_feed.specs.declared.fault.FeedFault.{FeedFault}
use Rattle.ssq_feed.specs.declared.fault.FeedFault.TheVariants as feed
use Rattle.ssq_task.specs.declared.partition.ReducedRows.{ReducedRows}
use Rattle.ssq_task.specs.declared.partition.ReduceFault.{ReduceFault}
use Rattle.ssq_task.specs.declared.partition.ReduceFault.TheVariants as reduce
use Rattle.ssq_board.specs.declared.front.Cause.{Cause}
use Rattle.ssq_board.specs.Core.{Scope, Core, is_open}
use Rattle.ssq_desk.specs.Contents.{IsReducedCause}
use Rattle.ssq_desk.specs.Results.{cause_of_bad, cause_of_feed, cause_of_reduce, cause_of_failed, fault_of}
use Rattle.ssq_drive.specs.Driven.{StopsFor, no_file}
use Rattle.ssq_drive.proofs.Cutting.{none_some}

-- the desk accounts for it on any terms, where an epoch is open
abbrev pub IsOfInput : Cause → Type 0
IsOfInput g = (r : Scope) (n : Core) (before now : ℕ) → is_open n ≡ true → StopsFor no_file r n before now g

given : (o : Option Cause) (f g : Cause) → IsOfInput f → Some f ≡ o → o ≡ Some g → IsOfInput g
given o f g own is same r n before now opened = subst (λ (x : Option Cause). IfSome x (StopsFor no_file r n before now)) same (subst (λ (x : Option Cause). IfSome x (StopsFor no_file r n before now)) is (own r n before now opened))

bad_stops : (stream part offset : ℕ) (what : BadRow) → IsOfInput (cause_of_bad stream part offset what)
bad_stops stream part offset bad.TooLong r n before now opened = tt
bad_stops stream part offset bad.NotJson r n before now opened = tt
bad_stops stream part offset bad.NotObject r n before now opened = tt
bad_stops stream part offset (bad.WrongType column) r n before now opened = tt
bad_stops stream part offset bad.NoEventTime r n before now opened = tt
bad_stops stream part offset bad.NoMemory r n before now opened = tt

feed_stops : (stream part : ℕ) (fault : FeedFault) → IsOfInput (cause_of_feed stream part fault)
feed_stops stream part (feed.BadLine offset what) r n before now opened = bad_stops stream part offset what r n before now opened
feed_stops stream part (feed.Overflow offset) r n before now opened = tt
feed_stops stream part feed.LogFault r n before now opened = opened
feed_stops stream part (feed.LogShort logged found) r n before now opened = tt
feed_stops stream part feed.NoMemory r n before now opened = tt

pub fed_stops : (stream part : ℕ) (outcome : Result FedRows FeedFault) (g : Cause) → fault_of (cause_of_feed stream part) outcome ≡ Some g → IsOfInput g
fed_stops stream part (Ok rows) g is = absurd (none_some g is)
fed_stops stream part (Err fault) g is = given (Some (cause_of_feed stream part fault)) (cause_of_feed stream part fault) g (feed_stops stream part fault) (λ i. Some (cause_of_feed stream part fault)) is

-- what a reduce task tells is one of its causes
reduce_is : (fault : ReduceFault) → IsReducedCause (cause_of_reduce fault)
reduce_is (reduce.Overflow key) = tt
reduce_is reduce.DiskFault = tt
reduce_is reduce.NoMemory = tt

pub reduce_cause : {S F : Type 0} (outcome : Result (ReducedRows F) (ReduceFault × Option S)) → IfSome (fault_of cause_of_failed outcome) IsReducedCause
reduce_cause (Ok rows) = tt
reduce_cause (Err (fault, left)) = reduce_is fault
