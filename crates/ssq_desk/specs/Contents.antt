-- What a desk holds beside the ledger: the logs, what partitions keep, what tasks are to take and what they brought.
use Rattle.std.specs.Prelude.{◌<◌, ◌≡◌, ◌⊎◌, ◌≤◌, ◌+◌, ℕ, ℤ, Bool, true, List, [], length, get_or, slice_get, map, All, Option, Some, None, IfSome, IsSomeAnd, vec_capacity, if◌then◌else◌}
use mathlib.Core.Option.{some}
use lib.ListN.{get_elem?}
use Rattle.ssq_time.specs.Time.{IsLineTime, IsStampTime}
use Rattle.ssq_value.specs.Kind.{IfTime}
use Rattle.ssq_json.specs.declared.bad_row.BadRow.{BadRow}
use Rattle.ssq_json.specs.declared.bad_row.BadRow.TheVariants as bad
use Rattle.ssq_route.specs.Buckets.{bucket_at}
use Rattle.ssq_shape.specs.declared.bound.Bound.{Bound}
use Rattle.ssq_meaning.specs.declared.line.LineFault.TheVariants as line
use Rattle.ssq_meaning.specs.Fit.{IsFitRow}
use Rattle.ssq_meaning.specs.Meaning.{Line, Values}
use Rattle.ssq_meaning.specs.Group.{least_key}
use Rattle.ssq_meaning.specs.Parts.{Part}
use Rattle.ssq_meaning.specs.Feeding.{LineAt, time_in, fault_in}
use Rattle.ssq_meaning.specs.Epochs.{seen, out, fault, of_line, of_key}
use Rattle.ssq_water.specs.Water.{seen_at}
use Rattle.ssq_feed.specs.declared.task.FedRows.{FedRows}
use Rattle.ssq_step.specs.Indexing.{IsIndex}
use Rattle.ssq_store.specs.Loaded.{count_to}
use Rattle.ssq_task.specs.declared.partition.Held.{Held}
use Rattle.ssq_core.specs.Course.{Cuts, truth}
use Rattle.ssq_course.specs.Setting.{Setting, parts_in, cut_of, cuts_of, course_of, keeping_of}
use Rattle.ssq_board.specs.declared.front.Cause.{Cause}
use Rattle.ssq_board.specs.declared.front.Cause.TheVariants as cause
use Rattle.ssq_board.specs.declared.front.RowFault.{RowFault}
use Rattle.ssq_board.specs.declared.front.RowFault.TheVariants as row
use Rattle.ssq_board.specs.declared.front.Place.{Place}
use Rattle.ssq_board.specs.declared.front.Place.TheVariants as place
use Rattle.std.specs.List.{filter_map, list_all}
use Rattle.ssq_board.specs.Core.{Core, is_open, is_fine, is_here}
use Rattle.ssq_outside.specs.declared.name.Name.TheVariants as name
use Rattle.ssq_terms.specs.Rows.{bucket_in, IsShownOf}
use Rattle.ssq_terms.specs.Partitions.{HoldsStateOf, overflow_of}
use Rattle.ssq_desk.specs.declared.desk.PartLog.{PartLog}
use Rattle.ssq_desk.specs.declared.desk.Share.{Share}
use Rattle.ssq_desk.specs.declared.desk.OutWork.{OutWork}
use Rattle.ssq_desk.specs.declared.desk.Pending.{Pending}

-- a line's fault, as causes name it
abbrev pub bad_of : RowFault → BadRow
bad_of row.TooLong = bad.TooLong
bad_of row.NotJson = bad.NotJson
bad_of row.NotObject = bad.NotObject
bad_of (row.WrongType column) = bad.WrongType column
bad_of row.NoEventTime = bad.NoEventTime

-- a cause that is a line's, as that line's fault
abbrev pub line_of : Cause → Option LineAt
line_of (cause.BadLine s p o f) = Some (record { stream = s; part = p; offset = o; what = line.Bad (bad_of f) })
line_of (cause.Overflow s p o) = Some (record { stream = s; part = p; offset = o; what = line.Overflow })
line_of _ = None

-- Why a map task brought nothing: a line's fault is the first of its range; a log is short where it has fewer lines than the range's end,
-- which one that tells what it holds never is; and the outside may fail at any time.
abbrev pub IsCauseIn : Type 0 → Bound → Part → (from to : ℕ) → Cause → Type 0
IsCauseIn reads query part from to (cause.BadLine s p o f) = reads → fault_in query part from to ≡ line_of (cause.BadLine s p o f)
IsCauseIn reads query part from to (cause.Overflow s p o) = reads → fault_in query part from to ≡ line_of (cause.Overflow s p o)
IsCauseIn reads query part from to (cause.LogShort s p logged found) = (logged ≡ to) × (found < to) × (reads → ⊥)
IsCauseIn reads query part from to cause.KeyOverflow = ⊥
IsCauseIn reads query part from to cause.LogFault = Unit {0}
IsCauseIn reads query part from to cause.NoMemory = Unit {0}
IsCauseIn reads query part from to cause.DiskFault = ⊥
IsCauseIn reads query part from to (cause.Damaged q) = ⊥
IsCauseIn reads query part from to cause.Full = ⊥

-- Why a desk stopped, with the least key on which a reduce task of the epoch that runs failed: a line's fault is the first of that epoch, and
-- a key's is that key, where what was opened is the job's own; no log that tells what it holds is short; and where what was opened is the job's
-- own no file is damaged.
abbrev pub IsStopOf : (reads owned : Type 0) → Setting → Cuts → ℕ → Option Values → Cause → Type 0
IsStopOf reads owned s cuts e key (cause.BadLine t p o f) = reads → (at : LineAt) × (line_of (cause.BadLine t p o f) ≡ Some at) × (fault s.job.bound (parts_in s) (cuts_of cuts) e ≡ Some (of_line at))
IsStopOf reads owned s cuts e key (cause.Overflow t p o) = reads → (at : LineAt) × (line_of (cause.Overflow t p o) ≡ Some at) × (fault s.job.bound (parts_in s) (cuts_of cuts) e ≡ Some (of_line at))
IsStopOf reads owned s cuts e key cause.KeyOverflow = IsSomeAnd key (λ own. owned → fault s.job.bound (parts_in s) (cuts_of cuts) e ≡ Some (of_key own))
IsStopOf reads owned s cuts e key (cause.LogShort t p logged found) = (found < logged) × (reads → ⊥)
IsStopOf reads owned s cuts e key (cause.Damaged q) = owned → ⊥
IsStopOf reads owned s cuts e key cause.LogFault = Unit {0}
IsStopOf reads owned s cuts e key cause.DiskFault = Unit {0}
IsStopOf reads owned s cuts e key cause.Full = Unit {0}
IsStopOf reads owned s cuts e key cause.NoMemory = Unit {0}

-- its log is with a worker
abbrev pub is_away : Place → Type 0
is_away place.Away = Unit {0}
is_away _ = ⊥

module _ {L : Type 0} (reads : Type 0) (lines : L → List Line) (available : L → ℕ) (went : L → L → Type 0) (opened : List L) where
  -- the log is the i-th part's, at least so many lines of it are known to be there, and it went on from the log that was opened
  pub record IsLogOf (i : ℕ) (part : Part) (found : ℕ) (log : L) : Type 0 where
    pub lines_are : reads → lines log ≡ part.lines
    pub long : reads → found ≤ available log
    pub before : L
    pub before_is : get_elem? opened i ≡ some before
    pub has_gone : went before log

  -- it is the i-th part's, and has its log where no worker does
  pub record IsPartLogOf (i : ℕ) (part : Part) (found : ℕ) (at : Place) (part_log : PartLog L) : Type 0 where
    pub stream : part.stream ≡ part_log.stream
    pub number : part.part ≡ part_log.part
    pub log : (is_away at → ⊥) → (own : L) × (part_log.log ≡ Some own) × IsLogOf i part found own

-- What a map task of an epoch brought of the lines from one offset up to another: for each partition whose reduce task still waits the rows of its
-- bucket, each of which a state can hold, and the greatest time; and none of the lines has a fault.
pub record IsBrought (reads : Type 0) (query : Bound) (epoch : ℕ) (part : Part) (from to partitions : ℕ) (reduces : List Place) (fed : FedRows) : Type 0 where
  pub count : length fed.buckets ≡ partitions
  pub years : IfSome fed.time IsLineTime
  pub fit : All (All IsFitRow) fed.buckets
  pub time : reads → fed.time ≡ time_in query part from to
  pub good : reads → fault_in query part from to ≡ None
  pub rows : reads → (p : ℕ) → get_elem? reduces p ≡ some place.Waits → bucket_at fed.buckets p ≡ bucket_in query epoch partitions p part from to

-- what the desk has of a part for the epoch that runs, by the place of its map task
pub record IsMapped {L : Type 0} (reads : Type 0) (query : Bound) (epoch : ℕ) (part : Part) (from to partitions : ℕ) (reduces : List Place) (at : Place) (part_log : PartLog L) : Type 0 where
  pub begins : part_log.from ≡ from
  pub quiet : at ≡ place.Rests → to ≤ from
  pub none : at ≡ place.Rests → part_log.fed ≡ None
  pub brought : at ≡ place.Back None → (fed : FedRows) × (part_log.fed ≡ Some fed) × IsBrought reads query epoch part from to partitions reduces fed
  pub fault : (f : Cause) → at ≡ place.Back (Some f) → IsCauseIn reads query part from to f

-- Why a reduce task brought nothing: a key overflows, the disk failed, or memory ran out.
abbrev pub IsReducedCause : Cause → Type 0
IsReducedCause cause.KeyOverflow = Unit {0}
IsReducedCause cause.DiskFault = Unit {0}
IsReducedCause cause.NoMemory = Unit {0}
IsReducedCause _ = ⊥

-- how many partitions keep state, the first of all
abbrev pub keeping_in : Setting → ℕ
keeping_in s = keeping_of s.job.bound.shape s.job.partitions

-- the file aside for what an epoch changes in what a partition keeps: of one that keeps state it is there and empty, of any other there is none
abbrev pub IsStageOf : {S : Type 0} → Type 0 → (S → List ℕ) → (keeping p : ℕ) → Option S → Type 0
IsStageOf owned written keeping p None = keeping ≤ p
IsStageOf owned written keeping p (Some stage) = (p < keeping) × (owned → written stage ≡ [])

-- what a partition has of the epoch that runs, by the place of its reduce task
pub record IsShare {S : Type 0} (owned : Type 0) (written : S → List ℕ) (s : Setting) (cuts : Cuts) (e p : ℕ) (at : Place) (share : Share S) : Type 0 where
  pub there : at ≡ place.Rests → ⊥
  pub empty : at ≡ place.Waits → (share.buckets.items ≡ []) × (length (parts_in s) ≤ vec_capacity share.buckets)
  pub stage : at ≡ place.Waits → IsStageOf owned written (keeping_in s) p share.stage
  pub shown : at ≡ place.Back None → (owned → IsShownOf s cuts e p share.rows.items)
  pub printable : at ≡ place.Back None → All (All (IfTime IsStampTime)) share.rows.items

-- The key on which a partition's reduce task failed, by the task's place: the least of the partition's that overflow in epoch e, where the task
-- told of one; and none overflows of a partition whose task is back without a fault.
abbrev pub IsKeyOf : Type 0 → Setting → Cuts → (e p : ℕ) → Place → Option Values → Type 0
IsKeyOf owned s cuts e p (place.Back None) key = (key ≡ None) × (owned → overflow_of s cuts e p ≡ None)
IsKeyOf owned s cuts e p (place.Back (Some cause.KeyOverflow)) key = IsSomeAnd key (λ own. owned → overflow_of s cuts e p ≡ Some own)
IsKeyOf owned s cuts e p _ key = key ≡ None

-- the least of the keys that shares have
abbrev pub key_in : {S : Type 0} → List (Share S) → Option Values
key_in shares = least_key (filter_map (λ key. key) (map (λ share. share.key) shares))

-- What a partition keeps, as it is at the desk: its own, at the version of the last of so many epochs, with the index of its state, on any disk;
-- and where what was opened is the job's own, that is the state after these epochs.
pub record IsHeldOf (owned : Type 0) (s : Setting) (cuts : Cuts) (n p : ℕ) (held : Held) : Type 0 where
  pub partition_is : held.store.partition ≡ p
  pub version : count_to held.store.version ≡ n
  pub state : owned → HoldsStateOf s cuts n p (Some held.store)
  pub index : IsIndex s.job.bound held.store.state held.closing

-- how many epochs have changed what a partition keeps: those that are committed, and the one that runs where its reduce task is back from it
abbrev pub epochs_at : (runs : Bool) → (committed : ℕ) → Place → ℕ
epochs_at runs committed (place.Back None) = if runs then committed + 1 else committed
epochs_at runs committed _ = committed

-- What a partition keeps is with a worker, or came back with a fault: of that nothing is said, since its epoch is never committed.
abbrev pub is_gone : Place → Type 0
is_gone place.Away = Unit {0}
is_gone (place.Back (Some f)) = Unit {0}
is_gone _ = ⊥

-- else it is there
abbrev pub IsHeldAt : Type 0 → Setting → Cuts → (runs : Bool) → (committed p : ℕ) → Place → Option Held → Type 0
IsHeldAt owned s cuts runs committed p at held = (is_gone at → ⊥) → IsSomeAnd held (IsHeldOf owned s cuts (epochs_at runs committed at) p)

-- the greatest times over the first e epochs
pub record AreSeen (owned : Type 0) (s : Setting) (cuts : Cuts) (e : ℕ) (times : List (Option ℤ)) : Type 0 where
  pub streams : length times ≡ length s.job.bound.streams
  pub are : owned → (stream : ℕ) → seen_at times stream ≡ seen s.job.bound (parts_in s) (cuts_of cuts) stream e

-- what the out task of the epoch that runs is to take
pub record IsOutWork {S F : Type 0} (owned : Type 0) (written : S → List ℕ) (s : Setting) (cuts : Cuts) (e : ℕ) (work : OutWork S F) : Type 0 where
  pub none : work.rows.items ≡ []
  pub room : s.job.partitions ≤ vec_capacity work.rows
  pub times : AreSeen owned s cuts e work.seen
  pub rows_empty : owned → written work.stages.rows ≡ []
  pub commit_empty : owned → written work.stages.commit ≡ []

-- the commit of epoch e, sealed, with the greatest times up to it and the number of its rows
pub record IsPending {F : Type 0} (owned : Type 0) (sealed : F → List ℕ) (s : Setting) (cuts : Cuts) (e : ℕ) (pending : Pending F) : Type 0 where
  pub commit : owned → sealed pending.commit ≡ truth (course_of s cuts) (name.Commit e)
  pub times : AreSeen owned s cuts (e + 1) pending.seen
  pub rows : owned → pending.count ≡ length (out s.job.bound (parts_in s) (cuts_of cuts) e)

module _ {L S F : Type 0} (reads owned : Type 0) (written : S → List ℕ) where
  -- What the tasks of the epoch that runs are to take, and what they brought.
  pub record IsEpoch (s : Setting) (cuts : Cuts) (c : Core) (part_logs : List (PartLog L)) (shares : List (Share S)) (out : Option (OutWork S F)) : Type 0 where
    pub froms : length (cuts c.front.committed) ≡ length (parts_in s)
    pub mapped : (i : ℕ) (part : Part) (at : Place) (part_log : PartLog L) → slice_get (parts_in s) i ≡ Some part → get_elem? c.maps i ≡ some at → get_elem? part_logs i ≡ some part_log
        → IsMapped reads s.job.bound c.front.committed part (get_or (cut_of (cuts c.front.committed)) i 0) (get_or (cut_of (cuts (c.front.committed + 1))) i 0) s.job.partitions c.reduces at part_log
    pub shared : get_elem? c.outs 0 ≡ some place.Waits → (p : ℕ) (at : Place) (share : Share S) → get_elem? c.reduces p ≡ some at → get_elem? shares p ≡ some share → IsShare owned written s cuts c.front.committed p at share
    -- the out task is the last: once it is claimed all reduce tasks are back
    pub last : (get_elem? c.outs 0 ≡ some place.Waits) ⊎ (list_all is_fine c.reduces ≡ true)
    pub outs : get_elem? c.outs 0 ≡ some place.Waits → (work : OutWork S F) × (out ≡ Some work) × IsOutWork owned written s cuts c.front.committed work

module _ {L S F : Type 0} (reads owned : Type 0) (lines : L → List Line) (available : L → ℕ) (went : L → L → Type 0) (opened : List L) (written : S → List ℕ) (sealed : F → List ℕ) where
  -- What a desk holds. As long as it runs, this is what its tasks need.
  pub record Holds (s : Setting) (cuts : Cuts) (found : List ℕ) (c : Core) (part_logs : List (PartLog L)) (shares : List (Share S)) (held : List (Option Held)) (out : Option (OutWork S F)) (times : List (Option ℤ)) (pending : Option (Pending F)) : Type 0 where
    pub parts : length part_logs ≡ length (parts_in s)
    pub partitions : length shares ≡ s.job.partitions
    pub keeping : length held ≡ keeping_in s
    pub logs : (i : ℕ) (part : Part) (at : Place) (part_log : PartLog L) → slice_get (parts_in s) i ≡ Some part → get_elem? c.maps i ≡ some at → get_elem? part_logs i ≡ some part_log
        → IsPartLogOf reads lines available went opened i part (get_or found i 0) at part_log
    -- each partition has its task in the epoch that runs; what it met is one of the causes of a reduce task, and where it is a key it is told
    pub dealt : is_open c ≡ true → (p : ℕ) → get_elem? c.reduces p ≡ some place.Rests → ⊥
    pub reduced : (p : ℕ) (f : Cause) → get_elem? c.reduces p ≡ some (place.Back (Some f)) → IsReducedCause f
    pub keys : is_open c ≡ true → (p : ℕ) (at : Place) (share : Share S) → get_elem? c.reduces p ≡ some at → get_elem? shares p ≡ some share → IsKeyOf owned s cuts c.front.committed p at share.key
    -- where a key stopped it no reduce task is to come
    pub still : c.front.stop ≡ Some cause.KeyOverflow → list_all is_here c.reduces ≡ true
    pub kept : c.front.stop ≡ None → (p : ℕ) (at : Place) (own : Option Held) → get_elem? c.reduces p ≡ some at → get_elem? held p ≡ some own → IsHeldAt owned s cuts (is_open c) c.front.committed p at own
    pub seen_so_far : c.front.stop ≡ None → AreSeen owned s cuts c.front.committed times
    pub epoch : c.front.stop ≡ None → is_open c ≡ true → IsEpoch reads owned written s cuts c part_logs shares out
    pub commit : c.front.stop ≡ None → is_open c ≡ true → c.front.written ≡ true → (p : Pending F) × (pending ≡ Some p) × IsPending owned sealed s cuts c.front.committed p
    pub stop : (f : Cause) → c.front.stop ≡ Some f → IsStopOf reads owned s cuts c.front.committed (key_in shares) f
