-- What is given back when a desk is closed.
use Rattle.std.specs.Prelude.{◌≡◌, ◌<◌, ◌≤◌, ◌+◌, ◌-◌, ◌++◌, ℕ, List, [], ◌∷◌, length, get_or, slice_get, option_map, Option, Some}
use Rattle.std.specs.List.{filter_map}
use Rattle.std.specs.Option.{ForSome}
use mathlib.Core.Option.{some}
use lib.ListN.{get_elem?}
use Rattle.ssq_time.specs.Time.{IsStampTime}
use Rattle.ssq_step.specs.Indexing.{Timed}
use Rattle.ssq_store.specs.declared.store.Store.{Store}
use Rattle.ssq_task.specs.declared.partition.Held.{Held}
use Rattle.ssq_meaning.specs.Cut.{Cut}
use Rattle.ssq_meaning.specs.Epochs.{out}
use Rattle.ssq_plans.specs.declared.plan.Plan.{Plan}
use Rattle.ssq_core.specs.Course.{Cuts, plan_of}
use Rattle.ssq_course.specs.Setting.{Setting, parts_in, cut_of, cuts_of, first_ends, watermark_at, course_of}
use Rattle.ssq_open.specs.declared.wanted.Opened.{Opened}
use Rattle.ssq_open.specs.Epochs.{last_ends}
use Rattle.ssq_open.specs.Numbers.{HasNumbers}
use Rattle.ssq_open.specs.Watermarks.{watermarked}
use Rattle.ssq_open.specs.Stores.{AreStores}
use Rattle.ssq_terms.specs.Partitions.{HoldsStateOf}
use Rattle.ssq_board.specs.declared.front.Cause.TheVariants as cause
use Rattle.ssq_board.specs.declared.front.Place.{Place}
use Rattle.ssq_board.specs.declared.front.Place.TheVariants as place
use Rattle.ssq_board.specs.Core.{Core}
use Rattle.ssq_board.specs.Shelf.{Shelf}
use Rattle.ssq_desk.specs.declared.desk.PartLog.{PartLog}
use Rattle.ssq_desk.specs.declared.told.Told.{Told}
use Rattle.ssq_desk.specs.Contents.{keeping_in}

-- how many lines lie between two cuts
abbrev pub lines_between : Cut → Cut → ℕ
lines_between [] tos = 0
lines_between (from ∷ froms) [] = 0
lines_between (from ∷ froms) (to ∷ tos) = (to - from) + lines_between froms tos

-- What is told of an epoch: its number, and how many lines lie between its cuts; a watermark that can be printed; and, where what was
-- opened is the job's own, the epoch's watermark and how many rows it has.
pub record IsToldOf (owned : Type 0) (s : Setting) (cuts : Cuts) (e : ℕ) (told : Told) : Type 0 where
  pub number : told.epoch ≡ e
  pub lines_are : told.lines ≡ lines_between (cut_of (cuts e)) (cut_of (cuts (e + 1)))
  pub printed : ForSome told.watermark IsStampTime
  pub watermark_is : owned → told.watermark ≡ watermark_at s cuts e
  pub rows_are : owned → told.rows ≡ length (out s.job.bound (parts_in s) (cuts_of cuts) e)

-- each of these epochs is told, in order, from the first of a round up to the next that is not
pub record AreTold (owned : Type 0) (s : Setting) (cuts : Cuts) (first next : ℕ) (told : List Told) : Type 0 where
  pub count : first + length told ≡ next
  pub each : (i : ℕ) (t : Told) → get_elem? told i ≡ some t → IsToldOf owned s cuts (first + i) t

-- a map task met a fault of its log, and the log is back, which counts the fault
pub record HasFaulty {L : Type 0} (faults : L → ℕ) (maps : List Place) (part_logs : List (PartLog L)) : Type 0 where
  pub at : ℕ
  pub part_log : PartLog L
  pub log : L
  pub here : get_elem? maps at ≡ some (place.Back (Some cause.LogFault))
  pub part_log_is : get_elem? part_logs at ≡ some part_log
  pub log_is : part_log.log ≡ Some log
  pub counted : 0 < faults log

-- the stores of what partitions keep, and their indexes, in order
abbrev pub stores_in : List (Option Held) → List Store
stores_in held = filter_map (λ own. option_map (λ (held : Held). held.store) own) held

abbrev pub closings_in : List (Option Held) → List (List Timed)
closings_in held = filter_map (λ own. option_map (λ (held : Held). held.closing) own) held

-- What the next round opens: the same job, with all epochs that are planned and committed, the opened ones first, and with the stores after these and
-- the names of the state's files that no crash can take away. It is in order, no part is planned beyond what was found; and where what was opened is the job's own, its plans, greatest times
-- and states are.
pub record IsNext (owned : Type 0) (s : Setting) (cuts : Cuts) (available : List ℕ) (c : Core) (shelf : Shelf) (opened next : Opened) : Type 0 where
  pub meta_is : next.meta ≡ opened.meta
  pub stores : AreStores (keeping_in s) next.committed next.stores
  pub names_are : next.names ≡ shelf.settled
  pub committed_is : next.committed ≡ c.front.committed
  pub planned : length next.plans ≡ c.front.planned
  pub plans_on : (more : List Plan) × (next.plans ≡ opened.plans ++ more)
  pub ends : (e : ℕ) (default : Plan) → e < length next.plans → (get_or next.plans e default).ends ≡ cuts (e + 1)
  pub numbers : HasNumbers (watermarked s.job.bound.streams) (first_ends s) next
  pub within : (i : ℕ) → get_or (cut_of (last_ends (first_ends s) next.plans)) i 0 ≤ get_or available i 0
  pub plans_are : owned → (e : ℕ) (default : Plan) → e < length next.plans → get_or next.plans e default ≡ plan_of (course_of s cuts) e
  pub seen_is : owned → next.seen ≡ (course_of s cuts).seen next.committed
  pub states : owned → (p : ℕ) → HoldsStateOf s cuts next.committed p (slice_get next.stores p)
