-- The tasks that a desk hands out.
use Rattle.std.specs.Prelude.{◌≡◌, ◌<◌, ◌≤◌, ◌+◌, ◌^◌, ℕ, List, [], map, get_or, slice_get, All, Option, Some, None}
use Rattle.ssq_time.specs.Time.{IsStampTime}
use Rattle.ssq_value.specs.Kind.{IfTime}
use Rattle.ssq_outside.specs.declared.gate.TaskId.{TaskId}
use Rattle.ssq_outside.specs.declared.gate.Kind.TheVariants as kind
use Rattle.ssq_shape.specs.Windows.{HasWindows}
use Rattle.ssq_meaning.specs.declared.fed_row.View.{View}
use Rattle.ssq_meaning.specs.Fit.{IsFitRow}
use Rattle.ssq_meaning.specs.Meaning.{Line}
use Rattle.ssq_meaning.specs.Parts.{Part}
use Rattle.ssq_meaning.specs.Epochs.{bucket, fed}
use Rattle.ssq_feed.specs.declared.task.MapTask.{MapTask}
use Rattle.ssq_task.specs.declared.partition.State.{State}
use Rattle.ssq_task.specs.declared.partition.ReduceTask.{ReduceTask}
use Rattle.ssq_task.specs.declared.out.OutTask.{OutTask}
use Rattle.ssq_task.specs.Lists.{joined_vecs}
use Rattle.ssq_core.specs.Course.{Cuts}
use Rattle.ssq_course.specs.Setting.{Setting, parts_in, cut_of, cuts_of, watermark_at}
use Rattle.ssq_terms.specs.Rows.{AreShown}
use Rattle.ssq_desk.specs.declared.task.Task.{Task}
use Rattle.ssq_desk.specs.declared.task.Task.TheVariants as task
use Rattle.ssq_desk.specs.Contents.{IsLogOf, AreSeen, IsHeldOf, keeping_in}

abbrev pub map_id : ℕ → ℕ → TaskId
map_id e i = record { epoch = e; kind = kind.Map; number = i }

abbrev pub reduce_id : ℕ → ℕ → TaskId
reduce_id e p = record { epoch = e; kind = kind.Reduce; number = p }

abbrev pub out_id : ℕ → TaskId
out_id e = record { epoch = e; kind = kind.Out; number = 0 }

-- the view is of this setting, and each of its windows is one that a query can have
pub record IsViewOf (s : Setting) (view : View) : Type 0 where
  pub bound : view.bound.now ≡ s.job.bound
  pub partitions : view.partitions ≡ s.job.partitions
  pub windows : HasWindows view.bound.now

-- a map task is that of its part in epoch e: with the part's log, from where the epoch before
-- ended
pub record IsMapTask {L : Type 0} (reads : Type 0) (lines : L → List Line) (available : L → ℕ) (went : L → L → Type 0) (opened : List L) (s : Setting) (cuts : Cuts) (e : ℕ) (found : List ℕ) (task : MapTask L) : Type 0 where
  pub part : Part
  pub there : slice_get (parts_in s) task.number ≡ Some part
  pub view : IsViewOf s task.view
  pub epoch : task.epoch ≡ e
  pub stream : part.stream ≡ task.stream
  pub number : part.part ≡ task.part
  pub from : task.from ≡ get_or (cut_of (cuts e)) task.number 0
  pub to : task.to ≡ get_or (cut_of (cuts (e + 1))) task.number 0
  pub log : IsLogOf reads lines available went opened task.number part (get_or found task.number 0) task.log

-- What a reduce task gets of its partition: where it keeps state, what it keeps after the epochs before, and a file aside that is empty; and else
-- nothing.
abbrev pub IsStateFor : {S : Type 0} → Type 0 → (S → List ℕ) → Setting → Cuts → (e p : ℕ) → Option (State S) → Type 0
IsStateFor owned written s cuts e p None = keeping_in s ≤ p
IsStateFor owned written s cuts e p (Some state) = (p < keeping_in s) × IsHeldOf owned s cuts e p state.held × (owned → written state.stage ≡ [])

-- A reduce task is that of its partition in epoch e: with the rows that the parts feed to it, each of which a state can hold, and with what the
-- partition keeps.
pub record IsReduceTask {S F : Type 0} (owned : Type 0) (written : S → List ℕ) (s : Setting) (cuts : Cuts) (e : ℕ) (task : ReduceTask S F) : Type 0 where
  pub below : task.partition < s.job.partitions
  pub view : IsViewOf s task.view
  pub epoch : task.epoch ≡ e
  pub few : task.epoch < 2 ^ 32
  pub watermark : owned → task.watermark ≡ watermark_at s cuts e
  pub fit : All IsFitRow (joined_vecs task.rows.items)
  pub rows : owned → joined_vecs task.rows.items ≡ bucket s.job.partitions task.partition (fed s.job.bound (parts_in s) (cuts_of cuts) e)
  pub state : IsStateFor owned written s cuts e task.partition task.state

-- the out task is that of epoch e: with the rows that the partitions show, the greatest times up to it, and two files that are empty
pub record IsOutTask {S F : Type 0} (owned : Type 0) (written : S → List ℕ) (s : Setting) (cuts : Cuts) (e : ℕ) (task : OutTask S F) : Type 0 where
  pub view : IsViewOf s task.view
  pub epoch : task.epoch ≡ e
  pub times : AreSeen owned s cuts (e + 1) task.seen
  pub printable : All (All (IfTime IsStampTime)) (joined_vecs task.rows.items)
  pub rows : owned → AreShown s cuts e (map (λ rows. rows.items) task.rows.items)
  pub rows_empty : owned → written task.stages.rows ≡ []
  pub commit_empty : owned → written task.stages.commit ≡ []

module _ {L S F : Type 0} where
  abbrev pub id_of : Task L S F → TaskId
  id_of (task.Map t) = map_id t.epoch t.number
  id_of (task.Reduce t) = reduce_id t.epoch t.partition
  id_of (task.Out t) = out_id t.epoch
