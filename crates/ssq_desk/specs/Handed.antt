-- The tasks of the epoch that a desk runs.
use Rattle.std.specs.Prelude.{ℕ, List}
use Rattle.ssq_outside.specs.History.{History}
use Rattle.ssq_meaning.specs.Meaning.{Line}
use Rattle.ssq_feed.specs.Causes.{LogWent}
use Rattle.ssq_feed.specs.declared.task.MapTask.{MapTask}
use Rattle.ssq_task.specs.declared.partition.ReduceTask.{ReduceTask}
use Rattle.ssq_task.specs.declared.out.OutTask.{OutTask}
use Rattle.ssq_ledger.specs.Shown.{Shown, cuts_of}
use Rattle.ssq_desk.specs.declared.round.Round.{Round}
use Rattle.ssq_desk.specs.declared.task.Task.{Task}
use Rattle.ssq_desk.specs.declared.task.Task.TheVariants as task
use Rattle.ssq_desk.specs.Round.{setting_of, Owns}
use Rattle.ssq_desk.specs.Tasks.{IsMapTask, IsReduceTask, IsOutTask}
use Rattle.ssq_desk.specs.Whole.{opening_in}

module _ {D L : Type 0} (stores logs : Type 0) (history : D → History) (lines : L → List Line) where
  -- a map task is that of its part in the epoch that a desk runs
  abbrev pub IsMapOf : (L → ℕ) → (L → List ℕ) → (L → ℕ) → Shown D (Round L) → MapTask L → Type 0
  IsMapOf available answers faults shown task =
      IsMapTask (stores × logs) lines available (LogWent logs lines available answers faults) shown.opening.logs.items (setting_of lines shown.opening) (cuts_of (opening_in lines) shown) shown.core.front.committed shown.scope.available task

  -- a reduce task that of its partition
  abbrev pub IsReduceOf : {S F : Type 0} → (S → List ℕ) → Shown D (Round L) → ReduceTask S F → Type 0
  IsReduceOf written shown task = IsReduceTask (Owns stores logs history lines shown) written (setting_of lines shown.opening) (cuts_of (opening_in lines) shown) shown.core.front.committed task

  -- and the out task
  abbrev pub IsOutOf : {S F : Type 0} → (S → List ℕ) → Shown D (Round L) → OutTask S F → Type 0
  IsOutOf written shown task = IsOutTask (Owns stores logs history lines shown) written (setting_of lines shown.opening) (cuts_of (opening_in lines) shown) shown.core.front.committed task

  abbrev pub IsTaskOf : {S F : Type 0} → (L → ℕ) → (L → List ℕ) → (L → ℕ) → (S → List ℕ) → Shown D (Round L) → Task L S F → Type 0
  IsTaskOf available answers faults written shown (task.Map t) = IsMapOf available answers faults shown t
  IsTaskOf available answers faults written shown (task.Reduce t) = IsReduceOf written shown t
  IsTaskOf available answers faults written shown (task.Out t) = IsOutOf written shown t
