-- The result of a map task.
use Rattle.std.specs.Prelude.{◌≡◌, ℕ, List, IfOk, IfErr}
use Rattle.ssq_meaning.specs.Meaning.{Line}
use Rattle.ssq_feed.specs.Rows.{IsFedFrom}
use Rattle.ssq_feed.specs.Causes.{LogWent, FeedCause}
use Rattle.ssq_feed.specs.declared.task.MapTask.{MapTask}
use Rattle.ssq_feed.specs.declared.task.Fed.{Fed}

module _ {L : Type 0} (tells : Type 0) (lines : L → List Line) (available : L → ℕ) (answers : L → List ℕ) (faults : L → ℕ) where
  -- Each field of the task comes back; its log went as reading leaves it; and what came of the task is the rows of its range, apart by
  -- partition, or why there are none.
  pub record IsFed (task : MapTask L) (done : Fed L) : Type 0 where
    pub view : done.view ≡ task.view
    pub epoch : done.epoch ≡ task.epoch
    pub number : done.number ≡ task.number
    pub stream : done.stream ≡ task.stream
    pub part : done.part ≡ task.part
    pub from : done.from ≡ task.from
    pub to : done.to ≡ task.to
    pub log : LogWent tells lines available answers faults task.log done.log
    pub rows : IfOk done.outcome (λ fed. IsFedFrom tells task.view.bound.now task.epoch (record { stream = task.stream; part = task.part; lines = lines task.log }) task.from task.to
        task.view.partitions fed.time fed.buckets)
    pub fault : IfErr done.outcome (FeedCause tells lines available answers faults task.view.bound.now task.stream task.part task.from task.to task.log done.log)
