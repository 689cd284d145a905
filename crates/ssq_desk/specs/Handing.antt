-- What is taken out of a desk for a task.
use Rattle.std.specs.Prelude.{◌≡◌, ◌<◌, ◌==◌, ℕ, ℤ, List, [], ◌∷◌, length, map, set, Option, Some, None, IfSome, if◌then◌else◌}
use Rattle.ssq_time.specs.Time.{IsLineTime}
use Rattle.ssq_route.specs.Buckets.{bucket_at}
use Rattle.ssq_meaning.specs.FedRows.{FedRow}
use Rattle.ssq_meaning.specs.Times.{greatest}
use Rattle.ssq_meaning.specs.Epochs.{joined}
use Rattle.ssq_feed.specs.declared.task.FedRows.{FedRows}
use Rattle.ssq_task.specs.declared.partition.Held.{Held}
use Rattle.ssq_task.specs.declared.partition.State.{State}
use Rattle.ssq_desk.specs.declared.desk.PartLog.{PartLog}

-- what a reduce task gets of its partition: what the partition keeps, with its file aside
abbrev pub state_with : {S : Type 0} → Option Held → Option S → Option (State S)
state_with (Some held) (Some stage) = Some (record { held = held; stage = stage })
state_with (Some held) None = None
state_with None stage = None

-- a bucket was taken out of what was fed of a part, or nothing was
pub record IsTaken {L : Type 0} (p : ℕ) (old new : PartLog L) : Type 0 where
  pub stream_is : new.stream ≡ old.stream
  pub part_is : new.part ≡ old.part
  pub from_is : new.from ≡ old.from
  pub log_is : new.log ≡ old.log
  pub none : old.fed ≡ None → new.fed ≡ None
  pub taken : (fed : FedRows) → old.fed ≡ Some fed → (left : FedRows) × (new.fed ≡ Some left) × (left.time ≡ fed.time) × (left.buckets ≡ set fed.buckets p [])

-- the bucket of a partition in what was fed of a part
abbrev pub bucket_in_fed : ℕ → Option FedRows → List FedRow
bucket_in_fed p None = []
bucket_in_fed p (Some fed) = bucket_at fed.buckets p

-- what was fed of a part can be apart by so many partitions
abbrev pub HasBucket : {L : Type 0} → ℕ → PartLog L → Type 0
HasBucket p part_log = IfSome part_log.fed (λ fed. p < length fed.buckets)

-- the greatest time of what was fed of a part
abbrev pub time_of : Option FedRows → Option ℤ
time_of None = None
time_of (Some fed) = fed.time

-- the time is one of a line
abbrev pub HasLineTime : {L : Type 0} → PartLog L → Type 0
HasLineTime part_log = IfSome (time_of part_log.fed) IsLineTime

module _ {L : Type 0} where
  -- from each part the bucket was taken
  abbrev pub AreTaken : ℕ → List (PartLog L) → List (PartLog L) → Type 0
  AreTaken p [] [] = Unit {0}
  AreTaken p [] (new ∷ news) = ⊥
  AreTaken p (old ∷ olds) [] = ⊥
  AreTaken p (old ∷ olds) (new ∷ news) = IsTaken p old new × AreTaken p olds news

  -- each part is of one of the first so many streams, and its greatest time is one of a line
  abbrev pub CanRaise : ℕ → List (PartLog L) → Type 0
  CanRaise streams [] = Unit {0}
  CanRaise streams (part_log ∷ part_logs) = (part_log.stream < streams) × HasLineTime part_log × CanRaise streams part_logs

  -- the buckets of a partition, part by part
  abbrev pub buckets_in : ℕ → List (PartLog L) → List FedRow
  buckets_in p part_logs = joined (map (λ part_log. bucket_in_fed p part_log.fed) part_logs)

  -- the greatest time of what was fed of a part, where that is one of this stream
  abbrev pub time_of_part_log : ℕ → PartLog L → Option ℤ
  time_of_part_log stream part_log = if part_log.stream == stream then time_of part_log.fed else None

  -- the greatest time of a stream among what was fed of the parts
  abbrev pub time_in_part_logs : ℕ → List (PartLog L) → Option ℤ
  time_in_part_logs stream part_logs = greatest (map (time_of_part_log stream) part_logs)
