-- The least key on which an epoch overflows.
use Rattle.std.proofs.Common.{◌≡◌, ◌≤◌, ℕ, ℤ, List, Option, sym}
use Rattle.std.specs.Prelude.{filter_map}
use Rattle.std.specs.List.{range_with_len}
use Rattle.ssq_shape.specs.declared.bound.Bound.{Bound}
use Rattle.ssq_meaning.specs.FedRows.{FedRow}
use Rattle.ssq_meaning.specs.Epochs.{accepted, on_time, bucket}
use Rattle.ssq_meaning.specs.Group.{least_key}
use Rattle.ssq_meaning.specs.Operator.{operator_of}
use Rattle.ssq_course.specs.Setting.{parts_in, cuts_of, watermark_at}
use Rattle.ssq_terms.specs.Partitions.{mark_before, KeysAreLeast}

-- what is said of the partitions of a query
abbrev pub LeastOfAll : Type 0
LeastOfAll = (query : Bound) (partitions : ℕ) → 1 ≤ partitions → (old new : List FedRow) (before now : Option ℤ)
    → least_key (filter_map (λ p. (operator_of query).fault (bucket partitions p old) (bucket partitions p new) before now) (range_with_len 0 partitions)) ≡ (operator_of query).fault old new before now

pub keys_are_least : LeastOfAll → KeysAreLeast
keys_are_least least s cuts e some =
    sym (least s.job.bound s.job.partitions some (accepted s.job.bound (parts_in s) (cuts_of cuts) e) (on_time s.job.bound (parts_in s) (cuts_of cuts) e) (mark_before s cuts e) (watermark_at s cuts e))
