-- What the partitions show, put together, is what the epoch shows.
use Rattle.std.proofs.Common.{◌≡◌, ◌<◌, ◌≤◌, ◌+◌, [], ◌∷◌, ℕ, suc, ℤ, List, Option, subst, arith, length, get_or}
use Rattle.std.specs.List.{flat_map, range_with_len}
use Rattle.std.specs.List.Sorted.{IsPermutation}
use Rattle.std.proofs.lemmas.List.Sorted.{IsPermutation-append, IsPermutation-refl, IsPermutation-trans}
use Rattle.ssq_shape.specs.declared.bound.Bound.{Bound}
use Rattle.ssq_meaning.specs.FedRows.{FedRow}
use Rattle.ssq_meaning.specs.Meaning.{Values}
use Rattle.ssq_meaning.specs.Operator.{operator_of}
use Rattle.ssq_meaning.specs.Epochs.{accepted, bucket, joined, on_time, out, watermark_before}
use Rattle.ssq_sink.proofs.Rows.{sink_text-permutation}
use Rattle.ssq_core.specs.Course.{Cuts}
use Rattle.ssq_course.specs.Setting.{Setting, cuts_of, parts_in, partition_out, watermark_at}
use Rattle.ssq_course.specs.Laws.{AreShownApart, PartitionsShowRows}

-- the law of partitions
abbrev pub AreParted : Type 0
AreParted = (query : Bound) (partitions : ℕ) → 1 ≤ partitions → (old new : List FedRow) (before now : Option ℤ)
    → IsPermutation (flat_map (λ p. (operator_of query).added (bucket partitions p old) (bucket partitions p new) before now) (range_with_len 0 partitions)) ((operator_of query).added old new before now)

-- rows of each partition, in any order, are those rows
each_in_order : (shows : ℕ → List Values) (at : ℕ) (shown : List (List Values)) → ((p : ℕ) → p < length shown → IsPermutation (get_or shown p []) (shows (at + p)))
    → IsPermutation (joined shown) (flat_map shows (range_with_len at (length shown)))
each_in_order shows at [] each = IsPermutation-refl []
each_in_order shows at (own ∷ shown) each =
    IsPermutation-append _ _ _ _ (subst (λ (p : ℕ). IsPermutation own (shows p)) (let same : at + 0 ≡ at = omega arith in same) (each 0 (omega arith)))
    (each_in_order shows (at + 1) shown (λ p less. subst (λ (n : ℕ). IsPermutation (get_or shown p []) (shows n)) (let same : at + suc p ≡ at + 1 + p = omega arith in same) (each (suc p) (omega (arith, less)))))

module _ (s : Setting) (cuts : Cuts) (e : ℕ) (shown : List (List Values)) (some : 1 ≤ s.job.partitions) (apart : AreShownApart s cuts e shown) (parted : AreParted) where
  each_shown : IsPermutation (joined shown) (flat_map (partition_out s cuts e) (range_with_len 0 s.job.partitions))
  each_shown =
      subst (λ (n : ℕ). IsPermutation (joined shown) (flat_map (partition_out s cuts e) (range_with_len 0 n))) apart.count
      (each_in_order (partition_out s cuts e) 0 shown (λ p less.
      subst (λ (n : ℕ). IsPermutation (get_or shown p []) (partition_out s cuts e n)) (let same : p ≡ 0 + p = omega arith in same) (apart.each p (omega (arith, less, apart.count)))))

  rows_are : IsPermutation (joined shown) (out s.job.bound (parts_in s) (cuts_of cuts) e)
  rows_are =
      IsPermutation-trans _ _ _ each_shown
      (parted s.job.bound s.job.partitions some (accepted s.job.bound (parts_in s) (cuts_of cuts) e) (on_time s.job.bound (parts_in s) (cuts_of cuts) e)
      (watermark_before s.job.bound (parts_in s) (cuts_of cuts) e) (watermark_at s cuts e))

pub show_rows : AreParted → PartitionsShowRows
show_rows parted s cuts e shown some apart =
    let rows = rows_are s cuts e shown some apart parted in
    record { rows = rows; text = sink_text-permutation s.job.bound (joined shown) (out s.job.bound (parts_in s) (cuts_of cuts) e) rows }
