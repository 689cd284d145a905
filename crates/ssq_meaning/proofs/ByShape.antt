-- What holds of the operator of each shape: what partitions show together, and the order of what is kept.
use Rattle.std.proofs.Common.{◌≤◌, ℕ, ℤ, List, Option}
use Rattle.std.specs.Prelude.{flat_map, map}
use Rattle.std.specs.Cmp.Lexicographic.{slice_cmp}
use Rattle.std.specs.List.{range_with_len}
use Rattle.std.specs.List.Sorted.{IsPermutation, IsStrictlySortedBy}
use Rattle.std.specs.Ordering.{nat_cmp}
use Rattle.ssq_shape.specs.declared.bound.Bound.{Bound}
use Rattle.ssq_shape.specs.declared.bound.Shape.{Shape}
use Rattle.ssq_shape.specs.declared.bound.Shape.TheVariants.{Plain, Group, Dedup, Join}
use Rattle.ssq_meaning.specs.FedRows.{FedRow}
use Rattle.ssq_meaning.specs.Epochs.{bucket}
use Rattle.ssq_meaning.specs.Operator.{operator_for, operator_of}
use Rattle.ssq_meaning.proofs.Coding.{kept_ascends, repeats_ascend, rows_ascend}
use Rattle.ssq_meaning.proofs.Firsts.{repeats_parted}
use Rattle.ssq_meaning.proofs.PairsParted.{pairs_parted}
use Rattle.ssq_meaning.proofs.Parted.{all_parted}
use Rattle.ssq_meaning.proofs.Together.{shown_together}

shown_by : (shape : Shape) (query : Bound) (partitions : ℕ) → 1 ≤ partitions → (old new : List FedRow) (before now : Option ℤ)
    → IsPermutation (flat_map (λ p. (operator_for shape query).added (bucket partitions p old) (bucket partitions p new) before now) (range_with_len 0 partitions)) ((operator_for shape query).added old new before now)
shown_by Plain query partitions some old new before now = shown_together partitions some new
shown_by (Group grouping) query partitions some old new before now = all_parted partitions some query grouping old new before now
shown_by (Dedup columns) query partitions some old new before now = repeats_parted partitions some query columns old new before now
shown_by (Join joining) query partitions some old new before now = pairs_parted partitions some query joining old new before now

pub all_shown : (query : Bound) (partitions : ℕ) → 1 ≤ partitions → (old new : List FedRow) (before now : Option ℤ)
    → IsPermutation (flat_map (λ p. (operator_of query).added (bucket partitions p old) (bucket partitions p new) before now) (range_with_len 0 partitions)) ((operator_of query).added old new before now)
unfolding operator_of
all_shown query partitions some old new before now = shown_by query.shape query partitions some old new before now

ascends_by : (shape : Shape) (query : Bound) (rows : List FedRow) (now : Option ℤ) → IsStrictlySortedBy (slice_cmp nat_cmp) (map (λ (entry : List ℕ × List ℕ). entry.0) ((operator_for shape query).state rows now))
unfolding IsStrictlySortedBy
ascends_by Plain query rows now = tt
ascends_by (Group grouping) query rows now = kept_ascends query grouping rows now
ascends_by (Dedup columns) query rows now = repeats_ascend query columns rows now
ascends_by (Join joining) query rows now = rows_ascend joining rows now

pub all_ascend : (query : Bound) (rows : List FedRow) (now : Option ℤ) → IsStrictlySortedBy (slice_cmp nat_cmp) (map (λ (entry : List ℕ × List ℕ). entry.0) ((operator_of query).state rows now))
unfolding operator_of
all_ascend query rows now = ascends_by query.shape query rows now
