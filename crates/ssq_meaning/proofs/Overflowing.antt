-- The least key on which an epoch overflows is that of its partitions; where none of them overflows, the epoch does not.
use Rattle.std.proofs.Common.{◌≡◌, ◌≤◌, ◌<◌, ◌+◌, [], ℕ, zero, suc, ℤ, List, Option, None, refl, ap, sym, ◌∙◌, arith}
use Rattle.std.specs.Prelude.{filter_map}
use Rattle.std.specs.List.{cons_option, range_with_len}
use Rattle.ssq_shape.specs.declared.bound.Bound.{Bound}
use Rattle.ssq_shape.specs.declared.bound.Shape.{Shape}
use Rattle.ssq_shape.specs.declared.bound.Shape.TheVariants.{Plain, Group, Dedup, Join}
use Rattle.ssq_meaning.specs.FedRows.{FedRow}
use Rattle.ssq_meaning.specs.Cut.{Cuts}
use Rattle.ssq_meaning.specs.Epochs.{accepted, on_time, watermark, watermark_before, bucket, key_fault}
use Rattle.ssq_meaning.specs.Group.{least_key}
use Rattle.ssq_meaning.specs.Meaning.{Values}
use Rattle.ssq_meaning.specs.Operator.{operator_for, operator_of}
use Rattle.ssq_meaning.specs.Parts.{Part}
use Rattle.ssq_meaning.proofs.PairsParted.{fault_joined}
use Rattle.ssq_meaning.proofs.Parted.{fault_parted}

none_at : (f : ℕ → Option Values) (from many : ℕ) → ((p : ℕ) → from ≤ p → p < from + many → f p ≡ None) → filter_map f (range_with_len from many) ≡ []
none_at f from zero none = refl
none_at f from (suc many) none =
    ap (λ o. cons_option o (filter_map f (range_with_len (from + 1) many))) (none from (omega arith) (omega arith))
    ∙ none_at f (from + 1) many (λ p low high. none p (omega (arith, low)) (omega (arith, high)))

least_by : (shape : Shape) (query : Bound) (partitions : ℕ) → 1 ≤ partitions → (old new : List FedRow) (before now : Option ℤ)
    → least_key (filter_map (λ p. (operator_for shape query).fault (bucket partitions p old) (bucket partitions p new) before now) (range_with_len 0 partitions)) ≡ (operator_for shape query).fault old new before now
least_by Plain query partitions some old new before now = ap least_key (none_at (λ p. None) 0 partitions (λ p low high. refl))
least_by (Group grouping) query partitions some old new before now = fault_parted partitions some query grouping old new before now
least_by (Dedup columns) query partitions some old new before now = ap least_key (none_at (λ p. None) 0 partitions (λ p low high. refl))
least_by (Join joining) query partitions some old new before now = fault_joined partitions some query joining old new before now

-- the least of the keys on which the partitions overflow is that of all
pub least_of_partitions : (query : Bound) (partitions : ℕ) → 1 ≤ partitions → (old new : List FedRow) (before now : Option ℤ)
    → least_key (filter_map (λ p. (operator_of query).fault (bucket partitions p old) (bucket partitions p new) before now) (range_with_len 0 partitions)) ≡ (operator_of query).fault old new before now
unfolding operator_of
least_of_partitions query partitions some old new before now = least_by query.shape query partitions some old new before now

pub no_key_fault : (query : Bound) (parts : List Part) (cuts : Cuts) (e partitions : ℕ) → 1 ≤ partitions
    → ((p : ℕ) → p < partitions → (operator_of query).fault (bucket partitions p (accepted query parts cuts e)) (bucket partitions p (on_time query parts cuts e)) (watermark_before query parts cuts e) (watermark query parts cuts e) ≡ None)
    → key_fault query parts cuts e ≡ None
no_key_fault query parts cuts e partitions some none =
    let old = accepted query parts cuts e in
    let new = on_time query parts cuts e in
    let before = watermark_before query parts cuts e in
    let now = watermark query parts cuts e in
    sym (least_of_partitions query partitions some old new before now)
    ∙ ap least_key (none_at (λ p. (operator_of query).fault (bucket partitions p old) (bucket partitions p new) before now) 0 partitions (λ p low high. none p (omega (arith, high))))
