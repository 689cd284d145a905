-- The aggregates of a group have their types, and are ones that a query can keep.
use Rattle.std.proofs.Common.{◌≡◌, sym, subst, ◌+◌, ◌∷◌, [], ℕ, zero, suc, ℤ, pos, List, map, filter, Option, Some, None, Result, Ok, Err, Bool, true, false, refl, arith}
use Rattle.std.specs.Prelude.{◌==◌, IfOk, IfSome, FitsSigned, drop, fold, length, not, slice_get, if◌then◌else◌}
use Rattle.std.specs.Int.{w64}
use Rattle.std.specs.List.{AllByRecursion}
use Rattle.std.specs.Ordering.{is_gt}
use Rattle.ssq_value.specs.declared.column.ColType.{ColType}
use Rattle.ssq_value.specs.declared.column.ColType.TheVariants as type
use Rattle.ssq_value.specs.declared.value.Value.{Value}
use Rattle.ssq_value.specs.declared.value.Value.TheVariants as value
use Rattle.ssq_value.specs.Kind.{IsHeldBy}
use Rattle.ssq_value.specs.Order.{value_cmp}
use Rattle.ssq_shape.specs.declared.bound.Aggregate.{Aggregate}
use Rattle.ssq_shape.specs.declared.bound.Function.{Function}
use Rattle.ssq_shape.specs.declared.bound.Function.TheVariants as function
use Rattle.ssq_shape.specs.declared.typed.Typed.{Typed}
use Rattle.ssq_shape.specs.Evaluation.{cell_at, is_bigint, is_null}
use Rattle.ssq_shape.specs.Fit.{IsFit}
use Rattle.ssq_shape.specs.Kinds.{AreFoundIn, gives, is_typed, is_kind, kind_in}
use Rattle.ssq_meaning.specs.Meaning.{Values}
use Rattle.ssq_meaning.specs.Totals.{column_of, fitting, greater, greatest_of, least_of, lesser, present, sum_of, total_of, totals_from, value_of, values_of_totals}
use Rattle.ssq_bind.specs.Typed.{aggregate_kind, argument_kind}
use Rattle.ssq_tables.proofs.Storing.{counted}
use Rattle.ssq_tables.proofs.Typed.{AreArguments, IsArgument}

-- ---- the least and the greatest

module _ (P : Value → Type 0) where
  if_one : (b : Bool) (left right : Value) → P left → P right → P (if b then left else right)
  if_one true left right one other = one
  if_one false left right one other = other

  lesser_has : (left right : Value) → P left → P right → P (lesser left right)
  unfolding lesser
  lesser_has left right one other =
      if_one (is_null right) left (if is_null left then right else if is_gt (value_cmp left right) then right else left) one
      (if_one (is_null left) right (if is_gt (value_cmp left right) then right else left) other (if_one (is_gt (value_cmp left right)) right left other one))

  greater_has : (left right : Value) → P left → P right → P (greater left right)
  unfolding greater
  greater_has left right one other =
      if_one (is_null right) left (if is_null left then right else if is_gt (value_cmp right left) then right else left) one
      (if_one (is_null left) right (if is_gt (value_cmp right left) then right else left) other (if_one (is_gt (value_cmp right left)) right left other one))

  fold_has : (pick : Value → Value → Value) → ((left right : Value) → P left → P right → P (pick left right)) → (values : Values) (start : Value) → P start → AllByRecursion P values → P (fold pick start values)
  fold_has pick each [] start own all = own
  fold_has pick each (next ∷ values) start own all = fold_has pick each values (pick start next) (each start next own all.0) all.1

  fitting_has : ((n : ℤ) → is_bigint n ≡ true → P (value.Int n)) → (n : ℤ) → IfSome (fitting n) P
  fitting_has each n = by (is_bigint n) (λ is. each n is)
    where
      by : (b : Bool) → (b ≡ true → P (value.Int n)) → IfSome (if b then Some (value.Int n) else None) P
      by true give = give refl
      by false give = tt

  sum_has : P value.Null → ((n : ℤ) → is_bigint n ≡ true → P (value.Int n)) → (count : ℕ) (n : ℤ) → IfSome (if count == 0 then Some value.Null else fitting n) P
  sum_has null each count n = by (count == 0)
    where
      by : (b : Bool) → IfSome (if b then Some value.Null else fitting n) P
      by true = null
      by false = fitting_has each n

-- ---- one aggregate

counts_are : (rows : List ColType) (argument : Option Typed) (kind : ColType) → argument_kind rows function.Count argument ≡ Some kind → type.Bigint ≡ kind
counts_are rows None kind is = cc
counts_are rows (Some x) kind is = by (is_typed (kind_in rows x)) is
  where
    by : (b : Bool) → gives type.Bigint b ≡ Some kind → type.Bigint ≡ kind
    by true is = cc
    by false is = absurd cc

sums_are : (rows : List ColType) (argument : Option Typed) (kind : ColType) → argument_kind rows function.Sum argument ≡ Some kind → type.Bigint ≡ kind
sums_are rows None kind is = absurd cc
sums_are rows (Some x) kind is = by (is_kind type.Bigint (kind_in rows x)) is
  where
    by : (b : Bool) → gives type.Bigint b ≡ Some kind → type.Bigint ≡ kind
    by true is = cc
    by false is = absurd cc

total_held : (rows : List ColType) (f : Function) (argument : Option Typed) (kind : ColType) → argument_kind rows f argument ≡ Some kind → (values : Values) → AllByRecursion (IsArgument kind f) values
    → IfSome (value_of (total_of f values)) (IsHeldBy kind)
total_held rows function.Count argument kind is values all = fitting_has (IsHeldBy kind) (λ n fits. counts_are rows argument kind is) (pos (length (present values)))
total_held rows function.Sum argument kind is values all = sum_has (IsHeldBy kind) tt (λ n fits. sums_are rows argument kind is) (length (present values)) (sum_of values)
total_held rows function.Min argument kind is values all = fold_has (IsHeldBy kind) lesser (lesser_has (IsHeldBy kind)) values value.Null tt all
total_held rows function.Max argument kind is values all = fold_has (IsHeldBy kind) greater (greater_has (IsHeldBy kind)) values value.Null tt all

total_fit : (f : Function) (values : Values) → AllByRecursion IsFit values → IfSome (value_of (total_of f values)) IsFit
total_fit function.Count values all = fitting_has IsFit counted (pos (length (present values)))
total_fit function.Sum values all = sum_has IsFit tt counted (length (present values)) (sum_of values)
total_fit function.Min values all = fold_has IsFit lesser (lesser_has IsFit) values value.Null tt all
total_fit function.Max values all = fold_has IsFit greater (greater_has IsFit) values value.Null tt all

-- ---- those of a group

cell_fits : (row : Values) (at : ℕ) → AllByRecursion IsFit row → IsFit (cell_at row at)
cell_fits [] at all = tt
cell_fits (own ∷ row) zero all = all.0
cell_fits (own ∷ row) (suc at) all = cell_fits row at all.1

column_fits : (at : ℕ) (rows : List Values) → AllByRecursion (AllByRecursion IsFit) rows → AllByRecursion IsFit (column_of at rows)
column_fits at [] all = tt
column_fits at (row ∷ rows) all = (cell_fits row at all.0, column_fits at rows all.1)

pub aggregates_fit : (aggregates : List Aggregate) (at : ℕ) (rows : List Values) → AllByRecursion (AllByRecursion IsFit) rows → AllByRecursion (λ aggregate. IfSome aggregate IsFit) (values_of_totals (totals_from at aggregates rows))
unfolding totals_from
aggregates_fit [] at rows all = tt
aggregates_fit (aggregate ∷ aggregates) at rows all = (total_fit aggregate.function (column_of at rows) (column_fits at rows all), aggregates_fit aggregates (at + 1) rows all)

-- the arguments from one on
cell_is : (kind : ColType) (kinds : List ColType) (aggregate : Aggregate) (aggregates : List Aggregate) (row : Values) (at : ℕ) → AreArguments (kind ∷ kinds) (aggregate ∷ aggregates) (drop at row) → IsArgument kind aggregate.function (cell_at row at)
cell_is kind kinds aggregate aggregates [] zero are = absurd are
cell_is kind kinds aggregate aggregates [] (suc at) are = absurd are
cell_is kind kinds aggregate aggregates (own ∷ row) zero are = are.0
cell_is kind kinds aggregate aggregates (own ∷ row) (suc at) are = cell_is kind kinds aggregate aggregates row at are

cells_are : (kind : ColType) (kinds : List ColType) (aggregate : Aggregate) (aggregates : List Aggregate) (row : Values) (at : ℕ) → AreArguments (kind ∷ kinds) (aggregate ∷ aggregates) (drop at row) → AreArguments kinds aggregates (drop (at + 1) row)
cells_are kind kinds aggregate aggregates [] zero are = absurd are
cells_are kind kinds aggregate aggregates [] (suc at) are = absurd are
cells_are kind kinds aggregate aggregates (own ∷ row) zero are = are.1
cells_are kind kinds aggregate aggregates (own ∷ row) (suc at) are =
    let same : suc (at + 1) ≡ suc at + 1 = omega arith in
    subst (λ (n : ℕ). AreArguments kinds aggregates (drop n (own ∷ row))) same (cells_are kind kinds aggregate aggregates row at are)

module _ (kind : ColType) (kinds : List ColType) (aggregate : Aggregate) (aggregates : List Aggregate) (at : ℕ) where
  column_is : (rows : List Values) → AllByRecursion (λ row. AreArguments (kind ∷ kinds) (aggregate ∷ aggregates) (drop at row)) rows → AllByRecursion (IsArgument kind aggregate.function) (column_of at rows)
  column_is [] all = tt
  column_is (row ∷ rows) all = (cell_is kind kinds aggregate aggregates row at all.0, column_is rows all.1)

  columns_are : (rows : List Values) → AllByRecursion (λ row. AreArguments (kind ∷ kinds) (aggregate ∷ aggregates) (drop at row)) rows → AllByRecursion (λ row. AreArguments kinds aggregates (drop (at + 1) row)) rows
  columns_are [] all = tt
  columns_are (row ∷ rows) all = (cells_are kind kinds aggregate aggregates row at all.0, columns_are rows all.1)

pub aggregates_held : (rows : List ColType) (aggregates : List Aggregate) (kinds : List ColType) (at : ℕ) (members : List Values) → map (aggregate_kind rows) aggregates ≡ map Some kinds
    → AllByRecursion (λ row. AreArguments kinds aggregates (drop at row)) members → AreFoundIn kinds (values_of_totals (totals_from at aggregates members))
unfolding totals_from
aggregates_held rows [] [] at members is all = tt
aggregates_held rows [] (kind ∷ kinds) at members is all = absurd cc
aggregates_held rows (aggregate ∷ aggregates) [] at members is all = absurd cc
aggregates_held rows (aggregate ∷ aggregates) (kind ∷ kinds) at members is all =
    let first : aggregate_kind rows aggregate ≡ Some kind = cc in
    let rest : map (aggregate_kind rows) aggregates ≡ map Some kinds = cc in (
      total_held rows aggregate.function aggregate.argument kind first (column_of at members) (column_is kind kinds aggregate aggregates at members all),
      aggregates_held rows aggregates kinds (at + 1) members rest (columns_are kind kinds aggregate aggregates at members all),
    )
