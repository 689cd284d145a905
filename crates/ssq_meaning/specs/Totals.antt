-- Aggregates: what they are of a list of values, how they are shown, and the bytes in which they are kept. NULLs are skipped.
use Rattle.std.specs.Prelude.{◌+◌, ◌==◌, ◌++◌, ℕ, ℤ, pos, ◌+ℤ◌, not, if◌then◌else◌, List, [], ◌∷◌, length, filter, fold, map, Option, Some, None}
use Rattle.std.specs.Int.{w64, w128, cast_unsigned, to_be_bytes}
use Rattle.std.specs.List.{flat_map}
use Rattle.std.specs.Ordering.{is_gt}
use Rattle.ssq_value.specs.declared.value.Value.{Value}
use Rattle.ssq_value.specs.declared.value.Value.TheVariants as value
use Rattle.ssq_value.specs.Key.{key_of}
use Rattle.ssq_value.specs.Order.{value_cmp}
use Rattle.ssq_shape.specs.declared.bound.Aggregate.{Aggregate}
use Rattle.ssq_shape.specs.declared.bound.Function.{Function}
use Rattle.ssq_shape.specs.declared.bound.Function.TheVariants as function
use Rattle.ssq_shape.specs.Evaluation.{cell_at, is_bigint, is_null}
use Rattle.ssq_meaning.specs.declared.total.Total.{Total}
use Rattle.ssq_meaning.specs.declared.total.Total.TheVariants as total

-- ---- one aggregate

-- the values that are not NULL
abbrev pub present : List Value → List Value
present values = filter (λ value. not (is_null value)) values

-- the number that a value adds to a sum
abbrev pub summand : Value → ℤ
summand value.Null = pos 0
summand (value.Int number) = number
summand (value.Text text) = pos 0
summand (value.Time time) = pos 0
summand (value.Truth truth) = pos 0

-- the exact sum of the values, in numbers of any size
abbrev pub sum_of : List Value → ℤ
sum_of values = fold (λ sum value. sum +ℤ summand value) (pos 0) values

-- of two values the one that does not stand after the other, and the one that does not stand before it; where one of them is NULL,
-- the other
unfoldable pub lesser : Value → Value → Value
lesser left right =
    if is_null right then left else if is_null left then right else if is_gt (value_cmp left right) then right else left

unfoldable pub greater : Value → Value → Value
greater left right =
    if is_null right then left else if is_null left then right else if is_gt (value_cmp right left) then right else left

-- the least of the values and the greatest of them, NULL where there is none
abbrev pub least_of : List Value → Value
least_of values = fold lesser value.Null values

abbrev pub greatest_of : List Value → Value
greatest_of values = fold greater value.Null values

abbrev pub total_of : Function → List Value → Total
total_of function.Count values = total.Count (length (present values))
total_of function.Sum values = total.Sum (length (present values)) (sum_of values)
total_of function.Min values = total.Least (least_of values)
total_of function.Max values = total.Greatest (greatest_of values)

-- ---- those of a group

-- the values of one aggregate's argument, of rows that have one value for each aggregate
abbrev pub column_of : ℕ → List (List Value) → List Value
column_of at rows = map (λ row. cell_at row at) rows

-- the totals of some aggregates, the first of which has this number
unfoldable pub totals_from : ℕ → List Aggregate → List (List Value) → List Total
totals_from at [] rows = []
totals_from at (aggregate ∷ aggregates) rows =
    total_of aggregate.function (column_of at rows) ∷ totals_from (at + 1) aggregates rows

abbrev pub totals_of : List Aggregate → List (List Value) → List Total
totals_of aggregates rows = totals_from 0 aggregates rows

-- ---- one row more

-- how many values there are with one more
abbrev pub counted : ℕ → Value → ℕ
counted count value = if is_null value then count else count + 1

abbrev pub with_value : Total → Value → Total
with_value (total.Count count) value = total.Count (counted count value)
with_value (total.Sum count sum) value = total.Sum (counted count value) (sum +ℤ summand value)
with_value (total.Least least) value = total.Least (lesser least value)
with_value (total.Greatest greatest) value = total.Greatest (greater greatest value)

-- the totals with a row more, the first of them by the value of this number
unfoldable pub with_row_from : ℕ → List Total → List Value → List Total
with_row_from at [] row = []
with_row_from at (own ∷ totals) row = with_value own (cell_at row at) ∷ with_row_from (at + 1) totals row

abbrev pub with_row : List Total → List Value → List Total
with_row totals row = with_row_from 0 totals row

-- ---- shown

-- a number as a BIGINT: there is none outside 64 bits
abbrev pub fitting : ℤ → Option Value
fitting number = if is_bigint number then Some (value.Int number) else None

-- The value that an aggregate has. A sum is NULL where there is no value, and only here it must be in 64 bits.
abbrev pub value_of : Total → Option Value
value_of (total.Count count) = fitting (pos count)
value_of (total.Sum count sum) = if count == 0 then Some value.Null else fitting sum
value_of (total.Least least) = Some least
value_of (total.Greatest greatest) = Some greatest

abbrev pub values_of_totals : List Total → List (Option Value)
values_of_totals totals = map value_of totals

-- ---- kept

-- numbers with the highest byte first: a count in eight bytes, a sum in sixteen, to which 2 ^ 128 is added where it is below 0; a value
-- as in a key
abbrev pub total_bytes : Total → List ℕ
total_bytes (total.Count count) = to_be_bytes w64 count
total_bytes (total.Sum count sum) = to_be_bytes w64 count ++ to_be_bytes w128 (cast_unsigned w128 sum)
total_bytes (total.Least least) = key_of least
total_bytes (total.Greatest greatest) = key_of greatest

-- the totals of a group, in the order of the aggregates
abbrev pub totals_bytes : List Total → List ℕ
totals_bytes totals = flat_map total_bytes totals
