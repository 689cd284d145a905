-- What an expression is on a row, and on a group. Logic is three-valued: TRUE, FALSE and NULL.
--
-- An operand of another type than the operator's is read as NULL. No expression that was bound has one.
use Rattle.std.specs.Prelude.{ℕ, ◌+◌, ◌-◌, ◌^◌, ℤ, pos, negsuc, neg_ℤ, ◌+ℤ◌, ◌-ℤ◌, ◌*ℤ◌, int_le, int_div, int_rem, nat_le, Bool, true, false, not, ◌&&◌, ◌||◌, if◌then◌else◌, List, [], ◌++◌, length, slice_get, Option, Some, None, Result, Ok, Err}
use Rattle.std.specs.Ordering.{int_eq}
use Rattle.std.specs.Str.{is_utf8}
use Rattle.std.specs.declared.cmp.Ordering.{Ordering}
use Rattle.std.specs.Ordering.{is_eq, is_ne, is_lt, is_le, is_gt, is_ge}
use Rattle.ssq_value.specs.declared.value.Value.{Value}
use Rattle.ssq_value.specs.declared.value.Value.TheVariants.{Null, Int, Text, Time, Truth}
use Rattle.ssq_value.specs.Order.{value_cmp}
use Rattle.ssq_time.specs.Time.{is_stamp_time}
use Rattle.ssq_shape.specs.declared.typed.Arithmetic.{Arithmetic}
use Rattle.ssq_shape.specs.declared.typed.Arithmetic.TheVariants.{Plus, Minus, Times, Quotient, Remainder}
use Rattle.ssq_shape.specs.declared.typed.Comparison.{Comparison}
use Rattle.ssq_shape.specs.declared.typed.Comparison.TheVariants.{Equal, NotEqual, Less, AtMost, Greater, AtLeast}
use Rattle.ssq_shape.specs.declared.typed.Typed.{Typed}
use Rattle.ssq_shape.specs.Boxes.{only}
use Rattle.ssq_shape.specs.declared.typed.Typed.TheVariants.{Column, Aggregate, Constant, Negated', Not', IsNull', Arithmetic', Shifted', Joined', Compared', Between', And', Or'}

-- The one fault: a number outside 64 bits, a time outside the years 0001 to 9999, or a text that `||` made too long.
pub data Overflow : Type 0 where
  overflow : Overflow

-- what evaluating gives: a value, which may be NULL, or an overflow
abbrev pub Evaluated : Type 0
Evaluated = Result Value Overflow

-- the rest of an evaluation, where the first part did not overflow
abbrev pub and_then : {A B : Type 0} → Result A Overflow → (A → Result B Overflow) → Result B Overflow
and_then (Ok value) f = f value
and_then (Err e) f = Err e

-- What a value is as an operand; None is NULL.
abbrev pub number_in : Value → Option ℤ
number_in (Int number) = Some number
number_in _ = None

abbrev pub time_in : Value → Option ℤ
time_in (Time time) = Some time
time_in _ = None

abbrev pub text_in : Value → Option (List ℕ)
text_in (Text text) = Some text
text_in _ = None

abbrev pub truth_in : Value → Option Bool
truth_in (Truth truth) = Some truth
truth_in _ = None

-- the value that a truth of three is
abbrev pub truth_value : Option Bool → Value
truth_value None = Null
truth_value (Some truth) = Truth truth

abbrev pub is_null : Value → Bool
is_null Null = true
is_null _ = false

-- a condition holds where it is TRUE, and not where it is NULL
abbrev pub is_true : Value → Bool
is_true (Truth truth) = truth
is_true _ = false

-- a number is of 64 bits: from -2^63 to 2^63 - 1
abbrev pub is_bigint : ℤ → Bool
is_bigint z = int_le (negsuc (2 ^ 63 - 1)) z && int_le z (pos (2 ^ 63 - 1))

abbrev pub bigint : ℤ → Evaluated
bigint z = if is_bigint z then Ok (Int z) else Err overflow

-- a time is of the years 0001 to 9999, in microseconds since 1970-01-01T00:00:00Z
abbrev pub timestamp : ℤ → Evaluated
timestamp t = if is_stamp_time t then Ok (Time t) else Err overflow

-- the most bytes that `||` makes
abbrev pub longest : ℕ
longest = 1_048_576

-- a column's value; a row without the column has NULL there
abbrev pub cell_at : List Value → ℕ → Value
cell_at row at = cell_or_null (slice_get row at) where
  cell_or_null : Option Value → Value
  cell_or_null None = Null
  cell_or_null (Some value) = value

-- A constant is itself. No number is outside 64 bits, no time outside the years 0001 to 9999, and each text is UTF-8 and no longer than `||`
-- makes one, a constant one included.
abbrev pub constant : Value → Evaluated
constant Null = Ok Null
constant (Int number) = bigint number
constant (Text text) = if nat_le (length text) longest && is_utf8 text then Ok (Text text) else Err overflow
constant (Time time) = timestamp time
constant (Truth truth) = Ok (Truth truth)

-- An aggregate's value, by its number; a sum that is not in 64 bits has none, and overflows where it is evaluated. An
-- aggregate that is not there counts as NULL.
abbrev pub aggregate_at : List (Option Value) → ℕ → Evaluated
aggregate_at aggregates at = told (slice_get aggregates at) where
  told : Option (Option Value) → Evaluated
  told None = Ok Null
  told (Some None) = Err overflow
  told (Some (Some value)) = Ok value

abbrev pub negated : Option ℤ → Evaluated
negated None = Ok Null
negated (Some n) = bigint (neg_ℤ n)

-- NULL with anything is NULL, and so is what is divided by 0. The quotient is cut off towards zero, the remainder
-- has the dividend's sign.
abbrev pub calculated : Arithmetic → ℤ → ℤ → Evaluated
calculated Plus a b = bigint (a +ℤ b)
calculated Minus a b = bigint (a -ℤ b)
calculated Times a b = bigint (a *ℤ b)
calculated Quotient a b = if int_eq b (pos 0) then Ok Null else bigint (int_div a b)
calculated Remainder a b = if int_eq b (pos 0) then Ok Null else bigint (int_rem a b)

abbrev pub arithmetic : Arithmetic → Option ℤ → Option ℤ → Evaluated
arithmetic op (Some a) (Some b) = calculated op a b
arithmetic op _ _ = Ok Null

abbrev pub shifted : Option ℤ → ℤ → Evaluated
shifted None by = Ok Null
shifted (Some time) by = timestamp (time +ℤ by)

abbrev pub joined : Option (List ℕ) → Option (List ℕ) → Evaluated
joined (Some a) (Some b) = if nat_le (length a + length b) longest && is_utf8 (a ++ b) then Ok (Text (a ++ b)) else Err overflow
joined _ _ = Ok Null

abbrev pub holds : Comparison → Ordering → Bool
holds Equal order = is_eq order
holds NotEqual order = is_ne order
holds Less order = is_lt order
holds AtMost order = is_le order
holds Greater order = is_gt order
holds AtLeast order = is_ge order

-- by the order of values: FALSE stands before TRUE, numbers and times by their size, texts by their bytes
abbrev pub compared : Comparison → Value → Value → Option Bool
compared comparison left right = if is_null left || is_null right then None else Some (holds comparison (value_cmp left right))

abbrev pub negation : Option Bool → Option Bool
negation None = None
negation (Some truth) = Some (not truth)

-- AND and OR: FALSE decides the one, TRUE the other, whatever stands on the other side
abbrev pub both : Option Bool → Option Bool → Option Bool
both (Some true) right = right
both (Some false) right = Some false
both None (Some false) = Some false
both None _ = None

abbrev pub either : Option Bool → Option Bool → Option Bool
either (Some true) right = Some true
either (Some false) right = right
either None (Some true) = Some true
either None _ = None

-- a FALSE left of AND leaves the right unevaluated, and so does a TRUE left of OR
abbrev pub conjunction : Option Bool → Result (Option Bool) Overflow → Evaluated
conjunction (Some false) right = Ok (Truth false)
conjunction left right = and_then right (λ truth. Ok (truth_value (both left truth)))

abbrev pub disjunction : Option Bool → Result (Option Bool) Overflow → Evaluated
disjunction (Some true) right = Ok (Truth true)
disjunction left right = and_then right (λ truth. Ok (truth_value (either left truth)))

-- a side of AND or of OR
abbrev pub truth_of : Evaluated → Result (Option Bool) Overflow
truth_of side = and_then side (λ value. Ok (truth_in value))

-- What an expression is on a row with these aggregates. Operands are evaluated from the left, and the first overflow is
-- the answer.
unfoldable pub evaluated_with : List (Option Value) → Typed → List Value → Evaluated
evaluated_with aggregates (Column at) row = Ok (cell_at row at)
evaluated_with aggregates (Aggregate at) row = aggregate_at aggregates at
evaluated_with aggregates (Constant value) row = constant value
evaluated_with aggregates (Negated' p (only x)) row = and_then (evaluated_with aggregates x row) (λ value. negated (number_in value))
evaluated_with aggregates (Not' p (only x)) row = and_then (evaluated_with aggregates x row) (λ value. Ok (truth_value (negation (truth_in value))))
evaluated_with aggregates (IsNull' p (only x)) row = and_then (evaluated_with aggregates x row) (λ value. Ok (Truth (is_null value)))
evaluated_with aggregates (Arithmetic' op p (only a) q (only b)) row = and_then (evaluated_with aggregates a row) (λ left. and_then (evaluated_with aggregates b row) (λ right. arithmetic op (number_in left) (number_in right)))
evaluated_with aggregates (Shifted' p (only x) by) row = and_then (evaluated_with aggregates x row) (λ value. shifted (time_in value) by)
evaluated_with aggregates (Joined' p (only a) q (only b)) row = and_then (evaluated_with aggregates a row) (λ left. and_then (evaluated_with aggregates b row) (λ right. joined (text_in left) (text_in right)))
evaluated_with aggregates (Compared' comparison p (only a) q (only b)) row = and_then (evaluated_with aggregates a row) (λ left. and_then (evaluated_with aggregates b row) (λ right. Ok (truth_value (compared comparison left right))))
evaluated_with aggregates (And' p (only a) q (only b)) row = and_then (evaluated_with aggregates a row) (λ left. conjunction (truth_in left) (truth_of (evaluated_with aggregates b row)))
evaluated_with aggregates (Or' p (only a) q (only b)) row = and_then (evaluated_with aggregates a row) (λ left. disjunction (truth_in left) (truth_of (evaluated_with aggregates b row)))
-- `a BETWEEN b AND c` is `a >= b AND a <= c`, with a evaluated once
evaluated_with aggregates (Between' p (only a) q (only b) r (only c)) row =
    and_then (evaluated_with aggregates a row) (λ value. and_then (evaluated_with aggregates b row) (λ least.
    conjunction (compared AtLeast value least) (and_then (evaluated_with aggregates c row) (λ most. Ok (compared AtMost value most)))))

-- what an expression is on a row alone
abbrev pub evaluated : Typed → List Value → Evaluated
evaluated x row = evaluated_with [] x row
