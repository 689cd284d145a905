-- The order of values and of lists of values.
use Rattle.std.specs.Prelude.{ℕ, ℤ, pos, Bool, false, List, []}
use Rattle.std.specs.declared.cmp.Ordering.{Ordering}
use Rattle.std.specs.Ordering.{nat_cmp, int_cmp, bool_cmp, on, then_cmp}
use Rattle.std.specs.Cmp.Lexicographic.{slice_cmp}
use Rattle.ssq_value.specs.declared.value.Value.{Value}
use Rattle.ssq_value.specs.declared.value.Value.TheVariants.{Null, Int, Text, Time, Truth}

-- NULL, then truth values, numbers, times and texts
abbrev pub rank_of : Value → ℕ
rank_of Null = 0
rank_of (Truth truth) = 1
rank_of (Int number) = 2
rank_of (Time time) = 3
rank_of (Text text) = 4

abbrev pub truth_of : Value → Bool
truth_of (Truth truth) = truth
truth_of _ = false

-- the number, or the time in microseconds
abbrev pub number_of : Value → ℤ
number_of (Int number) = number
number_of (Time time) = time
number_of _ = pos 0

abbrev pub bytes_of : Value → List ℕ
bytes_of (Text text) = text
bytes_of _ = []

-- Values of different kinds stand as their ranks do. False stands before true, numbers and times stand by
-- their size, and texts by their bytes, a text before what it begins.
unfoldable pub value_cmp : Value → Value → Ordering
value_cmp = then_cmp (on rank_of nat_cmp) (then_cmp (on truth_of bool_cmp) (then_cmp (on number_of int_cmp) (on bytes_of (slice_cmp nat_cmp))))

-- by the first values from the left that differ, and a list before what it begins
abbrev pub values_cmp : List Value → List Value → Ordering
values_cmp = slice_cmp value_cmp
