-- What comes of generated input: counts of rows, and sums over them.
use Rattle.std.specs.Prelude.{◌≡◌, ℕ, ◌*◌, ◌^◌, ℤ, pos, neg_ℤ, ◌+ℤ◌, ◌≤ℤ◌, List, ◌++◌, length, get_or, fold, FitsSigned, codes, decimal}
use Rattle.std.specs.Int.{w128}
use Rattle.std.specs.Fmt.{signed_decimal}
use Rattle.ssq_value.specs.declared.value.Value.{Value}
use Rattle.ssq_value.specs.declared.value.Value.TheVariants.{Null, Int, Text, Time, Truth}
use Rattle.ssq_value.specs.declared.column.ColType.{ColType}
use Rattle.ssq_json.specs.Stored.{AreRows}
use Rattle.ssq_gen.specs.declared.counts.Counts.{Counts}
use Rattle.ssq_gen.specs.declared.fault.CountsFault.{CountsFault}
use Rattle.ssq_gen.specs.declared.fault.CountsFault.TheVariants.{NotRows, NoMemory}

-- the number in a cell
abbrev pub number_in : Value → ℤ
number_in Null = pos 0
number_in (Int number) = number
number_in (Text text) = pos 0
number_in (Time time) = pos 0
number_in (Truth truth) = pos 0

-- the sum of the numbers in a column
abbrev pub sum_of : ℕ → List (List Value) → ℤ
sum_of at rows = fold (λ sum row. sum +ℤ number_in (get_or row at Null)) (pos 0) rows

-- so many rows there are, and these are the sums of their third and fourth columns, in 128 bits
pub record AreCountsOf (own : List (List Value)) (counts : Counts) : Type 0 where
  pub rows : counts.rows ≡ length own
  pub count : counts.count ≡ sum_of 2 own
  pub sum : counts.sum ≡ sum_of 3 own
  pub count_fits : FitsSigned w128 counts.count
  pub sum_fits : FitsSigned w128 counts.sum

-- a sum of so many numbers of 64 bits is no further from 0 than this
abbrev pub IsWithin : ℕ → ℤ → Type 0
IsWithin rows sum = (neg_ℤ (pos (2 ^ 63 * rows)) ≤ℤ sum) × (sum ≤ℤ pos (2 ^ 63 * rows))

-- both sums are
pub record AreWithin (counts : Counts) : Type 0 where
  pub count : IsWithin counts.rows counts.count
  pub sum : IsWithin counts.rows counts.sum

-- the bytes are rows of columns with these names and types, one line each
pub record IsRows (names : List (List ℕ)) (kinds : List ColType) (bytes : List ℕ) : Type 0 where
  pub rows : List (List Value)
  pub are : AreRows names kinds bytes rows

-- why they are not counted: they are no such rows; memory may run out at any time
abbrev pub IsCause : List (List ℕ) → List ColType → List ℕ → CountsFault → Type 0
IsCause names kinds bytes NotRows = IsRows names kinds bytes → ⊥
IsCause names kinds bytes NoMemory = Unit {0}

-- What is told: how many lines and epochs there are, how many rows all epochs show together, and both sums over these.
abbrev pub counts_line : (lines epochs : ℕ) → List (List Value) → List ℕ
counts_line lines epochs rows =
    codes "lines " ++ (decimal lines ++ (codes " epochs " ++ (decimal epochs ++ (codes " rows " ++ (decimal (length rows)
    ++ (codes " count " ++ (signed_decimal (sum_of 2 rows) ++ (codes " sum " ++ (signed_decimal (sum_of 3 rows) ++ codes "\n")))))))))
