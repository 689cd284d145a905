-- The groups that an epoch's rows touch.
use Rattle.std.specs.Prelude.{ℕ, List, [], ◌∷◌, take, fold, Option, Some, None, FitsSigned}
use Rattle.std.specs.Int.{w64}
use Rattle.std.specs.List.{AllByRecursion}
use Rattle.ssq_value.specs.declared.value.Value.{Value}
use Rattle.ssq_value.specs.declared.value.Value.TheVariants as value
use Rattle.ssq_shape.specs.declared.bound.Aggregate.{Aggregate}
use Rattle.ssq_meaning.specs.FedRows.{FedRow}
use Rattle.ssq_meaning.specs.declared.total.Total.{Total}
use Rattle.ssq_meaning.specs.Group.{members}
use Rattle.ssq_meaning.specs.Meaning.{Values}
use Rattle.ssq_meaning.specs.Totals.{totals_of, with_row}
use Rattle.ssq_agg.specs.Fits.{AllFit}

-- what is kept of each key: its totals, where it is
abbrev pub Held : Type 0
Held = Values → Option (List Total)

-- the totals from which a key goes on: those that are kept, or those of no row
abbrev pub started : List Aggregate → Option (List Total) → List Total
started aggregates None = totals_of aggregates []
started aggregates (Some totals) = totals

-- the totals of a key with new rows, where there are some
abbrev pub touched : List Aggregate → Option (List Total) → (new : List Values) → Option (List Total)
touched aggregates own [] = None
touched aggregates own (row ∷ rows) = Some (fold with_row (started aggregates own) (row ∷ rows))

-- the types of totals hold those of each key, after each of the rows
abbrev pub AreSteady : List Aggregate → Held → List FedRow → Type 0
AreSteady aggregates held rows = (n : ℕ) (key : Values) → AllFit (fold with_row (started aggregates (held key)) (members (take n rows) key))

-- the totals from which a key goes on, where rows of the epoch may have touched it
abbrev pub goes_on : List Aggregate → Option (List Total) → Option (List Total) → List Total
goes_on aggregates own None = started aggregates own
goes_on aggregates own (Some totals) = totals

-- each number that a row brings has 64 bits
abbrev pub IsBigint : Value → Type 0
IsBigint value.Null = Unit {0}
IsBigint (value.Int number) = FitsSigned w64 number
IsBigint (value.Text text) = Unit {0}
IsBigint (value.Time time) = Unit {0}
IsBigint (value.Truth truth) = Unit {0}

abbrev pub HasBigints : FedRow → Type 0
HasBigints row = AllByRecursion IsBigint row.values
