-- The types of values.
use Rattle.std.specs.Prelude.{◌≡◌, ℤ, List, [], ◌∷◌, Option, Some, None, IfSome}
use Rattle.ssq_value.specs.declared.column.ColType.{ColType}
use Rattle.ssq_value.specs.declared.column.ColType.TheVariants.{Bigint, Str, Timestamp, Bool}
use Rattle.ssq_value.specs.declared.column.Column.{Column}
use Rattle.ssq_value.specs.declared.value.Value.{Value}
use Rattle.ssq_value.specs.declared.value.Value.TheVariants.{Null, Int, Text, Time, Truth}

-- the type of the columns that hold such a value; NULL has none
abbrev pub kind_of : Value → Option ColType
kind_of Null = None
kind_of (Int number) = Some Bigint
kind_of (Text text) = Some Str
kind_of (Time time) = Some Timestamp
kind_of (Truth truth) = Some Bool

-- a column of this type may hold the value: NULL, or a value of the type
abbrev pub IsHeldBy : ColType → Value → Type 0
IsHeldBy kind value = IfSome (kind_of value) (λ own. own ≡ kind)

-- the row has one value for each column, from the left, each of which its column may hold
abbrev pub IsRowOf : List Column → List Value → Type 0
IsRowOf [] [] = Unit {0}
IsRowOf [] (value ∷ values) = ⊥
IsRowOf (column ∷ columns) [] = ⊥
IsRowOf (column ∷ columns) (value ∷ values) = IsHeldBy column.kind value × IsRowOf columns values

-- P of the time, if the value is one
abbrev pub IfTime : (ℤ → Type 0) → Value → Type 0
IfTime P Null = Unit {0}
IfTime P (Int number) = Unit {0}
IfTime P (Text text) = Unit {0}
IfTime P (Time time) = P time
IfTime P (Truth truth) = Unit {0}
