-- When an expression is well typed, and its type.
use Rattle.std.specs.Prelude.{Bool, true, false, ◌&&◌, if◌then◌else◌, List, [], ◌∷◌, slice_get, Option, Some, None, IfSome}
use Rattle.ssq_value.specs.declared.column.ColType.{ColType}
use Rattle.ssq_value.specs.declared.column.ColType.TheVariants as kind
use Rattle.ssq_value.specs.declared.value.Value.{Value}
use Rattle.ssq_value.specs.Kind.{kind_of, IsHeldBy}
use Rattle.ssq_shape.specs.declared.typed.Typed.{Typed}
use Rattle.ssq_shape.specs.Boxes.{only}
use Rattle.ssq_shape.specs.declared.typed.Typed.TheVariants.{Column, Aggregate, Constant, Negated', Not', IsNull', Arithmetic', Shifted', Joined', Compared', Between', And', Or'}

-- whether this is the type
abbrev pub is_kind : ColType → Option ColType → Bool
is_kind kind.Bigint (Some kind.Bigint) = true
is_kind kind.Str (Some kind.Str) = true
is_kind kind.Timestamp (Some kind.Timestamp) = true
is_kind kind.Bool (Some kind.Bool) = true
is_kind _ _ = false

-- whether there are two types, and they are equal
abbrev pub are_alike : Option ColType → Option ColType → Bool
are_alike None right = false
are_alike (Some left) right = is_kind left right

abbrev pub is_typed : Option ColType → Bool
is_typed None = false
is_typed (Some kind) = true

-- the type of an operator's value, where its operands are as they must be
abbrev pub gives : ColType → Bool → Option ColType
gives kind right = if right then Some kind else None

-- The type of an expression over columns and aggregates of these types; None where a rule of types is broken in it. Arithmetic is
-- of numbers, `||` of texts, AND, OR and NOT of truth values; a span shifts a time; any two values of one type are
-- compared; and of any value it is told whether it is NULL.
unfoldable pub kind_with : List ColType → List ColType → Typed → Option ColType
kind_with aggregates kinds (Column at) = slice_get kinds at
kind_with aggregates kinds (Aggregate at) = slice_get aggregates at
kind_with aggregates kinds (Constant value) = kind_of value
kind_with aggregates kinds (Negated' p (only x)) = gives kind.Bigint (is_kind kind.Bigint (kind_with aggregates kinds x))
kind_with aggregates kinds (Not' p (only x)) = gives kind.Bool (is_kind kind.Bool (kind_with aggregates kinds x))
kind_with aggregates kinds (IsNull' p (only x)) = gives kind.Bool (is_typed (kind_with aggregates kinds x))
kind_with aggregates kinds (Arithmetic' op p (only a) q (only b)) = gives kind.Bigint (is_kind kind.Bigint (kind_with aggregates kinds a) && is_kind kind.Bigint (kind_with aggregates kinds b))
kind_with aggregates kinds (Shifted' p (only x) by) = gives kind.Timestamp (is_kind kind.Timestamp (kind_with aggregates kinds x))
kind_with aggregates kinds (Joined' p (only a) q (only b)) = gives kind.Str (is_kind kind.Str (kind_with aggregates kinds a) && is_kind kind.Str (kind_with aggregates kinds b))
kind_with aggregates kinds (Compared' comparison p (only a) q (only b)) = gives kind.Bool (are_alike (kind_with aggregates kinds a) (kind_with aggregates kinds b))
kind_with aggregates kinds (Between' p (only a) q (only b) r (only c)) = gives kind.Bool (are_alike (kind_with aggregates kinds a) (kind_with aggregates kinds b) && are_alike (kind_with aggregates kinds a) (kind_with aggregates kinds c))
kind_with aggregates kinds (And' p (only a) q (only b)) = gives kind.Bool (is_kind kind.Bool (kind_with aggregates kinds a) && is_kind kind.Bool (kind_with aggregates kinds b))
kind_with aggregates kinds (Or' p (only a) q (only b)) = gives kind.Bool (is_kind kind.Bool (kind_with aggregates kinds a) && is_kind kind.Bool (kind_with aggregates kinds b))

-- the type of an expression without aggregates
abbrev pub kind_in : List ColType → Typed → Option ColType
kind_in kinds x = kind_with [] kinds x

-- the row has one value for each type, from the left: NULL, or a value of the type
abbrev pub AreHeldBy : List ColType → List Value → Type 0
AreHeldBy [] [] = Unit {0}
AreHeldBy [] (value ∷ values) = ⊥
AreHeldBy (kind ∷ kinds) [] = ⊥
AreHeldBy (kind ∷ kinds) (value ∷ values) = IsHeldBy kind value × AreHeldBy kinds values

-- there is an aggregate for each type, from the left, whose value is NULL or of the type, if it has one
abbrev pub AreFoundIn : List ColType → List (Option Value) → Type 0
AreFoundIn [] [] = Unit {0}
AreFoundIn [] (value ∷ values) = ⊥
AreFoundIn (kind ∷ kinds) [] = ⊥
AreFoundIn (kind ∷ kinds) (value ∷ values) = IfSome value (IsHeldBy kind) × AreFoundIn kinds values
