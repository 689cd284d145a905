-- What a query that keeps nothing shows for a row.
use Rattle.std.specs.Prelude.{Bool, true, if◌then◌else◌, ℕ, List, [], ◌∷◌, map, Option, Some, None, Result, Ok}
use Rattle.ssq_value.specs.declared.value.Value.{Value}
use Rattle.ssq_shape.specs.declared.typed.Typed.{Typed}
use Rattle.ssq_shape.specs.declared.bound.Output.{Output}
use Rattle.ssq_shape.specs.declared.bound.Bound.{Bound}
use Rattle.ssq_shape.specs.Evaluation.{Overflow, and_then, evaluated, is_true}

-- the names of the columns of the result, in the order of SELECT
abbrev pub output_names : Bound → List (List ℕ)
output_names bound = map (λ output. output.name) bound.outputs

-- a row passes WHERE exactly where it is TRUE on it; each row passes where there is no WHERE
abbrev pub passes : Option Typed → List Value → Result Bool Overflow
passes None row = Ok true
passes (Some condition) row = and_then (evaluated condition row) (λ value. Ok (is_true value))

-- the row that SELECT shows: its items from the left, where none of them overflows
unfoldable pub projected : List Output → List Value → Result (List Value) Overflow
projected [] row = Ok []
projected (output ∷ outputs) row =
    and_then (evaluated output.value row) (λ value. and_then (projected outputs row) (λ values. Ok (value ∷ values)))

-- the row that the query shows for a row of its stream, if it shows one
abbrev pub shown : Bound → List Value → Result (Option (List Value)) Overflow
shown bound row =
    and_then (passes bound.filter row) (λ passing. if passing then and_then (projected bound.outputs row) (λ values. Ok (Some values)) else Ok None)
