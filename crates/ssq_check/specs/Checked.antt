-- What is found of an expression, by its parts: its type, or the first fault in it.
use Rattle.std.specs.Prelude.{ℕ, Bool, true, false, ◌&&◌, if◌then◌else◌, Option, Some, None, Result, Ok, Err}
use Rattle.ssq_value.specs.declared.column.ColType.{ColType}
use Rattle.ssq_value.specs.declared.column.ColType.TheVariants as type
use Rattle.ssq_ast.specs.declared.expr.BinaryOp.{BinaryOp}
use Rattle.ssq_ast.specs.declared.expr.Expr.{Expr}
use Rattle.ssq_ast.specs.declared.expr.Expr.TheVariants as expr
use Rattle.ssq_ast.specs.declared.expr.Function.{Function}
use Rattle.ssq_ast.specs.declared.expr.UnaryOp.{UnaryOp}
use Rattle.ssq_ast.specs.Expression.{only}
use Rattle.ssq_check.specs.declared.fault.Cause.{Cause}
use Rattle.ssq_check.specs.declared.fault.Cause.TheVariants as cause
use Rattle.ssq_check.specs.declared.fault.BindFault.{BindFault}
use Rattle.ssq_check.specs.declared.scope.Scope.{Scope}
use Rattle.ssq_check.specs.declared.scope.Within.{Within}
use Rattle.ssq_check.specs.declared.scope.Within.TheVariants as within
use Rattle.ssq_check.specs.Fault.{earlier, both}
use Rattle.ssq_check.specs.Scope.{column_kind}
use Rattle.ssq_check.specs.Rules.{operands_of, operator_kind, unary_kind, aggregate_kind, between_kind, divides, is_sum, is_interval}

abbrev pub Checked : Type 0
Checked = Result ColType BindFault

abbrev pub one_or : Option ColType → Cause → ℕ → Checked
one_or None own at = Err (record { at = at; cause = own })
one_or (Some kind) own at = Ok kind

abbrev pub only_here : Within → ℕ → Checked → Checked
only_here within.Group at r = r
only_here within.Row at (Ok kind) = Err (record { at = at; cause = cause.AggregateHere })
only_here within.Row at (Err f) = Err (earlier f (record { at = at; cause = cause.AggregateHere }))

abbrev pub then_try : {A B : Type 0} → Result A BindFault → (A → Result B BindFault) → Result B BindFault
then_try (Ok a) f = f a
then_try (Err e) f = Err e

abbrev pub aggregate_checked : Within → Function → ℕ → Checked → Checked
aggregate_checked w f at r = then_try r (λ kind. only_here w at (one_or (aggregate_kind f kind) cause.WrongType at))

abbrev pub unary_checked : UnaryOp → ℕ → Checked → Checked
unary_checked o at r = then_try r (λ kind. one_or (unary_kind o kind) cause.WrongType at)

abbrev pub null_checked : Checked → Checked
null_checked r = then_try r (λ kind. Ok type.Bool)

abbrev pub divided : Bool → ℕ → Result (Unit {0}) BindFault
divided divides right_at = if divides then Ok tt else Err (record { at = right_at; cause = cause.BadDivisor })

abbrev pub first_of : Result (ColType × Unit {0}) BindFault → Checked
first_of (Ok pair) = Ok pair.0
first_of (Err f) = Err f

abbrev pub binary_checked : BinaryOp → ℕ → Bool → ℕ → Result (ColType × ColType) BindFault → Checked
binary_checked o at divides right_at r =
    then_try r (λ pair. first_of (both (one_or (operator_kind (operands_of o) pair.0 pair.1) cause.WrongType at) (divided divides right_at)))

abbrev pub between_checked : ℕ → Result ((ColType × ColType) × ColType) BindFault → Checked
between_checked at r = then_try r (λ triple. one_or (between_kind triple.0.0 triple.0.1 triple.1) cause.WrongType at)

abbrev pub is_time : Checked → Bool
is_time (Ok type.Timestamp) = true
is_time _ = false

abbrev pub is_shifted : BinaryOp → Checked → Expr → Bool
is_shifted o left right = is_sum o && is_interval right && is_time left

unfoldable pub checked : Scope → Within → Expr → Checked
checked scope w (expr.Number n at) = Ok type.Bigint
checked scope w (expr.Text text at) = Ok type.Str
checked scope w (expr.Truth truth at) = Ok type.Bool
checked scope w (expr.Timestamp moment at) = Ok type.Timestamp
checked scope w (expr.Interval span at) = Err (record { at = at; cause = cause.WrongType })
checked scope w (expr.Column column) = column_kind scope w column
checked scope w (expr.CountRows at) = only_here w at (Ok type.Bigint)
checked scope w (expr.Aggregate' f at p (only x)) = aggregate_checked w f at (checked scope within.Row x)
checked scope w (expr.Unary' o at p (only x)) = unary_checked o at (checked scope w x)
checked scope w (expr.IsNull' p (only x) at test) = null_checked (checked scope w x)
checked scope w (expr.Binary' left_at p (only a) o at right_at q (only b)) =
    if is_shifted o (checked scope w a) b then Ok type.Timestamp
    else binary_checked o at (divides o b) right_at (both (checked scope w a) (checked scope w b))
checked scope w (expr.Between' p (only a) at q (only b) r (only c)) =
    between_checked at (both (both (checked scope w a) (checked scope w b)) (checked scope w c))
