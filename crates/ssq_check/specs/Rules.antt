-- The types of expressions: the table of operators, and what is an expression without a fault.
use Rattle.std.specs.Prelude.{pos, Bool, true, false, not, ◌&&◌, if◌then◌else◌, Option, Some, None, Result, Ok, Err}
use Rattle.std.specs.Ordering.{int_eq}
use Rattle.ssq_value.specs.declared.column.ColType.{ColType}
use Rattle.ssq_value.specs.declared.column.ColType.TheVariants as type
use Rattle.ssq_shape.specs.Kinds.{is_kind, gives}
use Rattle.ssq_ast.specs.declared.expr.BinaryOp.{BinaryOp}
use Rattle.ssq_ast.specs.declared.expr.BinaryOp.TheVariants as op
use Rattle.ssq_ast.specs.declared.expr.Expr.{Expr}
use Rattle.ssq_ast.specs.declared.expr.Expr.TheVariants as expr
use Rattle.ssq_ast.specs.declared.expr.Function.{Function}
use Rattle.ssq_ast.specs.declared.expr.Function.TheVariants as function
use Rattle.ssq_ast.specs.declared.expr.UnaryOp.{UnaryOp}
use Rattle.ssq_ast.specs.declared.expr.UnaryOp.TheVariants as unary_op
use Rattle.ssq_ast.specs.Expression.{only}
use Rattle.ssq_check.specs.declared.fault.BindFault.{BindFault}
use Rattle.ssq_check.specs.declared.scope.Scope.{Scope}
use Rattle.ssq_check.specs.declared.scope.Within.{Within}
use Rattle.ssq_check.specs.declared.scope.Within.TheVariants as within
use Rattle.ssq_check.specs.declared.expr.Asks.{Asks}
use Rattle.ssq_check.specs.declared.expr.Asks.TheVariants as asks
use Rattle.ssq_check.specs.Scope.{column_kind}

abbrev pub operands_of : BinaryOp → Asks
operands_of op.Or = asks.Truths
operands_of op.And = asks.Truths
operands_of op.Equal = asks.Alike
operands_of op.NotEqual = asks.Alike
operands_of op.Less = asks.Alike
operands_of op.AtMost = asks.Alike
operands_of op.Greater = asks.Alike
operands_of op.AtLeast = asks.Alike
operands_of op.Add = asks.Numbers
operands_of op.Subtract = asks.Numbers
operands_of op.Concat = asks.Texts
operands_of op.Multiply = asks.Numbers
operands_of op.Divide = asks.Numbers
operands_of op.Remainder = asks.Numbers

abbrev pub are : ColType → ColType → ColType → Bool
are kind left right = is_kind kind (Some left) && is_kind kind (Some right)

-- the type of an operator's value; None where its operands are not of the types that it asks for
abbrev pub operator_kind : Asks → ColType → ColType → Option ColType
operator_kind asks.Truths left right = gives type.Bool (are type.Bool left right)
operator_kind asks.Alike left right = gives type.Bool (is_kind left (Some right))
operator_kind asks.Numbers left right = gives type.Bigint (are type.Bigint left right)
operator_kind asks.Texts left right = gives type.Str (are type.Str left right)

abbrev pub unary_kind : UnaryOp → ColType → Option ColType
unary_kind unary_op.Not operand = gives type.Bool (is_kind type.Bool (Some operand))
unary_kind unary_op.Minus operand = gives type.Bigint (is_kind type.Bigint (Some operand))

abbrev pub aggregate_kind : Function → ColType → Option ColType
aggregate_kind function.Count argument = Some type.Bigint
aggregate_kind function.Sum argument = gives type.Bigint (is_kind type.Bigint (Some argument))
aggregate_kind function.Min argument = Some argument
aggregate_kind function.Max argument = Some argument

abbrev pub between_kind : ColType → ColType → ColType → Option ColType
between_kind value low high = gives type.Bool (is_kind value (Some low) && is_kind value (Some high))

abbrev pub is_minus : UnaryOp → Bool
is_minus unary_op.Minus = true
is_minus unary_op.Not = false

-- a number other than 0
abbrev pub is_nonzero : Expr → Bool
is_nonzero (expr.Number n at) = not (int_eq n (pos 0))
is_nonzero _ = false

-- a number other than 0, or `-` and such a number
unfoldable pub is_divisor : Expr → Bool
is_divisor (expr.Number n at) = not (int_eq n (pos 0))
is_divisor (expr.Unary' o at p (only x)) = is_minus o && is_nonzero x
is_divisor _ = false

abbrev pub divides : BinaryOp → Expr → Bool
divides op.Divide right = is_divisor right
divides op.Remainder right = is_divisor right
divides _ right = true

abbrev pub is_interval : Expr → Bool
is_interval (expr.Interval span at) = true
is_interval _ = false

abbrev pub is_sum : BinaryOp → Bool
is_sum op.Add = true
is_sum op.Subtract = true
is_sum _ = false

-- a span after `+` or `-` after a time
abbrev pub is_shift : BinaryOp → Option ColType → Expr → Bool
is_shift o left right = is_sum o && is_interval right && is_kind type.Timestamp left

-- an aggregate may stand in SELECT and HAVING, outside aggregates
abbrev pub may_stand : Within → Option ColType → Option ColType
may_stand within.Row kind = None
may_stand within.Group kind = kind

abbrev pub type_of : Result ColType BindFault → Option ColType
type_of (Ok kind) = Some kind
type_of (Err f) = None

-- the type of an operator's value by those of its operands, where none of them has a fault
abbrev pub of_one : {A : Type 0} → (A → Option ColType) → Option A → Option ColType
of_one f None = None
of_one f (Some a) = f a

-- two values, where both are there
abbrev pub together : {A B : Type 0} → Option A → Option B → Option (A × B)
together (Some a) (Some b) = Some (a, b)
together (Some a) None = None
together None b = None

abbrev pub if_divides : Bool → Option ColType → Option ColType
if_divides divides kind = if divides then kind else None

-- The type of an expression; None where there is a fault in it.
unfoldable pub kind : Scope → Within → Expr → Option ColType
kind scope w (expr.Number n at) = Some type.Bigint
kind scope w (expr.Text text at) = Some type.Str
kind scope w (expr.Truth truth at) = Some type.Bool
kind scope w (expr.Timestamp moment at) = Some type.Timestamp
kind scope w (expr.Interval span at) = None
kind scope w (expr.Column column) = type_of (column_kind scope w column)
kind scope w (expr.CountRows at) = may_stand w (Some type.Bigint)
kind scope w (expr.Aggregate' f at p (only x)) = may_stand w (of_one (aggregate_kind f) (kind scope within.Row x))
kind scope w (expr.Unary' o at p (only x)) = of_one (unary_kind o) (kind scope w x)
kind scope w (expr.IsNull' p (only x) at test) = of_one (λ own. Some type.Bool) (kind scope w x)
kind scope w (expr.Binary' left_at p (only a) o at right_at q (only b)) =
    if is_shift o (kind scope w a) b then Some type.Timestamp
    else if_divides (divides o b) (of_one (λ pair. operator_kind (operands_of o) pair.0 pair.1) (together (kind scope w a) (kind scope w b)))
kind scope w (expr.Between' p (only a) at q (only b) r (only c)) = of_one (λ triple. between_kind triple.0.0 triple.0.1 triple.1) (together (together (kind scope w a) (kind scope w b)) (kind scope w c))
