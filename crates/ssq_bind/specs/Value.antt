-- The typed expression that an expression is, and the aggregates in it. Each function gives something for an expression
-- with a fault too: the first column for an unknown one, NULL where an aggregate or a span may not stand.
use Rattle.std.specs.Prelude.{ℕ, ◌+◌, ℤ, Bool, true, false, ◌&&◌, nat_lt, if◌then◌else◌, List, [], ◌∷◌, ◌++◌, length, position, Option, Some, None}
use Rattle.std.specs.Int.{w64, int_wrapping_neg}
use Rattle.std.specs.Str.{bytes_eq}
use Rattle.ssq_value.specs.declared.value.Value.{Value}
use Rattle.ssq_value.specs.declared.value.Value.TheVariants as value
use Rattle.ssq_shape.specs.Boxes as box
use Rattle.ssq_shape.specs.declared.bound.Aggregate.{Aggregate}
use Rattle.ssq_shape.specs.declared.bound.Function.TheVariants as function
use Rattle.ssq_shape.specs.declared.bound.Function.{Function}
use Rattle.ssq_shape.specs.declared.typed.Arithmetic.{Arithmetic}
use Rattle.ssq_shape.specs.declared.typed.Arithmetic.TheVariants as arithmetic
use Rattle.ssq_shape.specs.declared.typed.Comparison.{Comparison}
use Rattle.ssq_shape.specs.declared.typed.Comparison.TheVariants as comparison
use Rattle.ssq_shape.specs.declared.typed.Typed.{Typed}
use Rattle.ssq_shape.specs.declared.typed.Typed.TheVariants as typed
use Rattle.ssq_ast.specs.declared.expr.BinaryOp.{BinaryOp}
use Rattle.ssq_ast.specs.declared.expr.BinaryOp.TheVariants as op
use Rattle.ssq_ast.specs.declared.expr.ColumnRef.{ColumnRef}
use Rattle.ssq_ast.specs.declared.expr.Expr.{Expr}
use Rattle.ssq_ast.specs.declared.expr.Expr.TheVariants as expr
use Rattle.ssq_ast.specs.declared.expr.Function.TheVariants as called
use Rattle.ssq_ast.specs.declared.expr.Function.{Function as Called}
use Rattle.ssq_ast.specs.declared.expr.Ident.{Ident}
use Rattle.ssq_ast.specs.declared.expr.NullTest.{NullTest}
use Rattle.ssq_ast.specs.declared.expr.NullTest.TheVariants as null_test
use Rattle.ssq_ast.specs.declared.expr.UnaryOp.{UnaryOp}
use Rattle.ssq_ast.specs.declared.expr.UnaryOp.TheVariants as unary_op
use Rattle.ssq_ast.specs.Expression.{only}
use Rattle.ssq_check.specs.declared.scope.Scope.{Scope}
use Rattle.ssq_check.specs.declared.scope.Side.{Side}
use Rattle.ssq_check.specs.declared.scope.Side.TheVariants as side
use Rattle.ssq_check.specs.declared.scope.Source.{Source}
use Rattle.ssq_check.specs.declared.scope.Spot.{Spot}
use Rattle.ssq_check.specs.declared.scope.Within.{Within}
use Rattle.ssq_check.specs.declared.scope.Within.TheVariants as within
use Rattle.ssq_check.specs.Scope.{is_window_key, is_key_of, is_window_here}
use Rattle.ssq_check.specs.Joined.{spot_of, spot_in}
use Rattle.ssq_bind.specs.declared.context.Context.{Context}

-- ---- columns

abbrev pub width : Option Source → ℕ
width None = 0
width (Some source) = length source.columns

-- a column of the right stream, which has so many, after the columns of the left one
abbrev pub behind : ℕ → ℕ → ℕ → ℕ
behind left right index = if nat_lt index right then left + index else 0

-- in a joined row the left columns come first
abbrev pub index_on : Scope → Side → ℕ → ℕ
index_on scope side.Left index = index
index_on scope side.Right index = behind (width scope.left) (width scope.right) index

-- the index of a column in the row
abbrev pub row_index : Scope → Option Spot → ℕ
row_index scope None = 0
row_index scope (Some spot) = index_on scope spot.side spot.index

abbrev pub or_zero : Option ℕ → ℕ
or_zero None = 0
or_zero (Some n) = n

abbrev pub is_bare : Option Ident → Bool
is_bare None = true
is_bare (Some stream) = false

-- `window_start` or `window_end`, where rows are grouped by a window
abbrev pub is_window_column : Scope → ColumnRef → Bool
is_window_column scope column = is_bare column.stream && is_window_here scope within.Group column.column.text

abbrev pub key_spot : Scope → Option Spot → Option ℕ
key_spot scope None = None
key_spot scope (Some spot) = position (is_key_of spot) scope.keys

-- the index of the key that a column is: of the window for its start and its end
abbrev pub key_index : Scope → ColumnRef → Option ℕ
key_index scope column =
    if is_window_column scope column then position is_window_key scope.keys else key_spot scope (spot_in (spot_of scope column))

-- a time, so many microseconds later
abbrev pub shifted_value : Typed → ℤ → Typed
shifted_value time by = typed.Shifted' tt (box.only time) by

-- a window is kept by its start; its end is the start and the size
abbrev pub window_value : ℤ → ℕ → List ℕ → Typed
window_value size at name =
    if bytes_eq name (119 ∷ 105 ∷ 110 ∷ 100 ∷ 111 ∷ 119 ∷ 95 ∷ 101 ∷ 110 ∷ 100 ∷ []) then shifted_value (typed.Column at) size
    else typed.Column at

-- a column of the row, or of the group
abbrev pub column_value : Context → Within → ColumnRef → Typed
column_value context within.Row column = typed.Column (row_index context.scope (spot_in (spot_of context.scope column)))
column_value context within.Group column =
    if is_window_column context.scope column then window_value context.size (or_zero (key_index context.scope column)) column.column.text
    else typed.Column (or_zero (key_index context.scope column))

-- ---- operators

abbrev pub unary_value : UnaryOp → Typed → Typed
unary_value unary_op.Not x = typed.Not' tt (box.only x)
unary_value unary_op.Minus x = typed.Negated' tt (box.only x)

abbrev pub null_value : NullTest → Typed → Typed
null_value null_test.Null x = typed.IsNull' tt (box.only x)
null_value null_test.NotNull x = typed.Not' tt (box.only (typed.IsNull' tt (box.only x)))

abbrev pub compared_value : Comparison → Typed → Typed → Typed
compared_value comparison a b = typed.Compared' comparison tt (box.only a) tt (box.only b)

abbrev pub arithmetic_value : Arithmetic → Typed → Typed → Typed
arithmetic_value operation a b = typed.Arithmetic' operation tt (box.only a) tt (box.only b)

abbrev pub binary_value : BinaryOp → Typed → Typed → Typed
binary_value op.Or a b = typed.Or' tt (box.only a) tt (box.only b)
binary_value op.And a b = typed.And' tt (box.only a) tt (box.only b)
binary_value op.Equal a b = compared_value comparison.Equal a b
binary_value op.NotEqual a b = compared_value comparison.NotEqual a b
binary_value op.Less a b = compared_value comparison.Less a b
binary_value op.AtMost a b = compared_value comparison.AtMost a b
binary_value op.Greater a b = compared_value comparison.Greater a b
binary_value op.AtLeast a b = compared_value comparison.AtLeast a b
binary_value op.Add a b = arithmetic_value arithmetic.Plus a b
binary_value op.Subtract a b = arithmetic_value arithmetic.Minus a b
binary_value op.Concat a b = typed.Joined' tt (box.only a) tt (box.only b)
binary_value op.Multiply a b = arithmetic_value arithmetic.Times a b
binary_value op.Divide a b = arithmetic_value arithmetic.Quotient a b
binary_value op.Remainder a b = arithmetic_value arithmetic.Remainder a b

abbrev pub between_value : Typed → Typed → Typed → Typed
between_value a b c = typed.Between' tt (box.only a) tt (box.only b) tt (box.only c)

-- a span after `+`, or taken from what stands in front of `-`
abbrev pub shift_by : BinaryOp → ℤ → Option ℤ
shift_by op.Add span = Some span
shift_by op.Subtract span = Some (int_wrapping_neg w64 span)
shift_by op.Or span = None
shift_by op.And span = None
shift_by op.Equal span = None
shift_by op.NotEqual span = None
shift_by op.Less span = None
shift_by op.AtMost span = None
shift_by op.Greater span = None
shift_by op.AtLeast span = None
shift_by op.Concat span = None
shift_by op.Multiply span = None
shift_by op.Divide span = None
shift_by op.Remainder span = None

-- by how much an operator shifts the time in front of it, where a span stands after it
unfoldable pub shift_of : BinaryOp → Expr → Option ℤ
shift_of o (expr.Interval span at) = shift_by o span.micros
shift_of o _ = None

abbrev pub shifted_or : Option ℤ → Typed → Typed → Typed
shifted_or None time other = other
shifted_or (Some by) time other = shifted_value time by

-- ---- aggregates

abbrev pub function_of : Called → Function
function_of called.Count = function.Count
function_of called.Sum = function.Sum
function_of called.Min = function.Min
function_of called.Max = function.Max

-- an aggregate by its number
abbrev pub numbered : Within → ℕ → Typed
numbered within.Row number = typed.Constant value.Null
numbered within.Group number = typed.Aggregate number

abbrev pub given : Within → Aggregate → List Aggregate
given within.Row aggregate = []
given within.Group aggregate = aggregate ∷ []

abbrev pub one : Within → ℕ
one within.Row = 0
one within.Group = 1

-- how many aggregates stand in an expression, those in aggregates aside
unfoldable pub count : Within → Expr → ℕ
count w (expr.CountRows at) = one w
count w (expr.Aggregate' f at p (only x)) = one w
count w (expr.Unary' o at p (only x)) = count w x
count w (expr.IsNull' p (only x) at test) = count w x
count w (expr.Binary' left_at p (only a) o at right_at q (only b)) = count w a + count w b
count w (expr.Between' p (only a) at q (only b) r (only c)) = count w a + (count w b + count w c)
count w e = 0

-- ---- the whole

-- the value that an expression writes out, NULL where it writes out none
unfoldable pub literal : Expr → Value
literal (expr.Number n at) = value.Int n
literal (expr.Text text at) = value.Text text
literal (expr.Truth truth at) = value.Truth truth
literal (expr.Timestamp moment at) = value.Time moment.micros
literal _ = value.Null

-- The expression whose names are bound, with so many aggregates in front of it.
unfoldable pub value_of : Context → Within → ℕ → Expr → Typed
value_of context w before (expr.Column column) = column_value context w column
value_of context w before (expr.CountRows at) = numbered w before
value_of context w before (expr.Aggregate' f at p (only x)) = numbered w before
value_of context w before (expr.Unary' o at p (only x)) = unary_value o (value_of context w before x)
value_of context w before (expr.IsNull' p (only x) at test) = null_value test (value_of context w before x)
value_of context w before (expr.Binary' left_at p (only a) o at right_at q (only b)) =
    shifted_or (shift_of o b) (value_of context w before a) (binary_value o (value_of context w before a) (value_of context w (before + count w a) b))
value_of context w before (expr.Between' p (only a) at q (only b) r (only c)) =
    between_value (value_of context w before a) (value_of context w (before + count w a) b) (value_of context w (before + (count w a + count w b)) c)
value_of context w before e = typed.Constant (literal e)

-- The aggregates of an expression from the left, those in aggregates aside.
unfoldable pub aggregates_of : Context → Within → Expr → List Aggregate
aggregates_of context w (expr.CountRows at) = given w (record { function = function.Count; argument = None })
aggregates_of context w (expr.Aggregate' f at p (only x)) = given w (record { function = function_of f; argument = Some (value_of context within.Row 0 x) })
aggregates_of context w (expr.Unary' o at p (only x)) = aggregates_of context w x
aggregates_of context w (expr.IsNull' p (only x) at test) = aggregates_of context w x
aggregates_of context w (expr.Binary' left_at p (only a) o at right_at q (only b)) = aggregates_of context w a ++ aggregates_of context w b
aggregates_of context w (expr.Between' p (only a) at q (only b) r (only c)) = aggregates_of context w a ++ (aggregates_of context w b ++ aggregates_of context w c)
aggregates_of context w e = []

-- an expression on rows
abbrev pub row_value : Context → Expr → Typed
row_value context e = value_of context within.Row 0 e
