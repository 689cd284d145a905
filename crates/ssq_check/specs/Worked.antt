-- Small values: what is found of some expressions over `s (t TIMESTAMP, v BIGINT)`, in SELECT of Group by v.
use Rattle.std.specs.Prelude.{◌≡◌, ℕ, pos, List, [], ◌∷◌, Some, None, Ok, Err}
use Rattle.ssq_value.specs.declared.column.ColType.TheVariants as type
use Rattle.ssq_ast.specs.declared.expr.BinaryOp.{BinaryOp}
use Rattle.ssq_ast.specs.declared.expr.BinaryOp.TheVariants as op
use Rattle.ssq_ast.specs.declared.expr.Expr.{Expr}
use Rattle.ssq_ast.specs.declared.expr.Expr.TheVariants as expr
use Rattle.ssq_ast.specs.declared.expr.Function.TheVariants as function
use Rattle.ssq_ast.specs.Expression.{only}
use Rattle.ssq_check.specs.declared.fault.Cause.{Cause}
use Rattle.ssq_check.specs.declared.fault.Cause.TheVariants as cause
use Rattle.ssq_check.specs.declared.scope.Key.TheVariants as key
use Rattle.ssq_check.specs.declared.scope.Scope.{Scope}
use Rattle.ssq_check.specs.declared.scope.Side.TheVariants as side
use Rattle.ssq_check.specs.declared.scope.Within.TheVariants as within
use Rattle.ssq_check.specs.Checked.{Checked, checked}

abbrev pub names : Scope
names = record {
  left = Some (record { name = 115 ∷ []; columns = record { name = 116 ∷ []; kind = type.Timestamp } ∷ record { name = 118 ∷ []; kind = type.Bigint } ∷ []; watermark = None });
  right = None;
  keys = key.Column (record { side = side.Left; index = 1; kind = type.Bigint }) ∷ [];
}

abbrev pub column : List ℕ → ℕ → Expr
column name at = expr.Column (record { stream = None; column = record { text = name; at = at } })

abbrev pub v : ℕ → Expr
v at = column (118 ∷ []) at

abbrev pub t : ℕ → Expr
t at = column (116 ∷ []) at

abbrev pub x : ℕ → Expr
x at = column (120 ∷ []) at

abbrev pub day : ℕ → Expr
day at = expr.Interval (record { text = []; micros = pos 86400000000 }) at

abbrev pub between_them : BinaryOp → ℕ → ℕ → Expr → Expr → Expr
between_them o at right_at a b = expr.Binary' 0 tt (only a) o at right_at tt (only b)

abbrev pub sum : ℕ → Expr → Expr
sum at a = expr.Aggregate' function.Sum at tt (only a)

abbrev pub at_place : Cause → ℕ → Checked
at_place own at = Err (record { at = at; cause = own })

pub record AreWorked : Type 0 where
  -- `1 + INTERVAL '1 day'`
  pub span : checked names within.Row (between_them op.Add 2 4 (expr.Number (pos 1) 0) (day 4)) ≡ at_place cause.WrongType 4
  -- `t - INTERVAL '1 day'`
  pub shifted : checked names within.Row (between_them op.Subtract 2 4 (t 0) (day 4)) ≡ Ok type.Timestamp
  -- `v DIV 'a'`, `v DIV 0`, `v DIV x`
  pub typed : checked names within.Row (between_them op.Divide 2 6 (v 0) (expr.Text (97 ∷ []) 6)) ≡ at_place cause.WrongType 2
  pub divisor : checked names within.Row (between_them op.Divide 2 6 (v 0) (expr.Number (pos 0) 6)) ≡ at_place cause.BadDivisor 6
  pub unknown : checked names within.Row (between_them op.Divide 2 6 (v 0) (x 6)) ≡ at_place cause.UnknownName 6
  -- both sides are looked at, wherever they stand
  pub least : checked names within.Row (between_them op.Add 5 7 (x 9) (x 7)) ≡ at_place cause.UnknownName 7
  -- `SUM(SUM(v))`, `SUM(SUM(x))`, `SUM(v)`, `v`, `t`, in Group
  pub nested : checked names within.Group (sum 0 (sum 4 (v 8))) ≡ at_place cause.AggregateHere 4
  pub inner : checked names within.Group (sum 0 (sum 4 (x 8))) ≡ at_place cause.UnknownName 8
  pub aggregate : checked names within.Group (sum 0 (v 4)) ≡ Ok type.Bigint
  pub grouped : checked names within.Group (v 0) ≡ Ok type.Bigint
  pub ungrouped : checked names within.Group (t 0) ≡ at_place cause.NotGrouped 0
