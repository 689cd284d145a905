-- An expression that the code makes or opens, as the constructor that definitions match on.
use Rattle.std.proofs.Common.{◌≡◌, ℕ, refl}
use Rattle.ssq_ast.specs.declared.expr.BinaryOp.{BinaryOp}
use Rattle.ssq_ast.specs.declared.expr.Expr.{Expr}
use Rattle.ssq_ast.specs.declared.expr.Expr.TheVariants as expr
use Rattle.ssq_ast.specs.declared.expr.Expr.TheViews as view
use Rattle.ssq_ast.specs.declared.expr.Function.{Function}
use Rattle.ssq_ast.specs.declared.expr.NullTest.{NullTest}
use Rattle.ssq_ast.specs.declared.expr.UnaryOp.{UnaryOp}
use Rattle.ssq_ast.specs.Expression.{only}

pub aggregate_is : (f : Function) (at : ℕ) (a : Expr) → view.Aggregate f at a ≡ expr.Aggregate' f at tt (only a)
unfolding Rattle.ssq_ast.specs.declared.expr.Expr.TheBlock.shape-the_row-Expr-0 Rattle.ssq_ast.specs.declared.expr.Expr.TheBlock.hidden-the_row-Expr-0 denote.Hole.Carrier.hidden
aggregate_is f at a = refl

pub unary_is : (o : UnaryOp) (at : ℕ) (a : Expr) → view.Unary o at a ≡ expr.Unary' o at tt (only a)
unfolding Rattle.ssq_ast.specs.declared.expr.Expr.TheBlock.shape-the_row-Expr-0 Rattle.ssq_ast.specs.declared.expr.Expr.TheBlock.hidden-the_row-Expr-0 denote.Hole.Carrier.hidden
unary_is o at a = refl

pub is_null_is : (a : Expr) (at : ℕ) (t : NullTest) → view.IsNull a at t ≡ expr.IsNull' tt (only a) at t
unfolding Rattle.ssq_ast.specs.declared.expr.Expr.TheBlock.shape-the_row-Expr-0 Rattle.ssq_ast.specs.declared.expr.Expr.TheBlock.hidden-the_row-Expr-0 denote.Hole.Carrier.hidden
is_null_is a at t = refl

pub binary_is : (left_at : ℕ) (a : Expr) (o : BinaryOp) (at right_at : ℕ) (b : Expr) → view.Binary left_at a o at right_at b ≡ expr.Binary' left_at tt (only a) o at right_at tt (only b)
unfolding Rattle.ssq_ast.specs.declared.expr.Expr.TheBlock.shape-the_row-Expr-0 Rattle.ssq_ast.specs.declared.expr.Expr.TheBlock.hidden-the_row-Expr-0 denote.Hole.Carrier.hidden
binary_is left_at a o at right_at b = refl

pub between_is : (a : Expr) (at : ℕ) (b c : Expr) → view.Between a at b c ≡ expr.Between' tt (only a) at tt (only b) tt (only c)
unfolding Rattle.ssq_ast.specs.declared.expr.Expr.TheBlock.shape-the_row-Expr-0 Rattle.ssq_ast.specs.declared.expr.Expr.TheBlock.hidden-the_row-Expr-0 denote.Hole.Carrier.hidden
between_is a at b c = refl

pub ruleset boxes = (aggregate_is, unary_is, is_null_is, binary_is, between_is)
