-- How tightly expressions bind.
use Rattle.std.proofs.Common.{◌≡◌, ◌≢◌, ℕ, sym, refl}
use Rattle.ssq_ast.specs.declared.expr.BinaryOp.{BinaryOp}
use Rattle.ssq_ast.specs.declared.expr.Expr.{Expr}
use Rattle.ssq_ast.specs.declared.expr.Expr.TheVariants as expr
use Rattle.ssq_ast.specs.declared.expr.Expr.TheViews as view
use Rattle.ssq_ast.specs.declared.expr.NullTest.{NullTest}
use Rattle.ssq_ast.specs.declared.expr.UnaryOp.{UnaryOp}
use Rattle.ssq_ast.proofs.Boxes.{unary_is, is_null_is, binary_is, between_is}
use Rattle.ssq_ast.specs.Expression.{level, plain, only}

-- what has no operator outside binds most tightly
pub no_operator : (e : Expr) → ((o : UnaryOp) (at : ℕ) (a : Expr) → e ≢ view.Unary o at a) → ((a : Expr) (at : ℕ) (t : NullTest) → e ≢ view.IsNull a at t) → ((left_at : ℕ) (a : Expr) (o : BinaryOp) (at right_at : ℕ) (b : Expr) → e ≢ view.Binary left_at a o at right_at b) → ((a : Expr) (at : ℕ) (b c : Expr) → e ≢ view.Between a at b c) → 7 ≡ level (plain e)
no_operator (expr.Number n at) unary is_null binary between = refl
no_operator (expr.Text text at) unary is_null binary between = refl
no_operator (expr.Truth truth at) unary is_null binary between = refl
no_operator (expr.Timestamp moment at) unary is_null binary between = refl
no_operator (expr.Interval span at) unary is_null binary between = refl
no_operator (expr.Column column) unary is_null binary between = refl
no_operator (expr.CountRows at) unary is_null binary between = refl
no_operator (expr.Aggregate' f at s (only a)) unary is_null binary between = refl
no_operator (expr.Unary' o at s (only a)) unary is_null binary between = absurd (unary o at a (sym (unary_is o at a)))
no_operator (expr.IsNull' s (only a) at t) unary is_null binary between = absurd (is_null a at t (sym (is_null_is a at t)))
no_operator (expr.Binary' left_at s (only a) o at right_at t (only b)) unary is_null binary between = absurd (binary left_at a o at right_at b (sym (binary_is left_at a o at right_at b)))
no_operator (expr.Between' s (only a) at t (only b) u (only c)) unary is_null binary between = absurd (between a at b c (sym (between_is a at b c)))
