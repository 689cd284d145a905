-- An expression that the code opened is made of what stood in its boxes.
use Rattle.std.proofs.Common.{◌≡◌, ◌∙◌, sym, ℕ}
use Rattle.ssq_ast.specs.declared.expr.BinaryOp.{BinaryOp}
use Rattle.ssq_ast.specs.declared.expr.Expr.{Expr}
use Rattle.ssq_ast.specs.declared.expr.Expr.TheVariants as expr
use Rattle.ssq_ast.specs.declared.expr.Expr.TheViews as view
use Rattle.ssq_ast.specs.declared.expr.Function.{Function}
use Rattle.ssq_ast.specs.declared.expr.NullTest.{NullTest}
use Rattle.ssq_ast.specs.declared.expr.UnaryOp.{UnaryOp}
use Rattle.ssq_ast.specs.Expression.{only}
use Rattle.ssq_ast.proofs.Boxes.{aggregate_is, unary_is, is_null_is, binary_is, between_is}

module _ (own : Expr) where
  pub aggregate_opened : (f : Function) (at : ℕ) (x x' : Expr) → own ≡ view.Aggregate f at x → x' ≡ x → own ≡ expr.Aggregate' f at tt (only x')
  aggregate_opened f at x x' is same = is ∙ aggregate_is f at x ∙ (λ i. expr.Aggregate' f at tt (only (sym same i)))

  pub unary_opened : (o : UnaryOp) (at : ℕ) (x x' : Expr) → own ≡ view.Unary o at x → x' ≡ x → own ≡ expr.Unary' o at tt (only x')
  unary_opened o at x x' is same = is ∙ unary_is o at x ∙ (λ i. expr.Unary' o at tt (only (sym same i)))

  pub null_opened : (x x' : Expr) (at : ℕ) (test : NullTest) → own ≡ view.IsNull x at test → x' ≡ x → own ≡ expr.IsNull' tt (only x') at test
  null_opened x x' at test is same = is ∙ is_null_is x at test ∙ (λ i. expr.IsNull' tt (only (sym same i)) at test)

  pub binary_opened : (left_at : ℕ) (a a' : Expr) (o : BinaryOp) (at right_at : ℕ) (b b' : Expr) → own ≡ view.Binary left_at a o at right_at b → a' ≡ a → b' ≡ b
      → own ≡ expr.Binary' left_at tt (only a') o at right_at tt (only b')
  binary_opened left_at a a' o at right_at b b' is left right =
      is ∙ binary_is left_at a o at right_at b ∙ (λ i. expr.Binary' left_at tt (only (sym left i)) o at right_at tt (only (sym right i)))

  pub between_opened : (a a' : Expr) (at : ℕ) (b b' c c' : Expr) → own ≡ view.Between a at b c → a' ≡ a → b' ≡ b → c' ≡ c → own ≡ expr.Between' tt (only a') at tt (only b') tt (only c')
  between_opened a a' at b b' c c' is first second third =
      is ∙ between_is a at b c ∙ (λ i. expr.Between' tt (only (sym first i)) at tt (only (sym second i)) tt (only (sym third i)))
