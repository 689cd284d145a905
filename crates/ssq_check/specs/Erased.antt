-- The type of an expression doesn't depend on places.
use Rattle.std.specs.Prelude.{◌≡◌}
use Rattle.ssq_ast.specs.declared.expr.Expr.{Expr}
use Rattle.ssq_ast.specs.Expression.{erased_expr}
use Rattle.ssq_check.specs.declared.scope.Scope.{Scope}
use Rattle.ssq_check.specs.declared.scope.Within.{Within}
use Rattle.ssq_check.specs.Rules.{kind}

abbrev pub TypesStay : Type 0
TypesStay = (scope : Scope) (w : Within) (e : Expr) → kind scope w (erased_expr e) ≡ kind scope w e
