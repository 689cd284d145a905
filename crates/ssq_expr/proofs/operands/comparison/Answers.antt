use Rattle.std.proofs.Common.{rules}
use Rattle.ssq_expr.proofs.Opened.{compared_known}
use Rattle.ssq_expr.proofs.operands.comparison.Goals as goal

pub returns-in_ok-left-in-Compared : goal.returns-in_ok-left-in-Compared
returns-in_ok-left-in-Compared c = rw (compared_known c.args.aggregates.now c.args.expression.now c.args.row.now c.in-Compared.comparison c.in-Compared.a c.in-Compared.b _ _ c.in-Compared.is c.in_ok-left-in-Compared.ensures.left c.in_ok-left-in-Compared.ensures.right) (search rules)
