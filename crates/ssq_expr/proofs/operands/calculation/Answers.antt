use Rattle.std.proofs.Common.{rules}
use Rattle.ssq_expr.proofs.Opened.{arithmetic_known}
use Rattle.ssq_expr.proofs.operands.calculation.Goals as goal

pub returns-in_ok-left-in-Arithmetic : goal.returns-in_ok-left-in-Arithmetic
returns-in_ok-left-in-Arithmetic c = rw (arithmetic_known c.args.aggregates.now c.args.expression.now c.args.row.now c.in-Arithmetic.op c.in-Arithmetic.a c.in-Arithmetic.b _ _ c.in-Arithmetic.is c.in_ok-left-in-Arithmetic.ensures.left c.in_ok-left-in-Arithmetic.ensures.right) (search rules)
