use Rattle.std.proofs.Common.{rules, refl}
use Rattle.ssq_check.specs.Rules.{is_divisor}
use Rattle.ssq_check.proofs.Opened.{unary_opened}
use Rattle.ssq_check.proofs.expr.is_divisor.Goals as goal

pub returns-then-is_minus : goal.returns-then-is_minus
unfolding is_divisor
returns-then-is_minus c = rw (unary_opened c.args.value.now c.in-Unary.op c.in-Unary.at c.in-Unary.operand c.get.result.now c.in-Unary.is c.get.ensures) (search rules)

pub returns-else-is_minus : goal.returns-else-is_minus
unfolding is_divisor
returns-else-is_minus c = rw (unary_opened c.args.value.now c.in-Unary.op c.in-Unary.at c.in-Unary.operand c.in-Unary.operand c.in-Unary.is refl) (search rules)
