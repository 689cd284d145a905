use Rattle.std.proofs.Common.{rules}
use Rattle.ssq_check.specs.Checked.{checked}
use Rattle.ssq_check.proofs.Opened.{aggregate_opened, unary_opened, null_opened, binary_opened, between_opened}
use Rattle.ssq_check.proofs.expr.+checked.Goals as goal

pub returns-in-Aggregate : goal.returns-in-Aggregate
unfolding checked
returns-in-Aggregate t c = rw (aggregate_opened c.args.value.now c.in-Aggregate.function c.in-Aggregate.at c.in-Aggregate.argument c.get.result.now c.in-Aggregate.is c.get.ensures) (search rules)

pub returns-in-Unary : goal.returns-in-Unary
unfolding checked
returns-in-Unary t c = rw (unary_opened c.args.value.now c.in-Unary.op c.in-Unary.at c.in-Unary.operand c.get-in-Unary.result.now c.in-Unary.is c.get-in-Unary.ensures) (search rules)

pub returns-in-IsNull : goal.returns-in-IsNull
unfolding checked
returns-in-IsNull t c = rw (null_opened c.args.value.now c.in-IsNull.operand c.get-in-IsNull.result.now c.in-IsNull.at c.in-IsNull.test c.in-IsNull.is c.get-in-IsNull.ensures) (search rules)

pub returns-then-is_shifted : goal.returns-then-is_shifted
unfolding checked
returns-then-is_shifted t c = rw (binary_opened c.args.value.now c.in-Binary.left_at c.in-Binary.left c.get-in-Binary.result.now c.in-Binary.op c.in-Binary.at c.in-Binary.right_at c.in-Binary.right c.get-right.result.now c.in-Binary.is c.get-in-Binary.ensures c.get-right.ensures) (search rules)

pub returns-else-is_shifted : goal.returns-else-is_shifted
unfolding checked
returns-else-is_shifted t c = rw (binary_opened c.args.value.now c.in-Binary.left_at c.in-Binary.left c.get-in-Binary.result.now c.in-Binary.op c.in-Binary.at c.in-Binary.right_at c.in-Binary.right c.get-right.result.now c.in-Binary.is c.get-in-Binary.ensures c.get-right.ensures) (search rules)

pub returns-in-Between : goal.returns-in-Between
unfolding checked
returns-in-Between t c = rw (between_opened c.args.value.now c.in-Between.operand c.get-in-Between.result.now c.in-Between.at c.in-Between.low c.get-in-Between-2.result.now c.in-Between.high c.get-in-Between-3.result.now c.in-Between.is c.get-in-Between.ensures c.get-in-Between-2.ensures c.get-in-Between-3.ensures) (search rules)
