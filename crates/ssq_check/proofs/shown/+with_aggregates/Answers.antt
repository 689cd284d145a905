use Rattle.std.proofs.Common.{◌++◌, refl}
use Rattle.ssq_check.specs.Shown.{aggregates}
use Rattle.ssq_check.proofs.Opened.{aggregate_opened, unary_opened, null_opened, binary_opened, between_opened}
use Rattle.ssq_check.proofs.Tallied.{counts_both}
use Rattle.ssq_check.proofs.shown.+with_aggregates.Goals as goal

pub returns-in-Aggregate : goal.returns-in-Aggregate
unfolding aggregates
returns-in-Aggregate t c = rw (aggregate_opened c.args.value.now c.in-Aggregate.function c.in-Aggregate.at c.in-Aggregate.argument c.in-Aggregate.argument c.in-Aggregate.is refl) c.counting-in-Aggregate.ensures

pub returns-in-Unary : goal.returns-in-Unary
unfolding aggregates
returns-in-Unary t c = rw (unary_opened c.args.value.now c.in-Unary.op c.in-Unary.at c.in-Unary.operand c.get.result.now c.in-Unary.is c.get.ensures) c.with_aggregates.ensures

pub returns-in-IsNull : goal.returns-in-IsNull
unfolding aggregates
returns-in-IsNull t c = rw (null_opened c.args.value.now c.in-IsNull.operand c.get-in-IsNull.result.now c.in-IsNull.at c.in-IsNull.test c.in-IsNull.is c.get-in-IsNull.ensures) c.with_aggregates-in-IsNull.ensures

pub returns-in-Binary : goal.returns-in-Binary
unfolding aggregates
returns-in-Binary t c =
    let a = c.get-in-Binary.result.now in
    let b = c.get-in-Binary-2.result.now in
    rw (binary_opened c.args.value.now c.in-Binary.left_at c.in-Binary.left a c.in-Binary.op c.in-Binary.at c.in-Binary.right_at c.in-Binary.right b c.in-Binary.is c.get-in-Binary.ensures c.get-in-Binary-2.ensures)
    (counts_both (aggregates a) (aggregates b) c.args.tally c.with_aggregates-half.result c.with_aggregates-in-Binary.result c.with_aggregates-half.ensures c.with_aggregates-in-Binary.ensures)

pub returns-in-Between : goal.returns-in-Between
unfolding aggregates
returns-in-Between t c =
    let a = c.get-in-Between.result.now in
    let b = c.get-in-Between-2.result.now in
    let h = c.get-in-Between-3.result.now in
    rw (between_opened c.args.value.now c.in-Between.operand a c.in-Between.at c.in-Between.low b c.in-Between.high h c.in-Between.is c.get-in-Between.ensures c.get-in-Between-2.ensures c.get-in-Between-3.ensures)
    (counts_both (aggregates a) (aggregates b ++ aggregates h) c.args.tally c.with_aggregates-tested.result c.with_aggregates-in-Between.result c.with_aggregates-tested.ensures
    (counts_both (aggregates b) (aggregates h) c.with_aggregates-tested.result c.with_aggregates-least.result c.with_aggregates-in-Between.result c.with_aggregates-least.ensures c.with_aggregates-in-Between.ensures))
