use Rattle.std.proofs.Common.{sym, length}
use Rattle.std.proofs.lemmas.List.{append-nil}
use Rattle.ssq_bind.specs.Value.{unary_value, null_value, value_of, aggregates_of}
use Rattle.ssq_check.proofs.Opened.{aggregate_opened, unary_opened, null_opened, binary_opened, between_opened}
use Rattle.ssq_bind.proofs.Opened.{on_ok, one_value, two_values, three_values, found_given, found_both, found_three}
use Rattle.ssq_bind.proofs.value.+bound.Goals as goal

pub aggregate_of-returns-clause-found : goal.aggregate_of-returns-clause-found
aggregate_of-returns-clause-found t c =
    found_given c.numbered.result c.args.context.now c.args.within c.numbered.new.found c.args.found.now c.args.function c.function_of.result c.in_ok-argument.argument c.args.value.now
    c.function_of.ensures c.in_ok-argument.ensures c.numbered.ensures.found

pub value_of-returns-in-Aggregate-clause-value : goal.value_of-returns-in-Aggregate-clause-value
unfolding value_of
value_of-returns-in-Aggregate-clause-value t c =
    rw (aggregate_opened c.args.value.now c.in-Aggregate.function c.in-Aggregate.at c.in-Aggregate.argument c.get.result.now c.in-Aggregate.is c.get.ensures) c.aggregate_of.ensures.value

pub value_of-returns-in-Aggregate-clause-found : goal.value_of-returns-in-Aggregate-clause-found
unfolding aggregates_of
value_of-returns-in-Aggregate-clause-found t c =
    rw (aggregate_opened c.args.value.now c.in-Aggregate.function c.in-Aggregate.at c.in-Aggregate.argument c.get.result.now c.in-Aggregate.is c.get.ensures) c.aggregate_of.ensures.found

pub value_of-returns-in_ok-operand-in-Unary-clause-value : goal.value_of-returns-in_ok-operand-in-Unary-clause-value
unfolding value_of
value_of-returns-in_ok-operand-in-Unary-clause-value t c =
    rw (unary_opened c.args.value.now c.in-Unary.op c.in-Unary.at c.in-Unary.operand c.get-in-Unary.result.now c.in-Unary.is c.get-in-Unary.ensures, c.unary_value.ensures)
    (λ i. unary_value c.in-Unary.op (c.in_ok-operand-in-Unary.ensures.value i))

pub value_of-returns-in_ok-operand-in-Unary-clause-found : goal.value_of-returns-in_ok-operand-in-Unary-clause-found
unfolding aggregates_of
value_of-returns-in_ok-operand-in-Unary-clause-found t c =
    rw (unary_opened c.args.value.now c.in-Unary.op c.in-Unary.at c.in-Unary.operand c.get-in-Unary.result.now c.in-Unary.is c.get-in-Unary.ensures) c.in_ok-operand-in-Unary.ensures.found

pub value_of-returns-in_ok-operand-in-IsNull-clause-value : goal.value_of-returns-in_ok-operand-in-IsNull-clause-value
unfolding value_of
value_of-returns-in_ok-operand-in-IsNull-clause-value t c =
    rw (null_opened c.args.value.now c.in-IsNull.operand c.get-in-IsNull.result.now c.in-IsNull.at c.in-IsNull.test c.in-IsNull.is c.get-in-IsNull.ensures)
    (one_value c.null_value.result (null_value c.in-IsNull.test) c.in_ok-operand-in-IsNull.operand (value_of c.args.context.now c.args.within (length c.args.found.now) c.get-in-IsNull.result.now)
    c.in_ok-operand-in-IsNull.ensures.value c.null_value.ensures)

pub value_of-returns-in_ok-operand-in-IsNull-clause-found : goal.value_of-returns-in_ok-operand-in-IsNull-clause-found
unfolding aggregates_of
value_of-returns-in_ok-operand-in-IsNull-clause-found t c =
    rw (null_opened c.args.value.now c.in-IsNull.operand c.get-in-IsNull.result.now c.in-IsNull.at c.in-IsNull.test c.in-IsNull.is c.get-in-IsNull.ensures)
    (on_ok c.null_value.result _ c.in_ok-operand-in-IsNull.ensures.found)

pub value_of-returns-in_ok-b-in-Binary-clause-value : goal.value_of-returns-in_ok-b-in-Binary-clause-value
unfolding value_of
value_of-returns-in_ok-b-in-Binary-clause-value t c =
    let left = c.get-in-Binary.result.now in
    let right = c.get-right.result.now in
    rw (binary_opened c.args.value.now c.in-Binary.left_at c.in-Binary.left left c.in-Binary.op c.in-Binary.at c.in-Binary.right_at c.in-Binary.right right c.in-Binary.is c.get-in-Binary.ensures c.get-right.ensures)
    (two_values c.args.context.now c.args.within c.args.found.now c.operand_of-in-Binary.new.found c.in-Binary.op left right c.shift_of.result c.in_ok-a-in-Binary.a c.in_ok-b-in-Binary.b c.shifted_or.result
    c.in_ok-a-in-Binary.ensures.found c.shift_of.ensures c.in_ok-a-in-Binary.ensures.value c.in_ok-b-in-Binary.ensures.value c.shifted_or.ensures)

pub value_of-returns-in_ok-b-in-Binary-clause-found : goal.value_of-returns-in_ok-b-in-Binary-clause-found
unfolding aggregates_of
value_of-returns-in_ok-b-in-Binary-clause-found t c =
    let left = c.get-in-Binary.result.now in
    let right = c.get-right.result.now in
    rw (binary_opened c.args.value.now c.in-Binary.left_at c.in-Binary.left left c.in-Binary.op c.in-Binary.at c.in-Binary.right_at c.in-Binary.right right c.in-Binary.is c.get-in-Binary.ensures c.get-right.ensures)
    (found_both c.args.found.now c.operand_of-in-Binary.new.found c.operand_of-in-Binary-2.new.found _ _ c.in_ok-a-in-Binary.ensures.found c.in_ok-b-in-Binary.ensures.found)

pub value_of-returns-in_ok-most-in-Between-clause-value : goal.value_of-returns-in_ok-most-in-Between-clause-value
unfolding value_of
value_of-returns-in_ok-most-in-Between-clause-value t c =
    let a = c.get-in-Between.result.now in
    let b = c.get-in-Between-2.result.now in
    let h = c.get-in-Between-3.result.now in
    rw (between_opened c.args.value.now c.in-Between.operand a c.in-Between.at c.in-Between.low b c.in-Between.high h c.in-Between.is c.get-in-Between.ensures c.get-in-Between-2.ensures c.get-in-Between-3.ensures)
    (three_values c.args.context.now c.args.within c.args.found.now c.operand_of-in-Between.new.found c.operand_of-in-Between-2.new.found a b h
    c.in_ok-tested-in-Between.tested c.in_ok-least-in-Between.least c.in_ok-most-in-Between.most c.between_value.result
    c.in_ok-tested-in-Between.ensures.found c.in_ok-least-in-Between.ensures.found
    c.in_ok-tested-in-Between.ensures.value c.in_ok-least-in-Between.ensures.value c.in_ok-most-in-Between.ensures.value c.between_value.ensures)

pub value_of-returns-in_ok-most-in-Between-clause-found : goal.value_of-returns-in_ok-most-in-Between-clause-found
unfolding aggregates_of
value_of-returns-in_ok-most-in-Between-clause-found t c =
    let a = c.get-in-Between.result.now in
    let b = c.get-in-Between-2.result.now in
    let h = c.get-in-Between-3.result.now in
    rw (between_opened c.args.value.now c.in-Between.operand a c.in-Between.at c.in-Between.low b c.in-Between.high h c.in-Between.is c.get-in-Between.ensures c.get-in-Between-2.ensures c.get-in-Between-3.ensures)
    (found_three c.args.found.now c.operand_of-in-Between.new.found c.operand_of-in-Between-2.new.found c.operand_of-in-Between-3.new.found _ _ _
    c.in_ok-tested-in-Between.ensures.found c.in_ok-least-in-Between.ensures.found c.in_ok-most-in-Between.ensures.found)

pub value_of-returns-in-Column-clause-value : goal.value_of-returns-in-Column-clause-value
unfolding value_of
value_of-returns-in-Column-clause-value t c = rw (c.in-Column.is) c.column_value.ensures

pub value_of-returns-in-Column-clause-found : goal.value_of-returns-in-Column-clause-found
unfolding aggregates_of
value_of-returns-in-Column-clause-found t c = on_ok c.column_value.result _ (rw (c.in-Column.is) (sym (append-nil c.args.found.now)))

pub value_of-returns-in-CountRows-clause-value : goal.value_of-returns-in-CountRows-clause-value
unfolding value_of
value_of-returns-in-CountRows-clause-value t c = rw (c.in-CountRows.is) c.rows_counted.ensures.value

pub value_of-returns-in-CountRows-clause-found : goal.value_of-returns-in-CountRows-clause-found
unfolding aggregates_of
value_of-returns-in-CountRows-clause-found t c = rw (c.in-CountRows.is) c.rows_counted.ensures.found

pub operand_of-returns-clause-found : goal.operand_of-returns-clause-found
operand_of-returns-clause-found t c = on_ok c.new.result _ c.in_ok-typed.ensures.found
