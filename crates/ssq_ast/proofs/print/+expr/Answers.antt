use Rattle.std.proofs.Common.{[], ◌∷◌, ◌++◌}
use Rattle.ssq_lex.specs.Lexeme.{keyword, symbol}
use Rattle.ssq_lex.specs.declared.keyword.Keyword.TheVariants as key
use Rattle.ssq_lex.specs.declared.symbol.Symbol.TheVariants as mark
use Rattle.ssq_ast.specs.Expression.{Words, words, plain, within, binary_word, test_words}
use Rattle.ssq_ast.proofs.Printed.{behind, aggregate_words, unary_words, is_null_words, binary_words, between_words}
use Rattle.ssq_ast.proofs.print.+expr.Goals as goal

pub print_expr-returns-in-Aggregate : goal.print_expr-returns-in-Aggregate
print_expr-returns-in-Aggregate t c before held =
    let e = c.in-Aggregate in
    rw (aggregate_words c.args.value.now e.argument c.get.result.now e.function e.at c.function_key.result e.is c.get.ensures c.function_key.ensures)
    (behind before (keyword c.function_key.result ∷ symbol mark.LeftParen ∷ words (plain c.get.result.now)) (symbol mark.RightParen ∷ []) (c.symbol-in-Aggregate-2.ensures _ (c.print_expr.ensures _ (c.symbol-in-Aggregate.ensures _ (c.keyword-in-Aggregate.ensures before held)))))

pub print_expr-returns-in-Unary : goal.print_expr-returns-in-Unary
print_expr-returns-in-Unary t c before held =
    let e = c.in-Unary in
    rw (unary_words c.args.value.now e.operand c.get-in-Unary.result.now e.op e.at c.unary_level.result e.is c.get-in-Unary.ensures c.unary_level.ensures)
    (c.print_operand.ensures _ (c.print_unary_op.ensures before held))

pub print_expr-returns-in-IsNull : goal.print_expr-returns-in-IsNull
print_expr-returns-in-IsNull t c before held =
    let e = c.in-IsNull in
    rw (is_null_words c.args.value.now e.operand c.get-in-IsNull.result.now e.at e.test e.is c.get-in-IsNull.ensures)
    (behind before (words (within 4 (plain c.get-in-IsNull.result.now))) (keyword key.Is ∷ test_words e.test) (c.print_test.ensures _ (c.keyword-in-IsNull.ensures _ (c.print_operand-in-IsNull.ensures before held))))

pub print_expr-returns-in-Binary : goal.print_expr-returns-in-Binary
print_expr-returns-in-Binary t c before held =
    let e = c.in-Binary in
    rw (binary_words c.args.value.now e.left c.get-in-Binary.result.now e.right c.get-in-Binary-2.result.now e.op e.left_at e.at e.right_at
    c.left_level.result c.right_level.result e.is c.get-in-Binary.ensures c.get-in-Binary-2.ensures c.left_level.ensures c.right_level.ensures)
    (behind before (words (within c.left_level.result (plain c.get-in-Binary.result.now))) (binary_word e.op ∷ words (within c.right_level.result (plain c.get-in-Binary-2.result.now))) (c.print_operand-in-Binary-2.ensures _ (c.print_binary_op.ensures _ (c.print_operand-in-Binary.ensures before held))))

pub print_expr-returns-in-Between : goal.print_expr-returns-in-Between
print_expr-returns-in-Between t c before held =
    let e = c.in-Between in
    let front : Words = words (within 4 (plain c.get-in-Between.result.now)) in
    let middle : Words = words (within 4 (plain c.get-in-Between-2.result.now)) in
    let last : Words = words (within 4 (plain c.get-in-Between-3.result.now)) in
    rw (between_words c.args.value.now e.operand c.get-in-Between.result.now e.low c.get-in-Between-2.result.now e.high c.get-in-Between-3.result.now
    e.at e.is c.get-in-Between.ensures c.get-in-Between-2.ensures c.get-in-Between-3.ensures)
    (behind before (front ++ keyword key.Between ∷ middle) (keyword key.And ∷ last) (c.print_operand-in-Between-3.ensures _ (c.keyword-in-Between-2.ensures _
    (behind before front (keyword key.Between ∷ middle) (c.print_operand-in-Between-2.ensures _ (c.keyword-in-Between.ensures _ (c.print_operand-in-Between.ensures before held)))))))
