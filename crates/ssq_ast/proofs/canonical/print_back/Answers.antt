use Rattle.std.proofs.Common.{sym, ◌++◌}
use Rattle.ssq_lex.specs.Printing.{Adds}
use Rattle.ssq_lex.specs.declared.keyword.Keyword.TheVariants as key
use Rattle.ssq_ast.specs.Canonical.{plain_select}
use Rattle.ssq_ast.specs.Expression.{Words}
use Rattle.ssq_ast.specs.Statement.{WrittenSelect, deduplicate_words, group_words, condition_words, order_words, limit_words}
use Rattle.ssq_ast.proofs.Printed.{behind}
use Rattle.ssq_ast.proofs.canonical.print_back.Goals as goal

pub returns : goal.returns
returns c before held =
    let s : WrittenSelect = plain_select c.args.select.now in
    let to_group : Words = deduplicate_words s.deduplicate ++ group_words s.group in
    let to_having : Words = to_group ++ condition_words key.Having s.having in
    let to_order : Words = to_having ++ order_words s.order in
    let order : Adds c.print_condition.new.printer (order_words s.order) c.print_order.new.printer = rw c.as_slice.ensures at c.print_order.ensures in
    rw (sym c.mode_key.ensures)
    (behind before (to_order ++ limit_words s.limit) _ (c.symbol.ensures _ (c.keyword-2.ensures _ (c.keyword.ensures _
    (behind before to_order (limit_words s.limit) (c.print_limit.ensures _
    (behind before to_having (order_words s.order) (order _
    (behind before to_group (condition_words key.Having s.having) (c.print_condition.ensures _
    (behind before (deduplicate_words s.deduplicate) (group_words s.group) (c.print_group.ensures _
    (c.print_deduplicate.ensures before held)))))))))))))
