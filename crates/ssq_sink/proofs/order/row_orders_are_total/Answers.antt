use Rattle.ssq_sink.proofs.Rows.{row_cmp_exact, row_cmp_total}
use Rattle.ssq_sink.proofs.order.row_orders_are_total.Goals as goal

pub returns-clause-total : goal.returns-clause-total
returns-clause-total c = row_cmp_total

pub returns-clause-ties : goal.returns-clause-ties
returns-clause-ties c = row_cmp_exact
