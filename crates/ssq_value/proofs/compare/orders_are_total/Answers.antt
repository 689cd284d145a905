use Rattle.ssq_value.specs.OrderLaws.{value_cmp_total, value_cmp_exact, values_cmp_total, values_cmp_exact}
use Rattle.ssq_value.proofs.compare.orders_are_total.Goals as goal

pub returns-clause-values : goal.returns-clause-values
returns-clause-values c = value_cmp_total

pub returns-clause-ties : goal.returns-clause-ties
returns-clause-ties c = value_cmp_exact

pub returns-clause-rows : goal.returns-clause-rows
returns-clause-rows c = values_cmp_total

pub returns-clause-row_ties : goal.returns-clause-row_ties
returns-clause-row_ties c = values_cmp_exact
