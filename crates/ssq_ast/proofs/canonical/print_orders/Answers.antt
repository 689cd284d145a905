use Rattle.ssq_ast.specs.Canonical.{plain_order}
use Rattle.ssq_ast.specs.Statement.{order_item_words}
use Rattle.ssq_ast.proofs.Printed.{map_written}
use Rattle.ssq_ast.proofs.canonical.print_orders.Goals as goal

pub returns : goal.returns
returns c = rw (map_written order_item_words plain_order c.args.orders.now) c.print_separated.ensures
