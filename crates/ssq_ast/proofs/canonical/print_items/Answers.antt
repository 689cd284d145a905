use Rattle.ssq_ast.specs.Canonical.{plain_item}
use Rattle.ssq_ast.specs.Statement.{item_words}
use Rattle.ssq_ast.proofs.Printed.{map_written}
use Rattle.ssq_ast.proofs.canonical.print_items.Goals as goal

pub returns : goal.returns
returns c = rw (map_written item_words plain_item c.args.items.now) c.print_separated.ensures
