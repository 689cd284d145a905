use Rattle.ssq_ast.specs.Canonical.{plain_group}
use Rattle.ssq_ast.specs.Statement.{group_item_words}
use Rattle.ssq_ast.proofs.Printed.{map_written}
use Rattle.ssq_ast.proofs.canonical.print_groups.Goals as goal

pub returns : goal.returns
returns c = rw (map_written group_item_words plain_group c.args.groups.now) c.print_separated.ensures
