use Rattle.ssq_ast.specs.Statement.{name_words}
use Rattle.ssq_ast.proofs.Printed.{map_written}
use Rattle.ssq_ast.proofs.canonical.print_names.Goals as goal

pub returns : goal.returns
returns c = rw (map_written name_words (λ name. name.text) c.args.names.now) c.print_separated.ensures
