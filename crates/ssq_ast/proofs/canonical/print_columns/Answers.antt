use Rattle.ssq_ast.specs.Canonical.{plain_decl}
use Rattle.ssq_ast.specs.Statement.{decl_words}
use Rattle.ssq_ast.proofs.Printed.{map_written}
use Rattle.ssq_ast.proofs.canonical.print_columns.Goals as goal

pub returns : goal.returns
returns c = rw (map_written decl_words plain_decl c.args.columns.now) c.print_separated.ensures
