use Rattle.ssq_ast.proofs.Queries.{is_read_again}
use Rattle.ssq_ast.proofs.canonical.text_is_read_again.Goals as goal

pub returns : goal.returns
returns c = is_read_again
