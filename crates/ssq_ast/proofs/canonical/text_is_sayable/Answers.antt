use Rattle.ssq_ast.proofs.Sayable.{is_sayable_again}
use Rattle.ssq_ast.proofs.canonical.text_is_sayable.Goals as goal

pub returns : goal.returns
returns c = is_sayable_again
