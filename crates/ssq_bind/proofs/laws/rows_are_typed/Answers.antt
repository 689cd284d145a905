use Rattle.ssq_bind.proofs.Kept.{row_typed}
use Rattle.ssq_bind.proofs.laws.rows_are_typed.Goals as goal

pub returns : goal.returns
returns c = λ context e. row_typed context 0 e
