use Rattle.ssq_bind.proofs.WellTyped.{queries_are_typed}
use Rattle.ssq_bind.proofs.laws.queries_are_typed.Goals as goal

pub returns : goal.returns
returns c = queries_are_typed
