use Rattle.ssq_bind.proofs.TimeBoundLemmas.{time_bounds_lie_around}
use Rattle.ssq_bind.proofs.laws.time_bounds_lie_around.Goals as goal

pub returns : goal.returns
returns c = time_bounds_lie_around
