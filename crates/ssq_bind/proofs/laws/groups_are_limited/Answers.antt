use Rattle.ssq_bind.proofs.LimitLemmas.{groups_are_limited}
use Rattle.ssq_bind.proofs.laws.groups_are_limited.Goals as goal

pub returns : goal.returns
returns c = groups_are_limited
