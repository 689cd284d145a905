use Rattle.ssq_version.proofs.Prefixes.{stand_together}
use Rattle.ssq_version.proofs.law.beginnings_stand_together.Goals as goal

pub returns : goal.returns
returns c = stand_together
