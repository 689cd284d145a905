use Rattle.ssq_meaning.proofs.Counted.{considered}
use Rattle.ssq_meaning.proofs.groups.groups_are_considered_once.Goals as goal

pub returns : goal.returns
returns c = considered
