use Rattle.ssq_check.proofs.Erased.{kind_stays}
use Rattle.ssq_check.proofs.whole.types_stay.Goals as goal

pub returns : goal.returns
returns c = kind_stays
