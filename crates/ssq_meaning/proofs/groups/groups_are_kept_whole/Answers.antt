use Rattle.ssq_meaning.proofs.Counted.{kept_whole}
use Rattle.ssq_meaning.proofs.groups.groups_are_kept_whole.Goals as goal

pub returns : goal.returns
returns c = kept_whole
