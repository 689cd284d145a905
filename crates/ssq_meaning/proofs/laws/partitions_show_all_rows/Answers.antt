use Rattle.ssq_meaning.proofs.ByShape.{all_shown}
use Rattle.ssq_meaning.proofs.laws.partitions_show_all_rows.Goals as goal

pub returns : goal.returns
returns c = all_shown
