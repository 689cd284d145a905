use Rattle.ssq_meaning.proofs.Grouped.{appended}
use Rattle.ssq_meaning.proofs.groups.groups_add_up.Goals as goal

pub returns : goal.returns
returns c = appended
