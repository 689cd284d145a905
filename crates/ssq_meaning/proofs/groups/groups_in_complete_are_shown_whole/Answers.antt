use Rattle.ssq_meaning.proofs.Tables.{epochs_complete}
use Rattle.ssq_meaning.proofs.groups.groups_in_complete_are_shown_whole.Goals as goal

pub returns : goal.returns
returns c = epochs_complete
