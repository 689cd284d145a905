use Rattle.ssq_meaning.proofs.GroupEpochs.{epochs_append, considered_once}
use Rattle.ssq_meaning.proofs.groups.groups_in_append_add_up.Goals as goal

pub returns-clause-rows : goal.returns-clause-rows
returns-clause-rows c = epochs_append

pub returns-clause-once : goal.returns-clause-once
returns-clause-once c = considered_once
