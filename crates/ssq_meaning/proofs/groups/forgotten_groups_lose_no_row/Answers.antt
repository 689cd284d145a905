use Rattle.ssq_meaning.proofs.GroupEpochs.{rows_are_open, rows_find_all}
use Rattle.ssq_meaning.proofs.groups.forgotten_groups_lose_no_row.Goals as goal

pub returns-clause-opens : goal.returns-clause-opens
returns-clause-opens c = rows_are_open

pub returns-clause-whole : goal.returns-clause-whole
returns-clause-whole c = rows_find_all
