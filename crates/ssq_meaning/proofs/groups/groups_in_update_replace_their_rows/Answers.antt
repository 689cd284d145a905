use Rattle.ssq_meaning.proofs.Updates.{tables_update}
use Rattle.ssq_meaning.proofs.groups.groups_in_update_replace_their_rows.Goals as goal

pub returns : goal.returns
returns c = tables_update
