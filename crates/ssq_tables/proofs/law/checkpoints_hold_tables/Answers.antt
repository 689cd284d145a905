use Rattle.ssq_tables.proofs.Standing.{checkpoints_hold_tables}
use Rattle.ssq_tables.proofs.law.checkpoints_hold_tables.Goals as goal

pub returns : goal.returns
returns c = checkpoints_hold_tables c.shown_rows_are_stored.ensures
