use Rattle.ssq_tables.proofs.Epochs.{epochs_stored}
use Rattle.ssq_tables.proofs.law.shown_rows_are_stored.Goals as goal

pub returns : goal.returns
returns c = epochs_stored c.rows_fit_their_schema.ensures c.fed_rows_are_fit.ensures.accepted c.fed_rows_are_fit.ensures.on_time
