use Rattle.ssq_json.proofs.Fitting.{row_of-fits}
use Rattle.ssq_json.proofs.law.rows_fit_their_schema.Goals as goal

pub returns : goal.returns
returns c = row_of-fits
