use Rattle.ssq_meaning.proofs.FitRows.{spelled, short}
use Rattle.ssq_meaning.proofs.fed.fit_values_are_spelled.Goals as goal

pub returns-clause-spelled : goal.returns-clause-spelled
returns-clause-spelled c = spelled

pub returns-clause-short : goal.returns-clause-short
returns-clause-short c = short
