use Rattle.ssq_meaning.proofs.Coding.{rows_ascend}
use Rattle.ssq_meaning.proofs.KeptRows.{rows_listed}
use Rattle.ssq_meaning.proofs.join.kept_rows_are_listed.Goals as goal

pub returns-clause-listed : goal.returns-clause-listed
returns-clause-listed c = rows_listed

pub returns-clause-ascend : goal.returns-clause-ascend
returns-clause-ascend c = rows_ascend
