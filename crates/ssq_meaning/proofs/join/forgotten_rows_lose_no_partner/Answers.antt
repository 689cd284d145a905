use Rattle.ssq_meaning.proofs.JoinEpochs.{partners_are_found, partners_are_open}
use Rattle.ssq_meaning.proofs.join.forgotten_rows_lose_no_partner.Goals as goal

pub returns-clause-opens : goal.returns-clause-opens
returns-clause-opens c = partners_are_open

pub returns-clause-found : goal.returns-clause-found
returns-clause-found c = partners_are_found
