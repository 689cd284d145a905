use Rattle.ssq_terms.proofs.Rounds.{found_is, opens_as_found, partitions_begin, stores_hold}
use Rattle.ssq_terms.proofs.opening.round_begins_as_found.Goals as goal

pub returns-clause-found : goal.returns-clause-found
returns-clause-found c = found_is

pub returns-clause-opens : goal.returns-clause-opens
returns-clause-opens c = opens_as_found

pub returns-clause-stores : goal.returns-clause-stores
returns-clause-stores c = stores_hold

pub returns-clause-held : goal.returns-clause-held
returns-clause-held c = partitions_begin
