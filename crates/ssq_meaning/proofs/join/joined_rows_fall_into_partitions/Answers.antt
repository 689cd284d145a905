use Rattle.ssq_meaning.proofs.PairsParted.{fault_joined, pairs_parted}
use Rattle.ssq_meaning.proofs.join.joined_rows_fall_into_partitions.Goals as goal

pub returns-clause-rows : goal.returns-clause-rows
returns-clause-rows c = pairs_parted

pub returns-clause-fault : goal.returns-clause-fault
returns-clause-fault c = fault_joined
