use Rattle.ssq_meaning.proofs.Parted.{all_parted, fault_parted}
use Rattle.ssq_meaning.proofs.groups.groups_fall_into_partitions.Goals as goal

pub returns-clause-rows : goal.returns-clause-rows
returns-clause-rows c = all_parted

pub returns-clause-fault : goal.returns-clause-fault
returns-clause-fault c = fault_parted
