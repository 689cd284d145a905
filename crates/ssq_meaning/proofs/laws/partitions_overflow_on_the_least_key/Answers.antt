use Rattle.ssq_meaning.proofs.Overflowing.{least_of_partitions}
use Rattle.ssq_meaning.proofs.laws.partitions_overflow_on_the_least_key.Goals as goal

pub returns : goal.returns
returns c = least_of_partitions
