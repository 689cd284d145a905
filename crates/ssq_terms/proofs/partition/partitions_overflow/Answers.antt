use Rattle.ssq_terms.proofs.Overflowing.{keys_are_least}
use Rattle.ssq_terms.proofs.partition.partitions_overflow.Goals as goal

pub returns : goal.returns
returns c = keys_are_least c.partitions_overflow_on_the_least_key.ensures
