use Rattle.ssq_meaning.proofs.Overflowing.{no_key_fault}
use Rattle.ssq_meaning.proofs.laws.keys_overflow_in_their_partitions.Goals as goal

pub returns : goal.returns
returns c = no_key_fault
