use Rattle.ssq_meaning.proofs.Firsts.{repeats_parted}
use Rattle.ssq_meaning.proofs.dedup.first_rows_fall_into_partitions.Goals as goal

pub returns : goal.returns
returns c = repeats_parted
