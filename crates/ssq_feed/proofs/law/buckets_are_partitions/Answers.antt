use Rattle.ssq_feed.proofs.Dealing.{buckets_are, buckets_count}
use Rattle.ssq_feed.proofs.law.buckets_are_partitions.Goals as goal

pub returns-clause-count : goal.returns-clause-count
returns-clause-count c = buckets_count

pub returns-clause-rows : goal.returns-clause-rows
returns-clause-rows c = buckets_are
