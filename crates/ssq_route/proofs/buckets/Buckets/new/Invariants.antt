-- so many empty buckets so far
use Rattle.std.proofs.Common.{◌≡◌, [], map}
use Rattle.std.specs.List.{range_with_len}
use Rattle.ssq_route.specs.Buckets.{items_at}
use Rattle.ssq_route.proofs.Filling.{contents}
use Rattle.ssq_route.proofs.buckets.Buckets.new.Given as goal

abbrev pub invariant-loop : goal.invariant-loop
invariant-loop g l = contents l.buckets.items ≡ map (items_at l.partitions []) (range_with_len 0 l.counter)
