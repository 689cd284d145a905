use Rattle.std.proofs.Common.{◌≡◌, length}
use Rattle.ssq_feed.specs.Causes.{LogWent}
use Rattle.ssq_feed.proofs.Feeding.{SoFar}
use Rattle.ssq_feed.proofs.range.feed_lines.Given as goal

abbrev pub invariant-loop-at : goal.invariant-loop-at
invariant-loop-at g l = record {
  so_far : SoFar g.L.Log.tells l.query.bound.now l.epoch (record { stream = l.stream; part = l.part; lines = g.L.Log.lines l.initial.log }) l.from l.at l.to l.partitions l.time l.dealer.buckets;
  len : length l.dealer.buckets ≡ l.partitions;
  log : LogWent g.L.Log.tells g.L.Log.lines g.L.Log.available g.L.Log.answers g.L.Log.faults l.initial.log l.log;
}
