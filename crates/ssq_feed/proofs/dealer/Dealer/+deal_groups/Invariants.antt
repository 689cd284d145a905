use Rattle.std.proofs.Common.{length, take, drop}
use Rattle.std.specs.List.{flat_map}
use Rattle.ssq_feed.specs.Dealing.{Deals}
use Rattle.ssq_feed.specs.Keys.{all_of}
use Rattle.ssq_feed.proofs.Members.{rows_with}
use Rattle.ssq_feed.proofs.dealer.Dealer.+deal_groups.Given as goal

abbrev pub decreases-deal_groups : goal.decreases-deal_groups
decreases-deal_groups l = length l.parts.now

abbrev pub invariant-loop-nth : goal.invariant-loop-nth
invariant-loop-nth l = Deals l.initial.self.buckets l.self.buckets
    (flat_map (rows_with l.from.origin l.from.place (take l.from.arguments l.cells.items) l.parts (drop l.from.arguments l.cells.items) l.from.row.now) (take l.nth (all_of l.values)))
