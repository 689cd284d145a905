use Rattle.std.proofs.Common.{arith}
use Rattle.ssq_feed.proofs.Dealing.{deals_alone}
use Rattle.ssq_feed.proofs.Members.{on_ok}
use Rattle.ssq_feed.proofs.dealer.Dealer.deal.Goals as goal

pub returns-then-partitions-eq1 : goal.returns-then-partitions-eq1
returns-then-partitions-eq1 c =
    on_ok c.add.result c.add.ensures.all (λ all.
    deals_alone c.args.self.now.buckets c.add.new.self c.args.row (omega (arith, c.partitions.ensures.partitions, c.if-partitions-eq1)) c.add.ensures.len c.requires all)
