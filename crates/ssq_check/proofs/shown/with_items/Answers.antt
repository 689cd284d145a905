use Rattle.std.proofs.Common.{rules}
use Rattle.ssq_check.specs.Shown.{item_aggregates}
use Rattle.ssq_check.proofs.Tallied.{counts_more, counts_end}
use Rattle.ssq_check.proofs.shown.with_items.Goals as goal

pub loop-item-preserved : goal.loop-item-preserved
loop-item-preserved c = λ last.
    counts_more item_aggregates c.args.items.now c.loop-item.item-index c.item-item.result c.args.tally c.loop-item.tally c.with_item-tally.result last (search rules) c.item-item.is c.with_item-tally.ensures (c.loop-item.invariant last)

pub returns : goal.returns
returns c = c.loop-item.invariant c.loop-item.tally (counts_end item_aggregates c.args.items.now c.loop-item.item-index c.loop-item.tally (search rules))
