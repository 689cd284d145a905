use Rattle.std.proofs.Common.{rules, refl, []}
use Rattle.ssq_check.specs.Clauses.{group_windows}
use Rattle.ssq_check.specs.Counted.{tally_of}
use Rattle.ssq_check.proofs.Tallied.{counts_more, counts_end}
use Rattle.ssq_check.proofs.clause.windows_in.Goals as goal

pub loop-item-preserved : goal.loop-item-preserved
loop-item-preserved c = λ last.
    counts_more group_windows c.args.items.now c.loop-item.item-index c.item-item.result (tally_of 1 []) c.loop-item.tally c.with_window-tally.result last (search rules) c.item-item.is c.with_window-tally.ensures (c.loop-item.invariant last)

pub returns : goal.returns
returns c = c.loop-item.invariant c.loop-item.tally (counts_end group_windows c.args.items.now c.loop-item.item-index c.loop-item.tally (search rules)) 1 [] refl
