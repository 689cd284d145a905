use Rattle.ssq_bind.specs.Shapes.{item_aggregates}
use Rattle.ssq_bind.proofs.Grown.{gathered_end, shown_end}
use Rattle.ssq_bind.proofs.output.outputs_of.Goals as goal

pub returns-clause-outputs : goal.returns-clause-outputs
returns-clause-outputs c =
    shown_end c.args.context.now c.args.within c.loop-item.outputs c.args.found.now c.loop-item.found c.args.items.now c.loop-item.item-index c.loop-item.invariant.0 c.loop-item-test.false

pub returns-clause-found : goal.returns-clause-found
returns-clause-found c =
    gathered_end (item_aggregates c.args.context.now c.args.within) c.args.found.now c.loop-item.found c.args.items.now c.loop-item.item-index c.loop-item.invariant.1 c.loop-item-test.false
