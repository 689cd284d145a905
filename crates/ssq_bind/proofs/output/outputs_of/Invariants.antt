use Rattle.std.proofs.Common.{◌≡◌, [], drop}
use Rattle.ssq_bind.specs.Lists.{gathered}
use Rattle.ssq_bind.specs.Shapes.{item_aggregates, shown}
use Rattle.ssq_bind.proofs.output.outputs_of.Given as goal

abbrev pub invariant-loop-item : goal.invariant-loop-item
invariant-loop-item l =
    (shown l.context l.within l.outputs l.found (drop l.item-index l.items) ≡ shown l.context l.within [] l.fn.found l.items)
    × (gathered (item_aggregates l.context l.within) l.found (drop l.item-index l.items) ≡ gathered (item_aggregates l.context l.within) l.fn.found l.items)
