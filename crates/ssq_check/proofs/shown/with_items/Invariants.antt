use Rattle.std.proofs.Common.{drop}
use Rattle.std.specs.List.{flat_map}
use Rattle.ssq_check.specs.declared.tally.Tally.{Tally}
use Rattle.ssq_check.specs.Counted.{Counts}
use Rattle.ssq_check.specs.Shown.{item_aggregates}
use Rattle.ssq_check.proofs.shown.with_items.Given as goal

abbrev pub invariant-loop-item : goal.invariant-loop-item
invariant-loop-item l = (last : Tally) → Counts l.tally (flat_map item_aggregates (drop l.item-index l.items)) last → Counts l.fn.tally (flat_map item_aggregates l.items) last
