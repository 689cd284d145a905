use Rattle.ssq_version.specs.State.{from_key}
use Rattle.ssq_version.proofs.Sorting.{sorted_from, none_left}
use Rattle.ssq_version.proofs.map.listed.Goals as goal

pub returns : goal.returns
returns c =
    sorted_from c.args.key.now c.args.table.now.entries c.loop-entry.list.items c.sort_unstable.new.self.items c.iter-entry-items.ensures.unique
    (none_left c.args.key.now c.loop-entry.list.items c.loop-entry.entry-iterator (from_key c.args.key.now c.args.table.now.entries) c.in-None.ensures.steps.0 c.loop-entry.invariant.2)
    c.sort_unstable.ensures.permutation c.sort_unstable.ensures.sorted
