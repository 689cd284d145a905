use Rattle.std.proofs.Common.{take}
use Rattle.ssq_agg.specs.Holding.{AreRead, entries_at, seen}
use Rattle.ssq_agg.proofs.kept.groups_at.Given as goal

abbrev pub invariant-loop-key : goal.invariant-loop-key
invariant-loop-key l = AreRead l.grouping (entries_at l.state (seen (take l.key-index l.keys))) l.groups.items
