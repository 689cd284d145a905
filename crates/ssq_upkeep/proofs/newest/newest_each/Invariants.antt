-- The newest of each partition among the names so far.
use Rattle.std.proofs.Common.{◌≡◌, length, take}
use Rattle.ssq_upkeep.specs.Steps.{AreNewest}
use Rattle.ssq_upkeep.proofs.newest.newest_each.Given as goal

abbrev pub invariant-loop-name : goal.invariant-loop-name
invariant-loop-name l = (length l.newest ≡ 64) × AreNewest (take l.name-index l.names) l.highest l.newest
