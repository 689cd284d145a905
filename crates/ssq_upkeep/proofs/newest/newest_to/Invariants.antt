-- The newest of the names so far.
use Rattle.std.proofs.Common.{take}
use Rattle.ssq_upkeep.proofs.Floors.{IsFound}
use Rattle.ssq_upkeep.proofs.newest.newest_to.Given as goal

abbrev pub invariant-loop-name : goal.invariant-loop-name
invariant-loop-name l = IsFound (take l.name-index l.names) l.partition l.highest l.newest
