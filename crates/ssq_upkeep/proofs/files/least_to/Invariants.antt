-- The least of the names so far.
use Rattle.std.proofs.Common.{take}
use Rattle.ssq_upkeep.proofs.Leasts.{IsSoFar}
use Rattle.ssq_upkeep.proofs.files.least_to.Given as goal

abbrev pub invariant-loop-name : goal.invariant-loop-name
invariant-loop-name l = IsSoFar (take l.name-index l.names) l.settled l.partitions l.last l.least
