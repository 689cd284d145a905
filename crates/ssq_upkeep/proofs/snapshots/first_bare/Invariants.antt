-- The versions before this one are not bare.
use Rattle.std.proofs.Common.{◌≡◌, ◌≤◌, ◌+◌, ◌++◌, ◌-◌, ◌%◌}
use Rattle.ssq_upkeep.proofs.Floors.{AllFrom}
use Rattle.ssq_upkeep.proofs.snapshots.first_bare.Given as goal

abbrev pub invariant-loop-version : goal.invariant-loop-version
invariant-loop-version l = record {
  tenth : l.version % 10 ≡ 9;
  above : l.from ≤ l.version;
  all : AllFrom (l.settled ++ l.news ++ l.claimed) l.partition l.from l.last l.version;
}

abbrev pub decreases-loop-version : goal.decreases-loop-version
decreases-loop-version l = l.last + 10 - l.version
