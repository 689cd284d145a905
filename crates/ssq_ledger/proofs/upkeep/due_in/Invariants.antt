-- None of the partitions so far has one.
use Rattle.std.proofs.Common.{◌<◌, ◌++◌, ℕ}
use Rattle.ssq_upkeep.specs.Upkeep.{IsDue}
use Rattle.ssq_ledger.proofs.upkeep.due_in.Given as goal

abbrev pub invariant-loop-partition : goal.invariant-loop-partition
invariant-loop-partition l = (p v : ℕ) → p < l.partition → IsDue (l.names.settled.items ++ l.names.news.items ++ l.names.claimed.items) l.names.settled.items p l.last v → ⊥
