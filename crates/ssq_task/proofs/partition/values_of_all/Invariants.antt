-- The values so far and those of the parts that are left are those of all.
use Rattle.std.proofs.Common.{◌≡◌, ◌++◌}
use Rattle.ssq_task.specs.Lists.{joined_vecs}
use Rattle.ssq_task.specs.Reducing.{values_of}
use Rattle.ssq_task.proofs.partition.values_of_all.Given as goal

abbrev pub invariant-loop-rows : goal.invariant-loop-rows
invariant-loop-rows l = l.values.items ++ values_of (joined_vecs l.rows-iterator.rest.items) ≡ values_of (joined_vecs l.fn.parts.items)
