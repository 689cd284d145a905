-- The values so far and those of the rows that are left are those of all.
use Rattle.std.proofs.Common.{◌≡◌, ◌++◌}
use Rattle.ssq_task.specs.Reducing.{values_of}
use Rattle.ssq_task.proofs.partition.push_values.Given as goal

abbrev pub invariant-loop-row : goal.invariant-loop-row
invariant-loop-row l = l.values.items ++ values_of l.row-iterator.rest.items ≡ l.fn.values.items ++ values_of l.fn.rows.items
