-- What is joined so far and what the vectors that are left hold are all.
use Rattle.std.proofs.Common.{◌≡◌, ◌++◌}
use Rattle.ssq_task.specs.Lists.{joined_vecs}
use Rattle.ssq_task.proofs.lists.joined.Given as goal

abbrev pub invariant-loop-vec : goal.invariant-loop-vec
invariant-loop-vec g l = l.all.items ++ joined_vecs l.vec-iterator.rest.items ≡ joined_vecs l.fn.vecs.items
