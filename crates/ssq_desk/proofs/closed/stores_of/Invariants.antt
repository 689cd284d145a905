-- The stores and indexes so far, and what is left.
use Rattle.std.specs.Prelude.{vec_capacity}
use Rattle.ssq_desk.proofs.Leaving.{IsParting}
use Rattle.ssq_desk.proofs.closed.stores_of.Given as goal

abbrev pub invariant-loop-own : goal.invariant-loop-own
invariant-loop-own l =
    goal.iterator-loop-own.can_next l.own-iterator ×
    goal.iterator-loop-own.is_finite l.own-iterator ×
    IsParting l.fn.held.items l.own-iterator.rest.items l.stores.items l.closings.items (vec_capacity l.stores) (vec_capacity l.closings)
