-- What partitions keep so far, and the stores and indexes that are left.
use Rattle.std.proofs.Common.{◌≡◌, ◌≤◌, ◌+◌, ◌++◌, length}
use Rattle.std.specs.Prelude.{vec_capacity}
use Rattle.ssq_desk.specs.First.{held_of}
use Rattle.ssq_desk.proofs.first.with_closings.Given as goal

abbrev pub invariant-loop-store : goal.invariant-loop-store
invariant-loop-store l = record {
  so_far : l.held.items ++ held_of l.store-iterator.rest.items l.closings.rest.items ≡ held_of l.fn.stores.items l.fn.closings.items;
  each : length l.closings.rest.items ≡ length l.store-iterator.rest.items;
  room : length l.held.items + length l.store-iterator.rest.items ≤ vec_capacity l.held;
}
