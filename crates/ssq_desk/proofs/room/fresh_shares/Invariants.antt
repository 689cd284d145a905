use Rattle.std.proofs.Common.{◌≡◌, length}
use Rattle.std.specs.Prelude.{All}
use Rattle.ssq_desk.specs.Room.{IsFresh}
use Rattle.ssq_desk.proofs.room.fresh_shares.Given as goal

abbrev pub invariant-loop : goal.invariant-loop
invariant-loop g l = record {
  count : length l.shares.items ≡ l.counter;
  fresh : All (IsFresh l.parts) l.shares.items;
}
