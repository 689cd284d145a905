use Rattle.std.proofs.Common.{take}
use Rattle.ssq_runner.proofs.Indexing.{AreIndexed}
use Rattle.ssq_runner.proofs.index.closings_of.Given as goal

abbrev pub invariant-loop-store : goal.invariant-loop-store
invariant-loop-store l = AreIndexed l.bound (take l.store-index l.stores) l.closings.items
