use Rattle.std.proofs.Common.{take}
use Rattle.ssq_check.proofs.Lists.{AreNoted}
use Rattle.ssq_check.proofs.list.Names.take_all.Given as goal

abbrev pub invariant-loop-item : goal.invariant-loop-item
invariant-loop-item g l = AreNoted g.N.Named.name g.N.Named.named_at (take l.item-index l.items) l.self.double l.self.seen.keys
