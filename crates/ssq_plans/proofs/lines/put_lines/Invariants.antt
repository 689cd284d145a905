use Rattle.std.proofs.Common.{List, ℕ, ◌++◌}
use Rattle.ssq_plans.specs.Records.{lines}
use Rattle.ssq_plans.specs.Written.{Holds}
use Rattle.ssq_plans.proofs.Listing.{AreLeft}
use Rattle.ssq_plans.proofs.lines.put_lines.Given as goal

abbrev pub invariant-loop-at : goal.invariant-loop-at
invariant-loop-at g l = (held : List ℕ) → Holds l.initial.out held → AreLeft g.L.Line.spelled l.at l.items (held ++ lines g.L.Line.spelled 0 l.items) l.out
