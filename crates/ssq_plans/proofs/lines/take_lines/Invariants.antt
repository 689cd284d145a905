use Rattle.std.proofs.Common.{◌≡◌, ◌++◌, length}
use Rattle.std.specs.List.{All}
use Rattle.ssq_plans.specs.Records.{lines}
use Rattle.ssq_plans.proofs.Listing.{IsLeft, IsBehind}
use Rattle.ssq_plans.proofs.lines.take_lines.Given as goal

abbrev pub invariant-loop-item : goal.invariant-loop-item
invariant-loop-item g l = record {
  found : l.text ≡ lines g.L.Line.spelled 0 l.items ++ l.rest;
  read : All g.L.Line.is_read l.items;
  each : (items : _) (tail : _) → All g.L.Line.is_read items → IsBehind g.L.Line.spelled tail
      → l.text ≡ lines g.L.Line.spelled 0 items ++ tail → IsLeft g.L.Line.spelled items tail l.items l.rest;
}

abbrev pub decreases-loop-item : goal.decreases-loop-item
decreases-loop-item g l = length l.rest
