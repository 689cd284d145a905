use Rattle.std.proofs.Common.{◌≡◌}
use Rattle.std.specs.Prelude.{None, replicate}
use Rattle.ssq_water.proofs.seen.Seen.new.Given as goal

abbrev pub invariant-loop : goal.invariant-loop
invariant-loop l = l.times.items ≡ replicate l.counter None
