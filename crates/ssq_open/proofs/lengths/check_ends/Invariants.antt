use Rattle.std.proofs.Common.{◌≡◌, drop}
use Rattle.ssq_open.specs.Opening.{first_short}
use Rattle.ssq_open.proofs.lengths.check_ends.Given as goal

abbrev pub invariant-loop-at : goal.invariant-loop-at
invariant-loop-at l = first_short l.ends l.found ≡ first_short (drop l.at l.ends) (drop l.at l.found)
