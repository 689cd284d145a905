use Rattle.std.proofs.Common.{◌≡◌, ◌≤◌, drop}
use Rattle.ssq_time.specs.Time.{at_most_longest, digits_after}
use Rattle.ssq_time.proofs.span.number_from.Given as goal

abbrev pub invariant-loop-byte : goal.invariant-loop-byte
invariant-loop-byte l =
    (at_most_longest (digits_after l.value (drop l.byte-index l.digits)) ≡ at_most_longest (digits_after 0 l.digits)) × (l.value ≤ 31622400)
