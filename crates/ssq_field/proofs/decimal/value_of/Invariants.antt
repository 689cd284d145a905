-- the digits so far and those to come make the whole number
use Rattle.std.proofs.Common.{◌≡◌, ◌^◌, ◌<◌, drop}
use Rattle.ssq_field.specs.Decimal.{number_after}
use Rattle.ssq_field.proofs.decimal.value_of.Given as goal

abbrev pub invariant-loop-digit : goal.invariant-loop-digit
invariant-loop-digit l = (l.number < 2 ^ 64) × (number_after l.number (drop l.digit-index l.digits) ≡ number_after 0 l.digits)
