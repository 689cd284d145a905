use Rattle.std.proofs.Common.{◌+◌, ◌*◌, ◌-◌, ◌^◌, ◌≤◌, get_or, arith}
use Rattle.ssq_field.specs.Decimal.{number_after}
use Rattle.ssq_field.proofs.Digits.{too_great}
use Rattle.ssq_field.proofs.decimal.value_of.Goals as goal

pub returns-in_err-checked_mul : goal.returns-in_err-checked_mul
returns-in_err-checked_mul c =
    let great : 2 ^ 64 ≤ 10 * c.loop-digit.number + (get_or c.args.digits.now c.loop-digit.digit-index 0 - 48) = omega (arith, c.in_err-checked_mul.ensures) in
    rw c.from_residual.ensures (too_great c.loop-digit.number c.loop-digit.digit-index c.args.digits.now (number_after 0 c.args.digits.now) (omega arith) c.loop-digit.invariant.1 great)

pub returns-in_err-number : goal.returns-in_err-number
returns-in_err-number c =
    let great : 2 ^ 64 ≤ 10 * c.loop-digit.number + (get_or c.args.digits.now c.loop-digit.digit-index 0 - 48) = omega (arith, c.in_err-number.ensures, c.in_ok-checked_mul.ensures, c.from.ensures) in
    rw c.from_residual-in_err-number.ensures (too_great c.loop-digit.number c.loop-digit.digit-index c.args.digits.now (number_after 0 c.args.digits.now) (omega arith) c.loop-digit.invariant.1 great)
