use Rattle.ssq_field.proofs.Digits.{digits_pass, front_len, front_digits, begins_decimal, is_none, same_pair}
use Rattle.ssq_field.proofs.decimal.take_decimal.Goals as goal

pub number_of-requires : goal.number_of-requires
number_of-requires c = rw c.digits_in_front-len.ensures (digits_pass c.args.from.now)

pub returns-in_err-number-clause-each : goal.returns-in_err-number-clause-each
returns-in_err-number-clause-each c value rest fits stop is =
    let front = front_digits c.args.from.now rest value c.digits_in_front-len.result c.digits_in_front-len.ensures fits stop is in
    absurd (is_none c.number_of.result value c.in_err-number.was (c.number_of.ensures.each value fits front))

pub returns-clause-found : goal.returns-clause-found
returns-clause-found c = begins_decimal _ _ _ c.digits_in_front-len.ensures c.in_ok-number.ensures.found

pub returns-clause-each : goal.returns-clause-each
returns-clause-each c value rest fits stop is =
    let front = front_digits c.args.from.now rest value c.digits_in_front-len.result c.digits_in_front-len.ensures fits stop is in
    let len = front_len c.args.from.now rest value c.digits_in_front-len.result c.digits_in_front-len.ensures fits stop is in
    same_pair c.number_of.result _ _ _ _ c.in_ok-number.was (c.number_of.ensures.each value fits front) len
