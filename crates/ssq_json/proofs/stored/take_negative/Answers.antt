-- The number is one less than the digits say, counted down from -1.
use Rattle.std.proofs.Common.{suc, ◌-◌, arith}
use Rattle.ssq_json.proofs.Restoring.{below_each, below_found, down_fits, none_is_not, not_below, tail_is}
use Rattle.ssq_json.proofs.stored.take_negative.Goals.{else-size-ge1-via-then-size-ge1+else-size, else-size-ge1-via-else-size-ge1}
use Rattle.ssq_json.proofs.stored.take_negative.Goals as goal

pub overflow_cast-result : goal.overflow_cast-result
overflow_cast-result c = record { sfits = omega (arith, c.if-size.true) }

pub overflow_sub-result-then-size : goal.overflow_sub-result-then-size
overflow_sub-result-then-size c = down_fits (c.in_ok-size.size - 1) (omega (arith, c.if-size.true))

pub returns-in_err-size-clause-each : goal.returns-in_err-size-clause-each
returns-in_err-size-clause-each c number rest fits quiet is = none_is_not (c.in_err-size.ensures.each (suc number) rest (omega (arith, fits)) quiet (tail_is is))

pub returns-then-size-clause-found : goal.returns-then-size-clause-found
returns-then-size-clause-found c = below_found c.args.text.now c.in_ok-size.size c.in_ok-size.len c.if-size-ge1.true c.if-size.true c.in_ok-size.ensures.found.parts

pub returns-then-size-clause-each : goal.returns-then-size-clause-each
returns-then-size-clause-each c number rest fits quiet is =
    below_each c.args.text.now rest c.in_ok-size.size c.in_ok-size.len number (c.in_ok-size.ensures.each (suc number) rest (omega (arith, fits)) quiet (tail_is is)) fits (tail_is is)

pub returns-else-size-ge1-clause-each : goal.returns-else-size-ge1-clause-each
returns-else-size-ge1-clause-each c number rest fits quiet is =
    let both = not_below c.in_ok-size.size c.in_ok-size.len number _ (c.in_ok-size.ensures.each (suc number) rest (omega (arith, fits)) quiet (tail_is is)) fits in
    elim c.else-size-ge1.branch [ else-size-ge1-via-then-size-ge1+else-size w ↦ omega (arith, w.if-size.false, both.1) | else-size-ge1-via-else-size-ge1 w ↦ omega (arith, w.if-size-ge1.false, both.0) ]
