-- A number is all that follows exactly where nothing follows its digits.
use Rattle.std.proofs.Common.{[], Some, length, ap, arith}
use Rattle.ssq_plans.proofs.Texts.{nothing_behind}
use Rattle.ssq_plans.proofs.names.number_after.Goals as goal

pub returns-in_err-number-clause-each : goal.returns-in_err-number-clause-each
returns-in_err-number-clause-each c n small is =
    absurd (c.in_err-number.ensures.each n [] small tt (nothing_behind c.args.front.now c.args.text.now n is))

pub returns-in_default-empty-clause-each : goal.returns-in_default-empty-clause-each
returns-in_default-empty-clause-each c n small is =
    let found = c.in_ok-number.ensures.each n [] small tt (nothing_behind c.args.front.now c.args.text.now n is) in
    ap Some found.0

pub returns-in_default-clause-each : goal.returns-in_default-clause-each
returns-in_default-clause-each c n small is =
    let found = c.in_ok-number.ensures.each n [] small tt (nothing_behind c.args.front.now c.args.text.now n is) in
    absurd (omega (arith, ap length found.1))
