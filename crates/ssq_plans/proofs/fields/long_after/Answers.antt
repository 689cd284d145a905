-- The number stands after the front exactly where it stands in what follows the front.
use Rattle.std.proofs.Common.{◌++◌, decimal}
use Rattle.ssq_plans.proofs.Texts.{same_rest}
use Rattle.ssq_plans.proofs.fields.long_after.Goals as goal

pub returns-clause-each : goal.returns-clause-each
returns-clause-each c n rest small stop is =
    c.number_and_rest.ensures.each n rest small stop (same_rest c.args.front.now c.args.text.now _ (decimal n ++ rest) c.in_ok-after.ensures is)
