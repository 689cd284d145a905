use Rattle.std.proofs.Common.{rules}
use Rattle.ssq_bind.specs.Joins.{time_bound}
use Rattle.ssq_check.proofs.Opened.{between_opened}
use Rattle.ssq_bind.proofs.join.time_bound.Goals as goal

pub returns-in-Between : goal.returns-in-Between
unfolding time_bound
returns-in-Between c =
    rw (between_opened c.args.value.now c.in-Between.operand c.get.result.now c.in-Between.at c.in-Between.low c.get-in-Between.result.now c.in-Between.high c.get-in-Between-2.result.now c.in-Between.is c.get.ensures c.get-in-Between.ensures c.get-in-Between-2.ensures)
    (search rules)
