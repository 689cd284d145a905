use Rattle.std.proofs.Common.{sym}
use Rattle.ssq_value.specs.Key.{keys_of}
use Rattle.ssq_step.proofs.RowTimes.{parts_as}
use Rattle.ssq_step.proofs.rows.read_row.Goals as goal

pub returns-in_default-clause-each : goal.returns-in_default-clause-each
returns-in_default-clause-each c left values met is =
    c.in_default.ensures.each left (keys_of values) met
    (parts_as c.as_slice.result.now c.as_slice-2.result.now c.args.key.now c.args.value.now left (keys_of values) met (sym c.as_slice.ensures) (sym c.as_slice-2.ensures) is.bytes)
