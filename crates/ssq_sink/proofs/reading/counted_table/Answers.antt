use Rattle.std.proofs.lemmas.Result.{err_from_is_err_and}
use Rattle.ssq_sink.proofs.Passes.{risen, table_bad, table_read}
use Rattle.ssq_sink.proofs.reading.counted_table.Goals as goal

pub returns-clause-read : goal.returns-clause-read
returns-clause-read g c = λ tells.
    table_read c.args.bound.now (g.D.Disk.history c.args.disk.now) (g.D.Disk.history c.sinks.new.disk) c.in_ok-sinks.sinks c.in_ok-table.table (c.sinks.ensures.same tells) (c.in_ok-sinks.ensures.found tells) (c.in_ok-table.ensures.read tells)

pub returns-in_err-table-clause-bad : goal.returns-in_err-table-clause-bad
returns-in_err-table-clause-bad g c = λ tells.
    let p = err_from_is_err_and c.from_residual-in_err-table.result c.from_residual-in_err-table.ensures.1 in
    rw (p.1, p.2)
    (table_bad c.args.bound.now (g.D.Disk.history c.args.disk.now) (g.D.Disk.history c.sinks.new.disk) c.in_ok-sinks.sinks c.in_err-table.field-0.0 (c.sinks.ensures.same tells) (c.in_ok-sinks.ensures.found tells) (c.in_err-table.ensures.bad tells))

pub returns-in_err-table-clause-cause : goal.returns-in_err-table-clause-cause
returns-in_err-table-clause-cause g c =
    let p = err_from_is_err_and c.from_residual-in_err-table.result c.from_residual-in_err-table.ensures.1 in
    rw (p.1, p.2) (risen _ _ _ _ c.sinks.ensures.counted c.in_err-table.ensures.cause)
