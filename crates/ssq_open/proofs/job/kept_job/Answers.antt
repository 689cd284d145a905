use Rattle.std.proofs.lemmas.Result.{err_from_is_err_and}
use Rattle.ssq_outside.specs.History.{files_now}
use Rattle.ssq_open.specs.Sought.{sought}
use Rattle.ssq_open.proofs.Looks.{job_refused, job_refuses}
use Rattle.ssq_open.proofs.job.kept_job.Goals as goal

pub returns-in_err-meta-clause-refused : goal.returns-in_err-meta-clause-refused
returns-in_err-meta-clause-refused g c = λ tells.
    let p = err_from_is_err_and c.from_residual.result c.from_residual.ensures.1 in
    rw (p.1, p.2) (job_refuses (sought c.args.wanted.now) (files_now (g.D.Disk.history c.args.disk.now)) c.in_err-meta.field-0.0 (c.in_err-meta.ensures.refused tells))

pub returns-in_err-check_job-clause-refused : goal.returns-in_err-check_job-clause-refused
returns-in_err-check_job-clause-refused g c = λ tells.
    let p = err_from_is_err_and c.from_residual-in_err-check_job.result c.from_residual-in_err-check_job.ensures.1 in
    rw (p.1, p.2) (job_refused (sought c.args.wanted.now) (files_now (g.D.Disk.history c.args.disk.now)) c.in_ok-meta.meta c.in_err-check_job.field-0.0 (c.in_ok-meta.ensures.kept tells) c.in_err-check_job.ensures.err)
