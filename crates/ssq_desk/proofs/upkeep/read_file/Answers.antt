use Rattle.std.proofs.Common.{◌≡◌, Err, None, ap}
use Rattle.std.proofs.lemmas.Result.{err_from_is_err_and}
use Rattle.ssq_outside.specs.History.{files_now}
use Rattle.ssq_desk.proofs.Upkeeps.{disk_fails}
use Rattle.ssq_desk.proofs.upkeep.read_file.Goals as goal

pub returns-in_err-bytes-clause-cause : goal.returns-in_err-bytes-clause-cause
returns-in_err-bytes-clause-cause g c =
    let p = err_from_is_err_and c.from_residual.result c.from_residual.ensures.1 in
    rw (p.1, p.2) (disk_fails (λ q. (q ≡ c.args.name) × (g.D.Disk.tells → files_now (g.D.Disk.history c.args.ledger.now.disk) q ≡ None)) (g.D.Disk.faults c.args.ledger.now.disk) (g.D.Disk.faults c.read.new.self.disk) c.in_err-bytes.field-0.0 (λ e. c.in_err-bytes.ensures.cause (ap Err e)))
