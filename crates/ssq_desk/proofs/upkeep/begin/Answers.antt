use Rattle.std.proofs.Common.{Err, ap, ◌∙◌, arith}
use Rattle.std.proofs.lemmas.Result.{err_from_is_err_and}
use Rattle.ssq_outside.specs.History.{files_now}
use Rattle.ssq_board.specs.Causes.{cause_of_disk}
use Rattle.ssq_board.specs.Shelf.{there_in}
use Rattle.ssq_ledger.specs.Shown.{shelf_of}
use Rattle.ssq_desk.specs.Upkeep.{IsUnread}
use Rattle.ssq_desk.proofs.Upkeeps.{did_still, disk_fails, fails_later}
use Rattle.ssq_desk.proofs.upkeep.begin.Goals as goal

pub returns-clause-did : goal.returns-clause-did
returns-clause-did g c = did_still c.args.ledger.now c.read_files.new.ledger c.stage.new.self c.read_files.ensures.did c.in_ok-stage.ensures.did

pub returns-clause-same : goal.returns-clause-same
returns-clause-same g c = λ t. c.in_ok-stage.ensures.same t ∙ c.read_files.ensures.same t

pub returns-clause-counted : goal.returns-clause-counted
returns-clause-counted g c = (let first = c.read_files.ensures.counted in let later = c.in_ok-stage.ensures.counted in omega (arith, first, later))

pub returns-in_err-stage-clause-did : goal.returns-in_err-stage-clause-did
returns-in_err-stage-clause-did g c = did_still c.args.ledger.now c.read_files.new.ledger c.stage.new.self c.read_files.ensures.did c.in_err-stage.ensures.did

pub returns-in_err-stage-clause-same : goal.returns-in_err-stage-clause-same
returns-in_err-stage-clause-same g c = λ t. c.in_err-stage.ensures.same t ∙ c.read_files.ensures.same t

pub returns-in_err-stage-clause-counted : goal.returns-in_err-stage-clause-counted
returns-in_err-stage-clause-counted g c = (let first = c.read_files.ensures.counted in let later = c.in_err-stage.ensures.counted in omega (arith, first, later))

pub returns-in_err-stage-clause-cause : goal.returns-in_err-stage-clause-cause
returns-in_err-stage-clause-cause g c =
    let IsBad = IsUnread g.D.Disk.tells (files_now (g.D.Disk.history c.args.ledger.now.disk)) c.args.partition c.args.version (there_in (shelf_of g.O.Opening.opening c.args.ledger.now)) in
    let mid = g.D.Disk.faults c.read_files.new.ledger.disk in
    let now = g.D.Disk.faults c.stage.new.self.disk in
    let p = err_from_is_err_and c.from_residual-in_err-stage.result c.from_residual-in_err-stage.ensures.1 in
    rw (p.1, p.2) (fails_later IsBad IsBad (g.D.Disk.faults c.args.ledger.now.disk) mid now (cause_of_disk c.in_err-stage.field-0.0) c.read_files.ensures.counted (λ q bad. bad) (disk_fails IsBad mid now c.in_err-stage.field-0.0 (λ e. c.in_err-stage.ensures.cause (ap Err e))))
