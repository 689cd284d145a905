use Rattle.std.proofs.lemmas.Result.{err_from_is_err_and}
use Rattle.ssq_outside.specs.Files.{Files}
use Rattle.ssq_outside.specs.History.{files_now}
use Rattle.ssq_open.proofs.Keeping.{progress_refused, unread_refused}
use Rattle.ssq_open.proofs.kept.kept_epochs.Goals as goal

pub returns-in_err-epochs-clause-refused : goal.returns-in_err-epochs-clause-refused
returns-in_err-epochs-clause-refused g c = λ tells are.
    let p = err_from_is_err_and c.from_residual.result c.from_residual.ensures.1 in
    rw (p.1, p.2) (progress_refused c.args.keeping c.args.streams.now _ c.args.first.now c.in_err-epochs.field-0.0 (c.in_err-epochs.ensures.refused tells are))

pub returns-in-Some-clause-refused : goal.returns-in-Some-clause-refused
returns-in-Some-clause-refused g c = λ tells are.
    let files : Files = files_now (g.D.Disk.history c.args.disk.now) in
    unread_refused c.args.keeping c.args.streams.now files c.args.first.now c.in_ok-epochs.epochs.plans _ _ c.in-Some.name (c.in_ok-epochs.ensures.progress tells are) (rw c.len-planned.ensures at (c.in-Some.ensures.some files are))

pub returns-in-None-clause-kept : goal.returns-in-None-clause-kept
returns-in-None-clause-kept g c = λ tells are.
    let right = rw c.len-planned.ensures at (c.in-None.ensures.none (files_now (g.D.Disk.history c.args.disk.now)) are) in
    record { progress = c.in_ok-epochs.ensures.progress tells are; sinks = right.0; no_stray = right.1 }
