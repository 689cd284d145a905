use Rattle.std.proofs.Common.{◌∙◌, ◌++◌, None, Some, Err, ap, refl, take}
use Rattle.std.proofs.lemmas.Result.{err_from_is_err_and}
use Rattle.ssq_outside.specs.History.{files_now}
use Rattle.ssq_run.specs.Shown.{nothing_there}
use Rattle.ssq_run.specs.Stopping.{stop_of_sink}
use Rattle.ssq_run.proofs.Showing.{put_end, record_end, sink_end, untold, unput_end}
use Rattle.ssq_run.proofs.show.show.Goals as goal
use Rattle.ssq_run.proofs.show.show.Goals.{then-branch+in_ok-table+in_ok-put, else-branch}

pub returns-in_err-is_there-clause-ended : goal.returns-in_err-is_there-clause-ended
returns-in_err-is_there-clause-ended g c = λ tells.
    let p = err_from_is_err_and c.from_residual.result c.from_residual.ensures.1 in
    let files = files_now (g.D.Disk.history c.args.disk.now) in
    rw (p.1, p.2) (untold g.O.Output.tells c.args.bound.now files (g.O.Output.content c.args.out.now) (Some c.in_err-is_there.field-0.0) (record_end c.args.bound.now files c.in_err-is_there.field-0.0 (c.in_err-is_there.ensures.fault tells)))

pub returns-in_err-table-clause-ended : goal.returns-in_err-table-clause-ended
returns-in_err-table-clause-ended g c = λ tells.
    let p = err_from_is_err_and c.from_residual-in_err-table.result c.from_residual-in_err-table.ensures.1 in
    rw (p.1, p.2) (untold g.O.Output.tells c.args.bound.now (files_now (g.D.Disk.history c.args.disk.now)) (g.O.Output.content c.args.out.now) (Some (stop_of_sink c.in_err-table.field-0.0))
    (sink_end c.args.bound.now (g.D.Disk.history c.args.disk.now) (g.D.Disk.history c.is_there.new.disk) c.in_err-table.field-0.0 (c.is_there.ensures.same tells) (c.in_ok-is_there.ensures.found tells c.if-branch.true) (c.in_err-table.ensures.bad tells)))

pub returns-in_err-put-clause-ended : goal.returns-in_err-put-clause-ended
returns-in_err-put-clause-ended g c = λ tells.
    let p = err_from_is_err_and c.from_residual-in_err-put.result c.from_residual-in_err-put.ensures.1 in
    let before = g.O.Output.content c.args.out.now in
    rw (p.1, p.2) (unput_end g.O.Output.tells c.args.bound.now (g.D.Disk.history c.args.disk.now) (g.D.Disk.history c.is_there.new.disk) c.in_ok-table.table before (g.O.Output.content c.put.new.self) c.in_err-put.field-0.0
    (c.is_there.ensures.same tells) (c.in_ok-is_there.ensures.found tells c.if-branch.true) (c.in_ok-table.ensures.read tells)
    (λ told. let front = c.in_err-put.ensures.fault told in (front.0, front.1 ∙ ap (λ t. before ++ take front.0 t) c.as_bytes.ensures.bytes)) (λ told is. c.in_err-put.ensures.no_memory told (ap (λ e. Err e) is)))

pub returns-clause-ended : goal.returns-clause-ended
returns-clause-ended g c = λ tells. elim c.if-branch.branch [
  | then-branch+in_ok-table+in_ok-put w ↦
      let before = g.O.Output.content c.args.out.now in
      rw (w.out-is) (put_end g.O.Output.tells c.args.bound.now (g.D.Disk.history c.args.disk.now) (g.D.Disk.history c.is_there.new.disk) w.in_ok-table.table before (g.O.Output.content w.put.new.self)
      (c.is_there.ensures.same tells) (c.in_ok-is_there.ensures.found tells w.if-branch.true) (w.in_ok-table.ensures.read tells)
      (λ told. w.in_ok-put.ensures.ok told ∙ ap (λ t. before ++ t) w.as_bytes.ensures.bytes))
  | else-branch w ↦
      rw (w.out-is) (untold g.O.Output.tells c.args.bound.now (files_now (g.D.Disk.history c.args.disk.now)) (g.O.Output.content c.args.out.now) None (nothing_there (c.in_ok-is_there.ensures.none tells w.if-branch.false) refl refl))
]
