use Rattle.std.proofs.lemmas.Result.{err_from_is_err_and}
use Rattle.ssq_outside.specs.History.{files_now}
use Rattle.ssq_store.proofs.Making.{makes_next, refuses_delta}
use Rattle.ssq_store.proofs.load.follow.Goals as goal

pub returns-in_err-change-clause-damaged : goal.returns-in_err-change-clause-damaged
returns-in_err-change-clause-damaged g c tells none makes =
    let p = err_from_is_err_and c.from_residual.result c.from_residual.ensures.1 in
    rw (p.1, p.2) (refuses_delta (files_now (g.D.Disk.history c.args.disk.now)) c.args.partition c.args.version c.args.state.now c.in_err-change.field-0.0 none makes (c.in_err-change.ensures.damaged tells))

pub returns-clause-made : goal.returns-clause-made
returns-clause-made g c tells none makes =
    makes_next (files_now (g.D.Disk.history c.args.disk.now)) c.args.partition c.args.version c.args.state.now c.apply_owned.new.state c.in_ok-change.change none makes
    (c.in_ok-change.ensures.found tells) c.in_ok-apply_owned.ensures.ok c.states_are_kept.ensures.kept
