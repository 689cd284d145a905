use Rattle.std.proofs.Common.{◌≡◌, suc, ◌-◌, arith}
use Rattle.std.proofs.lemmas.Result.{err_from_is_err_and}
use Rattle.ssq_outside.specs.History.{files_now}
use Rattle.ssq_outside.specs.declared.name.Name.TheVariants as name
use Rattle.ssq_store.specs.Loaded.{IsSnapshot}
use Rattle.ssq_store.proofs.Making.{refuses_at, makes_at, makes_nothing, if_some}
use Rattle.ssq_store.proofs.load.newest_snapshot.Goals as goal

pub returns-in_err-state-clause-damaged : goal.returns-in_err-state-clause-damaged
returns-in_err-state-clause-damaged g c tells =
    let next : c.loop-left.left ≡ suc (c.loop-left.left - 1) = omega (arith, c.loop-left-test.true) in
    let p = err_from_is_err_and c.from_residual.result c.from_residual.ensures.1 in
    rw (p.1, p.2)
    (refuses_at (g.D.Disk.history c.args.disk.now) (g.D.Disk.history c.loop-left.disk) c.args.partition c.loop-left.left (c.loop-left.left - 1) c.args.versions c.in_err-state.field-0.0
    (c.loop-left.invariant.same tells) next c.loop-left.invariant.below (c.loop-left.invariant.none tells) (c.in_err-state.ensures.damaged tells))

pub returns-in-Some-clause-made : goal.returns-in-Some-clause-made
returns-in-Some-clause-made g c tells =
    let next : c.loop-left.left ≡ suc (c.loop-left.left - 1) = omega (arith, c.loop-left-test.true) in
    makes_at (g.D.Disk.history c.args.disk.now) (g.D.Disk.history c.loop-left.disk) c.args.partition c.loop-left.left (c.loop-left.left - 1) c.in-Some.state (c.loop-left.invariant.same tells) next
    (if_some (IsSnapshot (files_now (g.D.Disk.history c.loop-left.disk) (name.Snapshot c.args.partition (c.loop-left.left - 1))) c.args.partition (c.loop-left.left - 1)) c.in_ok-state.field-0 c.in-Some.state c.in-Some.is (c.in_ok-state.ensures.found tells))

pub returns-clause-made : goal.returns-clause-made
returns-clause-made g c tells = makes_nothing (files_now (g.D.Disk.history c.args.disk.now)) c.args.partition c.new.result c.new.ensures
