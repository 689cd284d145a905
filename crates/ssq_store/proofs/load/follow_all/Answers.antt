use Rattle.std.proofs.Common.{◌≡◌, None, arith, subst, sym}
use Rattle.std.proofs.lemmas.Result.{err_from_is_err_and}
use Rattle.ssq_outside.specs.History.{History, files_now}
use Rattle.ssq_outside.specs.declared.name.Name.TheVariants as name
use Rattle.ssq_store.specs.Loaded.{Makes}
use Rattle.ssq_store.proofs.Making.{refuses_later}
use Rattle.ssq_store.proofs.load.follow_all.Goals as goal

pub returns-in_err-follow-clause-damaged : goal.returns-in_err-follow-clause-damaged
returns-in_err-follow-clause-damaged g c tells none makes =
    let p = err_from_is_err_and c.from_residual.result c.from_residual.ensures.1 in
    let same = c.loop-version.invariant.same tells in
    let absent : files_now (g.D.Disk.history c.args.disk.now) (name.Snapshot c.args.partition c.loop-version.version) ≡ None = none c.loop-version.version (omega arith) (omega (arith, c.loop-version-test.true)) in
    let absent_now = subst (λ (h : History). files_now h (name.Snapshot c.args.partition c.loop-version.version) ≡ None) (sym same) absent in
    let makes_now = subst (λ (h : History). Makes (files_now h) c.args.partition c.loop-version.version c.loop-version.state) (sym same) (c.loop-version.invariant.made tells makes none) in
    rw (p.1, p.2)
    (refuses_later (g.D.Disk.history c.args.disk.now) (g.D.Disk.history c.loop-version.disk) c.args.partition c.loop-version.version c.args.versions c.in_err-follow.field-0.0 same (omega (arith, c.loop-version-test.true))
    (λ v low high. none v (omega (arith, low)) high) (c.in_err-follow.ensures.damaged tells absent_now makes_now))
