use Rattle.std.proofs.Common.{refl, sym, subst}
use Rattle.std.proofs.lemmas.Result.{err_from_is_err_and}
use Rattle.ssq_open.specs.declared.wanted.Lens.{Lens}
use Rattle.ssq_open.specs.Lens.{asked}
use Rattle.ssq_core.specs.Standing.{Stands}
use Rattle.ssq_core.specs.Sound.{StandsOrEmpty}
use Rattle.ssq_runner.specs.Running.{IsOpenedOn, LeavesStanding, denied}
use Rattle.ssq_runner.proofs.Owning.{leaves_still, opening_keeps}
use Rattle.ssq_runner.proofs.run.open_found.Goals as goal

pub returns-in_err-opened-clause-unopened : goal.returns-in_err-opened-clause-unopened
returns-in_err-opened-clause-unopened g c =
    let p = err_from_is_err_and c.from_residual-in_err-opened.result c.from_residual-in_err-opened.ensures.1 in
    rw (p.1, p.2, sym c.in_ok-lens.ensures) (denied _ refl (λ t. c.in_err-opened.ensures.refused t) (λ t. c.in_err-opened.ensures.unfinished t) (λ t job states w are ours. c.in_err-opened.ensures.outside t job states w are ours) c.in_err-opened.ensures.cause)

pub returns-clause-opened : goal.returns-clause-opened
returns-clause-opened g c =
    let e = c.in_ok-opened.ensures in
    subst (λ (l : Lens). IsOpenedOn g.D.Disk.tells g.D.Disk.history c.args.bound.now c.args.partitions l c.args.disk.now c.open.new.disk c.in_ok-opened.opened) c.in_ok-lens.ensures (record {
      numbers = e.numbers;
      parts = e.job.0;
      some_partitions = e.job.2;
      few_partitions = e.job.3;
      as_asked = e.job.4;
      long = e.long;
      stores = e.stores;
      is_open = e.opened;
      synced = e.synced;
      desk = λ t job w first stands. e.desk t job w first stands;
      states = λ t job states w are stands. e.states t job states w are stands;
    })

pub returns-clause-images : goal.returns-clause-images
returns-clause-images g c =
    subst (λ (l : Lens). LeavesStanding g.D.Disk.tells g.D.Disk.history c.args.bound.now c.args.partitions l c.args.disk.now c.open.new.disk) c.in_ok-lens.ensures (λ t job w first each. c.open.ensures.images t job w first each)

pub returns-in_err-opened-clause-images : goal.returns-in_err-opened-clause-images
returns-in_err-opened-clause-images g c =
    subst (λ (l : Lens). LeavesStanding g.D.Disk.tells g.D.Disk.history c.args.bound.now c.args.partitions l c.args.disk.now c.open.new.disk) c.in_ok-lens.ensures (λ t job w first each. c.open.ensures.images t job w first each)

pub returns-in_err-lens-clause-images : goal.returns-in_err-lens-clause-images
returns-in_err-lens-clause-images g c = λ t job w first each. leaves_still (StandsOrEmpty job) (g.D.Disk.history c.args.disk.now) each

pub returns-clause-stay : goal.returns-clause-stay
returns-clause-stay g c = λ t job each.
    opening_keeps job (asked c.args.bound.now c.args.partitions c.in_ok-lens.lens) (g.D.Disk.history c.args.disk.now) (g.D.Disk.history c.open.new.disk) each (c.open.ensures.any_moment t)

pub returns-in_err-opened-clause-stay : goal.returns-in_err-opened-clause-stay
returns-in_err-opened-clause-stay g c = λ t job each.
    opening_keeps job (asked c.args.bound.now c.args.partitions c.in_ok-lens.lens) (g.D.Disk.history c.args.disk.now) (g.D.Disk.history c.open.new.disk) each (c.open.ensures.any_moment t)

pub returns-in_err-lens-clause-stay : goal.returns-in_err-lens-clause-stay
returns-in_err-lens-clause-stay g c = λ t job each. leaves_still (Stands job) (g.D.Disk.history c.args.disk.now) each
