use Rattle.std.proofs.Common.{◌≡◌, ◌∙◌, ℕ, List, subst, sym}
use Rattle.std.proofs.lemmas.Result.{err_from_is_err_and}
use Rattle.ssq_outside.specs.Files.{AreNames}
use Rattle.ssq_outside.specs.History.{History, files_now}
use Rattle.ssq_plans.specs.declared.part.PartEnd.{PartEnd}
use Rattle.ssq_open.specs.Sought.{Sought, sought}
use Rattle.ssq_open.specs.Epochs.{AreEpochs, starts}
use Rattle.ssq_open.specs.Stateful.{keeping_in}
use Rattle.ssq_open.specs.Numbers.{AreEpochsInOrder}
use Rattle.ssq_open.specs.Refused.{EpochsRefuse}
use Rattle.ssq_open.proofs.InOrder.{checked_in_order}
use Rattle.ssq_open.proofs.Opens.{epochs_refused, job_denied, short_refused}
use Rattle.ssq_open.proofs.opening.check.Given.{Over}
use Rattle.ssq_open.proofs.opening.check.Goals as goal
use Rattle.ssq_open.proofs.opening.check.Goals.{After-check_ends}

-- the epochs, as they are found
epochs : (g : Over) → (c : After-check_ends g) → g.D.Disk.tells → AreNames (files_now (g.D.Disk.history c.args.disk.now)) c.args.names.now
    → AreEpochs (keeping_in c.args.wanted.now.keeps c.in_ok-meta.meta.partitions) c.args.wanted.now.streams.now (files_now (g.D.Disk.history c.args.disk.now)) (starts c.args.wanted.now.found.now) c.in_ok-epochs.epochs.plans c.in_ok-epochs.epochs.committed c.in_ok-epochs.epochs.seen
epochs g c tells are =
    let s : Sought = sought c.args.wanted.now in
    let found = c.in_ok-epochs.epochs in
    let A : History → Type 0 = λ h. AreNames (files_now h) c.args.names.now in
    let R : History → Type 0 = λ h. AreEpochs c.keeping_in.result s.streams (files_now h) c.as_slice.result.now found.plans found.committed found.seen in
    let F : List PartEnd → Type 0 = λ first. AreEpochs c.keeping_in.result s.streams (files_now (g.D.Disk.history c.args.disk.now)) first found.plans found.committed found.seen in
    let K : ℕ → Type 0 = λ keeping. AreEpochs keeping s.streams (files_now (g.D.Disk.history c.args.disk.now)) (starts s.found) found.plans found.committed found.seen in
    let same = c.kept_job.ensures.same tells in
    subst K c.keeping_in.ensures (subst F (c.as_slice.ensures ∙ c.in_ok-first.ensures) (subst R same (c.in_ok-epochs.ensures.kept tells (subst A (sym same) are))))

pub returns-in_err-meta-clause-refused : goal.returns-in_err-meta-clause-refused
returns-in_err-meta-clause-refused g c = λ tells are.
    let p = err_from_is_err_and c.from_residual.result c.from_residual.ensures.1 in
    rw (p.1, p.2) (job_denied (sought c.args.wanted.now) (files_now (g.D.Disk.history c.args.disk.now)) c.in_err-meta.field-0.0 (c.in_err-meta.ensures.refused tells))

pub returns-in_err-epochs-clause-refused : goal.returns-in_err-epochs-clause-refused
returns-in_err-epochs-clause-refused g c = λ tells are.
    let p = err_from_is_err_and c.from_residual-in_err-epochs.result c.from_residual-in_err-epochs.ensures.1 in
    let s : Sought = sought c.args.wanted.now in
    let A : History → Type 0 = λ h. AreNames (files_now h) c.args.names.now in
    let R : History → Type 0 = λ h. EpochsRefuse c.keeping_in.result s.streams (files_now h) c.as_slice.result.now c.in_err-epochs.field-0.0 in
    let F : List PartEnd → Type 0 = λ first. EpochsRefuse c.keeping_in.result s.streams (files_now (g.D.Disk.history c.args.disk.now)) first c.in_err-epochs.field-0.0 in
    let K : ℕ → Type 0 = λ keeping. EpochsRefuse keeping s.streams (files_now (g.D.Disk.history c.args.disk.now)) (starts s.found) c.in_err-epochs.field-0.0 in
    let same = c.kept_job.ensures.same tells in
    let here = subst A (sym same) are in
    let begin : c.as_slice.result.now ≡ starts s.found = c.as_slice.ensures ∙ c.in_ok-first.ensures in
    rw (p.1, p.2) (epochs_refused s _ c.in_ok-meta.meta c.in_err-epochs.field-0.0 (c.in_ok-meta.ensures.kept tells) c.in_ok-meta.ensures.job
    (subst K c.keeping_in.ensures (subst F begin (subst R same (c.in_err-epochs.ensures.refused tells here)))))

pub returns-clause-in_order : goal.returns-clause-in_order
returns-clause-in_order g c =
    let s : Sought = sought c.args.wanted.now in
    let E : List PartEnd → Type 0 = λ first. AreEpochsInOrder s.streams first c.in_ok-epochs.epochs in
    let begin : c.as_slice.result.now ≡ starts s.found = c.as_slice.ensures ∙ c.in_ok-first.ensures in
    checked_in_order s c.in_ok-meta.meta c.in_ok-epochs.epochs c.in_ok-meta.ensures.in_range c.in_ok-meta.ensures.job (subst E begin c.in_ok-epochs.ensures.in_order)
    (rw (c.last_ends.ensures, c.as_slice-2.ensures, c.in_ok-first.ensures, c.as_slice-3.ensures) at c.in_ok-check_ends.ensures.ok)

pub returns-in_err-check_ends-clause-refused : goal.returns-in_err-check_ends-clause-refused
returns-in_err-check_ends-clause-refused g c = λ tells are.
    let p = err_from_is_err_and c.from_residual-in_err-check_ends.result c.from_residual-in_err-check_ends.ensures.1 in
    let at = goal.at.returns-in_err-check_ends-clause-refused g c in
    let found = c.in_ok-epochs.epochs in
    rw (p.1, p.2) (short_refused (sought c.args.wanted.now) _ c.in_ok-meta.meta found.plans found.committed found.seen c.in_err-check_ends.field-0.0 (c.in_ok-meta.ensures.kept tells) c.in_ok-meta.ensures.job (epochs g at.After-check_ends tells are)
    (rw (c.last_ends.ensures, c.as_slice-2.ensures, c.in_ok-first.ensures, c.as_slice-3.ensures) at c.in_err-check_ends.ensures.err))

pub returns-clause-finds : goal.returns-clause-finds
returns-clause-finds g c = λ tells are.
    let at = goal.at.returns-clause-finds g c in
    record {
      record_is = c.in_ok-meta.ensures.kept tells;
      job = c.in_ok-meta.ensures.job;
      epochs = epochs g at.After-check_ends tells are;
      long = rw (c.last_ends.ensures, c.as_slice-2.ensures, c.in_ok-first.ensures, c.as_slice-3.ensures) at c.in_ok-check_ends.ensures.ok;
    }
