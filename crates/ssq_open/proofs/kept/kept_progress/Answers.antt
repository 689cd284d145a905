use Rattle.std.proofs.Common.{◌<◌, ◌⊎◌, ℕ, refl, subst}
use Rattle.std.proofs.lemmas.Result.{err_from_is_err_and}
use Rattle.ssq_outside.specs.History.{History, files_now}
use Rattle.ssq_outside.specs.Files.{AreNames, Files}
use Rattle.ssq_open.specs.Epochs.{AreCommitted, ArePlans, HasNoCommitFrom, IsGoodPlan}
use Rattle.ssq_open.specs.Refused.{CommitsPassed, CommitsRefuse, MarkRefuses}
use Rattle.ssq_open.specs.declared.fault.OpenFault.TheVariants.{Damaged}
use Rattle.ssq_open.proofs.Keeping.{AreCounted, counted_as, plans_all, plans_refused, commits_refused, commits_all, read_refused, progress_found}
use Rattle.ssq_open.proofs.kept.kept_progress.Given.{Over}
use Rattle.ssq_open.proofs.kept.kept_progress.Goals as goal
use Rattle.ssq_open.proofs.kept.kept_progress.Goals.{After-committed-committed, After-commits_to, After-first_damaged}

-- the counts are those of the names
counted : (g : Over) → (c : After-committed-committed g) → AreCounted c.args.names.now c.planned-planned.result c.committed-committed.result
counted g c =
    let by = c.committed-committed.ensures in
    counted_as _ _ _ _ c.planned-planned.ensures.below c.planned-planned.ensures.greatest by.below by.ahead by.last by.pending refl

-- each plan is good
plans : (g : Over) → (c : After-commits_to g) → g.D.Disk.tells → AreNames (files_now (g.D.Disk.history c.args.disk.now)) c.args.names.now → AreCounted c.args.names.now c.planned-planned.result c.committed-committed.result
    → ArePlans (files_now (g.D.Disk.history c.args.disk.now)) c.args.first.now c.planned-planned.result
plans g c tells are counts =
    let P : ℕ → Type 0 = λ m. (f : ℕ) → f < m → IsGoodPlan (files_now (g.D.Disk.history c.args.disk.now)) c.args.first.now f in
    plans_all _ c.args.first.now _ _ _ are counts (subst P c.in_ok-plans.ensures.count (c.in_ok-plans.ensures.planned tells).good)

-- each commit that there has to be is good
committed : (g : Over) → (c : After-first_damaged g) → g.D.Disk.tells
    → AreCommitted c.args.streams.now (files_now (g.D.Disk.history c.args.disk.now)) c.committed-committed.result c.in_ok-commits.commits.marks c.in_ok-commits.commits.seen
committed g c tells =
    let G : History → Type 0 = λ h. AreCommitted c.args.streams.now (files_now h) c.committed-committed.result c.in_ok-commits.commits.marks c.in_ok-commits.commits.seen in
    subst G (c.plans_to.ensures.same tells) (c.in_ok-commits.ensures.committed tells)

pub returns-in_err-plans-clause-refused : goal.returns-in_err-plans-clause-refused
returns-in_err-plans-clause-refused g c = λ tells are.
    let p = err_from_is_err_and c.from_residual.result c.from_residual.ensures.1 in
    rw (p.1, p.2) (plans_refused c.args.streams.now _ c.args.first.now _ _ _ c.in_err-plans.field-0.0 are (counted g (goal.at.returns-in_err-plans-clause-refused g c).After-committed-committed) (c.in_err-plans.ensures.refused tells))

pub returns-in_err-commits-clause-refused : goal.returns-in_err-commits-clause-refused
returns-in_err-commits-clause-refused g c = λ tells are.
    let p = err_from_is_err_and c.from_residual-in_err-commits.result c.from_residual-in_err-commits.ensures.1 in
    let at = goal.at.returns-in_err-commits-clause-refused g c in
    let counts = counted g at.After-committed-committed in
    let R : History → Type 0 = λ h. CommitsRefuse c.args.streams.now (files_now h) c.committed-committed.result c.in_err-commits.field-0.0 in
    rw (p.1, p.2) (commits_refused c.args.streams.now _ c.args.first.now _ _ _ c.in_err-commits.field-0.0 are counts (plans g at.After-commits_to tells are counts) (subst R (c.plans_to.ensures.same tells) (c.in_err-commits.ensures.refused tells)))

pub returns-in-Some-clause-refused : goal.returns-in-Some-clause-refused
returns-in-Some-clause-refused g c = λ tells are.
    let at = goal.at.returns-in-Some-clause-refused g c in
    let counts = counted g at.After-committed-committed in
    let files : Files = files_now (g.D.Disk.history c.args.disk.now) in
    let good = committed g at.After-first_damaged tells in
    let W : ℕ → Type 0 = λ n. CommitsPassed files n (Damaged c.in-Some.name) ⊎ (HasNoCommitFrom files n × MarkRefuses c.args.streams.now files n (Damaged c.in-Some.name)) in
    let why = c.in-Some.ensures.some c.args.streams.now files are (rw c.as_slice.ensures (c.in_ok-plans.ensures.planned tells).spelled) (rw c.as_slice-2.ensures good.each) in
    read_refused c.args.streams.now files c.args.first.now _ _ _ c.in-Some.name are counts (plans g at.After-commits_to tells are counts) good.good (subst W (rw c.as_slice.ensures c.in_ok-plans.ensures.count) why)

pub returns-in-None-clause-progress : goal.returns-in-None-clause-progress
returns-in-None-clause-progress g c = λ tells are.
    let at = goal.at.returns-in-None-clause-progress g c in
    let counts = counted g at.After-committed-committed in
    let files : Files = files_now (g.D.Disk.history c.args.disk.now) in
    let good = committed g at.After-first_damaged tells in
    let N : ℕ → Type 0 = HasNoCommitFrom files in
    let spelled = (c.in_ok-plans.ensures.planned tells).spelled in
    let right = c.in-None.ensures.none c.args.streams.now files are (rw c.as_slice.ensures spelled) (rw c.as_slice-2.ensures good.each) in
    let commits = commits_all c.args.streams.now files _ _ _ are counts good.good (subst N (rw c.as_slice.ensures c.in_ok-plans.ensures.count) right.0) in
    progress_found c.args.streams.now _ c.args.first.now _ c.in_ok-plans.plans _ c.in_ok-commits.commits.seen c.in_ok-plans.ensures.count (plans g at.After-commits_to tells are counts) spelled commits (rw c.as_slice.ensures at right.1) good.last
