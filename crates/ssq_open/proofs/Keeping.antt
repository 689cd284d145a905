-- From the checks of single kinds of files to those of the epochs.
use Rattle.std.proofs.Common.{◌≡◌, ◌⊎◌, ◌<◌, ◌≤◌, ◌+◌, ◌-◌, ℕ, List, length, sym, subst, inl, inr, arith}
use Rattle.std.specs.Prelude.{Contains}
use Rattle.std.proofs.lemmas.Bool.{cases_lt}
use Rattle.ssq_outside.specs.declared.name.Name.{Name}
use Rattle.ssq_outside.specs.declared.name.Name.TheVariants as name
use Rattle.ssq_outside.specs.Files.{Files, AreNames}
use Rattle.ssq_plans.specs.declared.part.PartEnd.{PartEnd}
use Rattle.ssq_plans.specs.declared.plan.Plan.{Plan}
use Rattle.ssq_plans.specs.declared.seen.SeenBy.{SeenBy}
use Rattle.ssq_open.specs.declared.streams.Watermarked.{Watermarked}
use Rattle.ssq_open.specs.declared.fault.OpenFault.{OpenFault}
use Rattle.ssq_open.specs.declared.fault.OpenFault.TheVariants.{OtherQuery, OtherPartitions, OtherParts, LogShort, Damaged, DiskFault, NoMemory}
use Rattle.ssq_open.specs.Epochs.{IsThere, IsGoodPlan, IsGoodCommit, IsSinkRight, ArePlans, ArePlansOf, AreCommits, IsMarked, IsSeenAt, IsProgress, HasNoCommitFrom}
use Rattle.ssq_open.specs.Refused.{PlansRefuse, CommitsRefuse, CommitsPassed, MarkRefuses, SinksRefuse, StrayRefuses, in_plans, in_commits, in_watermarks, ProgressRefuses, of_progress, in_sinks, in_state, EpochsRefuse}

-- what the names say of how many epochs are planned, and how many of these are committed
pub record AreCounted (names : List Name) (n k : ℕ) : Type 0 where
  pub plan_below : (e : ℕ) → Contains names (name.Plan e) → e < n
  pub greatest : (e : ℕ) → n ≡ e + 1 → Contains names (name.Plan e)
  pub below : k ≤ n
  pub ahead : n ≤ k + 1
  pub last : (e : ℕ) → n ≡ e + 1 → k ≡ n → Contains names (name.Commit e)
  pub pending : (e : ℕ) → n ≡ e + 1 → k ≡ e → Contains names (name.Commit e) → ⊥

some_last : (n e : ℕ) → e < n → (g : ℕ) × (n ≡ g + 1)
some_last n e less = (n - 1, omega arith)

pub plans_all : (files : Files) (first : List PartEnd) (names : List Name) (n k : ℕ) → AreNames files names → AreCounted names n k → ((e : ℕ) → e < n → IsGoodPlan files first e) → ArePlans files first n
plans_all files first names n k are counted good = record { all = λ e there. counted.plan_below e (are.all (name.Plan e) there); good = good }

pub plans_refused : (streams : List Watermarked) (files : Files) (first : List PartEnd) (names : List Name) (n k : ℕ) (fault : OpenFault) → AreNames files names → AreCounted names n k → PlansRefuse files first n fault → ProgressRefuses streams files first fault
plans_refused streams files first names n k (Damaged at) are counted refused =
    let last = some_last n refused.0 refused.2 in
    in_plans refused.0 refused.1 (record {
      before = λ f less later above there. refused.3.before f less;
      bad = λ right. refused.3.bad (right last.0 (omega (arith, last.1, refused.2)) (are.there (name.Plan last.0) (counted.greatest last.0 last.1)));
    })
plans_refused streams files first names n k DiskFault are counted refused = tt
plans_refused streams files first names n k NoMemory are counted refused = tt
plans_refused streams files first names n k (OtherQuery kept) are counted refused = refused
plans_refused streams files first names n k (OtherPartitions kept asked) are counted refused = refused
plans_refused streams files first names n k (OtherParts stream kept found) are counted refused = refused
plans_refused streams files first names n k (LogShort stream part logged found) are counted refused = refused

-- a commit below k is needed, or there
needed : (files : Files) (names : List Name) (n k e : ℕ) → AreNames files names → AreCounted names n k → e < k → (e + 1 < n) ⊎ IsThere files (name.Commit e)
needed files names n k e are counted less = elim (cases_lt (e + 1) n) [
  | inl earlier ↦ inl earlier
  | inr last ↦ inr (are.there (name.Commit e) (counted.last e (omega (arith, last, less, counted.below)) (omega (arith, last, less, counted.below))))
]

pub commits_refused : (streams : List Watermarked) (files : Files) (first : List PartEnd) (names : List Name) (n k : ℕ) (fault : OpenFault) → AreNames files names → AreCounted names n k → ArePlans files first n
    → CommitsRefuse streams files k fault → ProgressRefuses streams files first fault
commits_refused streams files first names n k (Damaged at) are counted plans refused =
    in_commits n refused.0 plans refused.1 (record {
      before = λ f less some. (omega (arith, less, refused.2, counted.below), refused.3.before f less);
      bad = λ right. refused.3.bad (right (needed files names n k refused.0 are counted refused.2)).1;
    })
commits_refused streams files first names n k DiskFault are counted plans refused = tt
commits_refused streams files first names n k NoMemory are counted plans refused = tt
commits_refused streams files first names n k (OtherQuery kept) are counted plans refused = refused
commits_refused streams files first names n k (OtherPartitions kept asked) are counted plans refused = refused
commits_refused streams files first names n k (OtherParts stream kept found) are counted plans refused = refused
commits_refused streams files first names n k (LogShort stream part logged found) are counted plans refused = refused

-- a planned epoch from k on has no commit
not_pending : (files : Files) (names : List Name) (n k e : ℕ) → AreNames files names → AreCounted names n k → k ≤ e → e < n → IsThere files (name.Commit e) → ⊥
not_pending files names n k e are counted from less there = counted.pending e (omega (arith, from, less, counted.ahead)) (omega (arith, from, less, counted.ahead)) (are.all (name.Commit e) there)

pub commits_passed : (streams : List Watermarked) (files : Files) (first : List PartEnd) (names : List Name) (n k : ℕ) (fault : OpenFault) → AreNames files names → AreCounted names n k → ArePlans files first n
    → ((e : ℕ) → e < k → IsGoodCommit streams files e) → CommitsPassed files n fault → ProgressRefuses streams files first fault
commits_passed streams files first names n k (Damaged at) are counted plans good passed =
    in_commits n passed.0 plans passed.1 (record {
      before = λ f less some. by_place f less some (cases_lt f k);
      bad = λ right. absurd (omega (arith, passed.2, (right (inr passed.3)).0));
    })
  where
    no_other : (f : ℕ) → f < passed.0 → k ≤ f → (f + 1 < n) ⊎ IsThere files (name.Commit f) → ⊥
    no_other f less from (inl earlier) = absurd (omega (arith, from, earlier, counted.ahead))
    no_other f less from (inr there) = elim (cases_lt f n) [
      | inl planned ↦ not_pending files names n k f are counted from planned there
      | inr not_planned ↦ absurd (omega (arith, less, passed.4 f not_planned there))
    ]

    by_place : (f : ℕ) → f < passed.0 → (f + 1 < n) ⊎ IsThere files (name.Commit f) → (f < k) ⊎ (k ≤ f) → (f < n) × IsGoodCommit streams files f
    by_place f less some (inl below) = (omega (arith, below, counted.below), good f below)
    by_place f less some (inr from) = absurd (no_other f less from some)
commits_passed streams files first names n k DiskFault are counted plans good passed = tt
commits_passed streams files first names n k NoMemory are counted plans good passed = tt
commits_passed streams files first names n k (OtherQuery kept) are counted plans good passed = passed
commits_passed streams files first names n k (OtherPartitions kept asked) are counted plans good passed = passed
commits_passed streams files first names n k (OtherParts stream kept found) are counted plans good passed = passed
commits_passed streams files first names n k (LogShort stream part logged found) are counted plans good passed = passed

pub commits_all : (streams : List Watermarked) (files : Files) (names : List Name) (n k : ℕ) → AreNames files names → AreCounted names n k → ((e : ℕ) → e < k → IsGoodCommit streams files e)
    → ((e : ℕ) → n ≤ e → IsThere files (name.Commit e) → ⊥) → AreCommits streams files n k
commits_all streams files names n k are counted good no_more = record { below = counted.below; ahead = counted.ahead; good = good; all = λ e there. by_place e there (cases_lt e k) (cases_lt e n) }
  where
    by_place : (e : ℕ) → IsThere files (name.Commit e) → (e < k) ⊎ (k ≤ e) → (e < n) ⊎ (n ≤ e) → e < k
    by_place e there (inl less) other = less
    by_place e there (inr from) (inl planned) = absurd (not_pending files names n k e are counted from planned there)
    by_place e there (inr from) (inr not_planned) = absurd (no_more e not_planned there)

pub mark_refused : (streams : List Watermarked) (files : Files) (first : List PartEnd) (n k : ℕ) (fault : OpenFault) → ArePlans files first n → AreCommits streams files n k → MarkRefuses streams files n fault → ProgressRefuses streams files first fault
mark_refused streams files first n k (Damaged at) plans commits refused = in_watermarks n k refused.0 plans commits refused.1 refused.2 refused.3
mark_refused streams files first n k DiskFault plans commits refused = tt
mark_refused streams files first n k NoMemory plans commits refused = tt
mark_refused streams files first n k (OtherQuery kept) plans commits refused = refused
mark_refused streams files first n k (OtherPartitions kept asked) plans commits refused = refused
mark_refused streams files first n k (OtherParts stream kept found) plans commits refused = refused
mark_refused streams files first n k (LogShort stream part logged found) plans commits refused = refused

-- the epochs are refused where their plans and commits are
pub progress_refused : (keeping : ℕ) (streams : List Watermarked) (files : Files) (first : List PartEnd) (fault : OpenFault) → ProgressRefuses streams files first fault → EpochsRefuse keeping streams files first fault
progress_refused keeping streams files first (Damaged at) refused = of_progress refused
progress_refused keeping streams files first DiskFault refused = tt
progress_refused keeping streams files first NoMemory refused = tt
progress_refused keeping streams files first (OtherQuery kept) refused = refused
progress_refused keeping streams files first (OtherPartitions kept asked) refused = refused
progress_refused keeping streams files first (OtherParts stream kept found) refused = refused
progress_refused keeping streams files first (LogShort stream part logged found) refused = refused

pub sinks_refused : (keeping : ℕ) (streams : List Watermarked) (files : Files) (first : List PartEnd) (plans : List Plan) (k : ℕ) (seen : List SeenBy) (fault : OpenFault) → IsProgress streams files first plans k seen → SinksRefuse files (length plans) k fault
    → EpochsRefuse keeping streams files first fault
sinks_refused keeping streams files first plans k seen (Damaged at) progress refused = in_sinks plans k refused.0 seen progress refused.1 refused.2
sinks_refused keeping streams files first plans k seen DiskFault progress refused = tt
sinks_refused keeping streams files first plans k seen NoMemory progress refused = tt
sinks_refused keeping streams files first plans k seen (OtherQuery kept) progress refused = refused
sinks_refused keeping streams files first plans k seen (OtherPartitions kept asked) progress refused = refused
sinks_refused keeping streams files first plans k seen (OtherParts stream kept found) progress refused = refused
sinks_refused keeping streams files first plans k seen (LogShort stream part logged found) progress refused = refused

pub state_refused : (keeping : ℕ) (streams : List Watermarked) (files : Files) (first : List PartEnd) (plans : List Plan) (k : ℕ) (seen : List SeenBy) (fault : OpenFault) → IsProgress streams files first plans k seen
    → ((f : ℕ) → IsSinkRight files (length plans) k f) → StrayRefuses files keeping (length plans) fault → EpochsRefuse keeping streams files first fault
state_refused keeping streams files first plans k seen (Damaged at) progress sinks refused = in_state plans k seen progress sinks refused
state_refused keeping streams files first plans k seen DiskFault progress sinks refused = tt
state_refused keeping streams files first plans k seen NoMemory progress sinks refused = tt
state_refused keeping streams files first plans k seen (OtherQuery kept) progress sinks refused = refused
state_refused keeping streams files first plans k seen (OtherPartitions kept asked) progress sinks refused = refused
state_refused keeping streams files first plans k seen (OtherParts stream kept found) progress sinks refused = refused
state_refused keeping streams files first plans k seen (LogShort stream part logged found) progress sinks refused = refused

pub counted_as : (names : List Name) (n k k' : ℕ) → ((e : ℕ) → Contains names (name.Plan e) → e < n) → ((e : ℕ) → n ≡ e + 1 → Contains names (name.Plan e)) → k ≤ n → n ≤ k + 1
    → ((e : ℕ) → n ≡ e + 1 → k ≡ n → Contains names (name.Commit e)) → ((e : ℕ) → n ≡ e + 1 → k ≡ e → Contains names (name.Commit e) → ⊥) → k' ≡ k → AreCounted names n k'
counted_as names n k k' plan_below greatest below ahead last pending same =
    let P : ℕ → Type 0 = AreCounted names n in
    subst P (sym same) (record { plan_below = plan_below; greatest = greatest; below = below; ahead = ahead; last = last; pending = pending })

-- what was found, of as many plans as there are
pub progress_found : (streams : List Watermarked) (files : Files) (first : List PartEnd) (n : ℕ) (plans : List Plan) (k : ℕ) (seen : List SeenBy) → length plans ≡ n → ArePlans files first n → ArePlansOf files plans
    → AreCommits streams files n k → ((e : ℕ) → e < length plans → IsMarked streams files e) → IsSeenAt files k seen → IsProgress streams files first plans k seen
progress_found streams files first n plans k seen count are spelled commits marked last =
    let P : ℕ → Type 0 = ArePlans files first in
    let C : ℕ → Type 0 = λ m. AreCommits streams files m k in
    record { are_plans = subst P (sym count) are; spelled = spelled; commits = subst C (sym count) commits; marked = marked; last = last }

-- why the plans and commits are refused that were read
pub read_refused : (streams : List Watermarked) (files : Files) (first : List PartEnd) (names : List Name) (n k : ℕ) (at : Name) → AreNames files names → AreCounted names n k → ArePlans files first n
    → ((e : ℕ) → e < k → IsGoodCommit streams files e) → CommitsPassed files n (Damaged at) ⊎ (HasNoCommitFrom files n × MarkRefuses streams files n (Damaged at)) → ProgressRefuses streams files first (Damaged at)
read_refused streams files first names n k at are counted plans good (inl passed) = commits_passed streams files first names n k (Damaged at) are counted plans good passed
read_refused streams files first names n k at are counted plans good (inr marks) = mark_refused streams files first n k (Damaged at) plans (commits_all streams files names n k are counted good marks.0) marks.1

-- and why the files are that were not
pub unread_refused : (keeping : ℕ) (streams : List Watermarked) (files : Files) (first : List PartEnd) (plans : List Plan) (k : ℕ) (seen : List SeenBy) (at : Name) → IsProgress streams files first plans k seen
    → SinksRefuse files (length plans) k (Damaged at) ⊎ (((e : ℕ) → IsSinkRight files (length plans) k e) × StrayRefuses files keeping (length plans) (Damaged at)) → EpochsRefuse keeping streams files first (Damaged at)
unread_refused keeping streams files first plans k seen at progress (inl sinks) = sinks_refused keeping streams files first plans k seen (Damaged at) progress sinks
unread_refused keeping streams files first plans k seen at progress (inr stray) = state_refused keeping streams files first plans k seen (Damaged at) progress stray.0 stray.1
