-- A checkpoint that passes is not refused, and its files say what is found.
use Rattle.std.proofs.Common.{◌≡◌, ◌⊎◌, ◌<◌, ◌≤◌, ◌+◌, ◌∙◌, [], ℕ, List, Option, Some, None, length, get_or, sym, ap, subst, inl, inr, arith}
use Rattle.std.specs.Prelude.{IsSome, IsTrue, slice_index}
use Rattle.std.proofs.lemmas.Bool.{cases_lt}
use Rattle.std.proofs.lemmas.List.{ext_get_or}
use Rattle.ssq_outside.specs.declared.name.Name.{Name}
use Rattle.ssq_outside.specs.declared.name.Name.TheVariants as name
use Rattle.ssq_outside.specs.Files.{Files}
use Rattle.ssq_plans.specs.declared.meta.Meta.{Meta}
use Rattle.ssq_plans.specs.declared.plan.Plan.{Plan}
use Rattle.ssq_plans.specs.declared.part.PartEnd.{PartEnd}
use Rattle.ssq_plans.specs.declared.seen.SeenBy.{SeenBy}
use Rattle.ssq_plans.specs.Records.{plan_text, commit_text}
use Rattle.ssq_open.specs.declared.streams.Watermarked.{Watermarked}
use Rattle.ssq_open.specs.declared.fault.OpenFault.{OpenFault}
use Rattle.ssq_open.specs.declared.fault.OpenFault.TheVariants.{OtherQuery, OtherPartitions, OtherParts, LogShort, Damaged, DiskFault, NoMemory}
use Rattle.ssq_open.specs.Sought.{Sought, IsJob}
use Rattle.ssq_store.specs.Loaded.{IsDamaged as IsStateDamaged}
use Rattle.ssq_open.specs.Stateful.{keeping_in}
use Rattle.ssq_open.specs.Stores.{IsUnloaded}
use Rattle.ssq_open.specs.Spelled.{IsTheMeta}
use Rattle.ssq_open.specs.Epochs.{starts, no_plan, last_ends, IsSeenAt, IsThere, IsGoodPlan, IsGoodCommit, IsPlanRight, IsCommitRight, IsSinkRight, is_stray, ArePlans, AreCommits, IsProgress, AreEpochs}
use Rattle.ssq_open.specs.Refused.{JobDiffers, RecordDiffers, IsProgressDamage, in_plans, in_commits, in_watermarks, IsDamage, of_progress, in_sinks, in_state}
use Rattle.ssq_open.specs.Opening.{Finds, Refuses, IsOutside, IsShort, IsDamaged, no_record, other_streams, in_epochs, in_states, first_short}
use Rattle.ssq_open.proofs.Planning.{one_seen}

none_some : {X : Type 0} (x : X) → None ≡ Some x → ⊥
none_some x e = cc

is_there : (content : Option (List ℕ)) (text : List ℕ) → content ≡ Some text → IsSome content
is_there content text e = cc

plan_there : (files : Files) (first : List PartEnd) (e : ℕ) → IsGoodPlan files first e → IsThere files (name.Plan e)
plan_there files first e good = is_there (files (name.Plan e)) (plan_text good.plan) good.is.spells.text

commit_there : (streams : List Watermarked) (files : Files) (e : ℕ) → IsGoodCommit streams files e → IsThere files (name.Commit e)
commit_there streams files e good = is_there (files (name.Commit e)) (commit_text good.commit) good.is.spells.text

no_fewer : (files : Files) (first : List PartEnd) (n m : ℕ) → ArePlans files first n → ArePlans files first m → n < m → ⊥
no_fewer files first n m one other less = absurd (omega (arith, one.all n (plan_there files first n (other.good n less))))

-- a count is one where none is below another
one_number : (Is : ℕ → Type 0) → ((n m : ℕ) → Is n → Is m → n < m → ⊥) → (n m : ℕ) → Is n → Is m → n ≡ m
one_number Is none_fewer n m one other = by_order (cases_lt n m) (cases_lt m n)
  where
    by_order : (n < m) ⊎ (m ≤ n) → (m < n) ⊎ (n ≤ m) → n ≡ m
    by_order (inl less) other_way = absurd (none_fewer n m one other less)
    by_order (inr no_less) (inl more) = absurd (none_fewer m n other one more)
    by_order (inr no_less) (inr no_more) = omega (arith, no_less, no_more)

-- so as many are planned
pub one_count : (files : Files) (first : List PartEnd) (n m : ℕ) → ArePlans files first n → ArePlans files first m → n ≡ m
one_count files first = one_number (ArePlans files first) (no_fewer files first)

no_fewer_commits : (streams : List Watermarked) (files : Files) (n m k l : ℕ) → AreCommits streams files n k → AreCommits streams files m l → k < l → ⊥
no_fewer_commits streams files n m k l one other less = absurd (omega (arith, one.all k (commit_there streams files k (other.good k less))))

-- and committed
pub one_commits : (streams : List Watermarked) (files : Files) (n m k l : ℕ) → AreCommits streams files n k → AreCommits streams files m l → k ≡ l
one_commits streams files n m k l one other =
    one_number (λ k. (n : ℕ) × AreCommits streams files n k) (λ k l one other. no_fewer_commits streams files one.0 other.0 k l one.1 other.1) k l (n, one) (m, other)

-- plans and commits that are right say the same, whoever found it
pub record AreOne (plans others : List Plan) (k l : ℕ) (seen times : List SeenBy) : Type 0 where
  pub same_plans : plans ≡ others
  pub committed : k ≡ l
  pub same_seen : seen ≡ times

pub one_finding : (streams : List Watermarked) (files : Files) (first : List PartEnd) (plans others : List Plan) (k l : ℕ) (seen times : List SeenBy) → IsProgress streams files first plans k seen
    → IsProgress streams files first others l times → AreOne plans others k l seen times
one_finding streams files first plans others k l seen times one other =
    let count = one_count files first (length plans) (length others) one.are_plans other.are_plans in
    let same = one_commits streams files (length plans) (length others) k l one.commits other.commits in
    let P : ℕ → Type 0 = λ k. IsSeenAt files k times in
    record {
      same_plans = ext_get_or (no_plan []) plans others count
          (λ e less. (other.spelled e (no_plan []) (omega (arith, less, count))).only (get_or plans e (no_plan [])) (one.spelled e (no_plan []) less).spells);
      committed = same;
      same_seen = one_seen files k seen times one.last (subst P (sym same) other.last);
    }

-- a record that differs is not that of the job
no_difference : (s : Sought) (m : Meta) (fault : OpenFault) → IsJob s m → JobDiffers s m fault → ⊥
no_difference s m (OtherQuery query) job differs = differs.1 job.ours.ours.query
no_difference s m (Damaged at) job differs = differs.2 job.ours.ours.streams
no_difference s m (OtherPartitions partitions asked) job differs = differs.3 (sym differs.1 ∙ job.ours.partitions asked differs.2)
no_difference s m (OtherParts stream parts found) job differs =
    let d = differs.1 in d.differ (sym d.has ∙ ap (λ (counts : List ℕ). slice_index counts stream) job.parts ∙ d.finds_there)
no_difference s m (LogShort stream part logged found) job differs = differs
no_difference s m DiskFault job differs = differs
no_difference s m NoMemory job differs = differs

no_record_differs : (s : Sought) (files : Files) (m : Meta) (fault : OpenFault) → IsTheMeta files m → IsJob s m → RecordDiffers s files fault → ⊥
no_record_differs s files m fault is job differs =
    let P : Meta → Type 0 = λ other. JobDiffers s other fault in
    no_difference s m fault job (subst P (is.only differs.meta differs.is.spells) differs.differs)

-- plans and commits that are as they have to be are not damaged
plan_right : (files : Files) (first : List PartEnd) (n e : ℕ) → ArePlans files first n → IsPlanRight files first e
plan_right files first n e plans later above there = plans.good e (omega (arith, above, plans.all later there))

commit_right : (streams : List Watermarked) (files : Files) (n k e : ℕ) → AreCommits streams files n k → IsCommitRight streams files n e
commit_right streams files n k e commits some = by_case some
  where
    committed : e < k → (e < n) × IsGoodCommit streams files e
    committed less = (omega (arith, less, commits.below), commits.good e less)

    by_case : (e + 1 < n) ⊎ IsThere files (name.Commit e) → (e < n) × IsGoodCommit streams files e
    by_case (inl earlier) = committed (omega (arith, earlier, commits.ahead))
    by_case (inr there) = committed (commits.all e there)

pub no_progress_damage : (streams : List Watermarked) (files : Files) (first : List PartEnd) (plans : List Plan) (k : ℕ) (seen : List SeenBy) (at : Name) → IsProgress streams files first plans k seen → IsProgressDamage streams files first at → ⊥
no_progress_damage streams files first plans k seen at progress (in_plans e is bad) = bad.bad (plan_right files first (length plans) e progress.are_plans)
no_progress_damage streams files first plans k seen at progress (in_commits n e are is bad) =
    let P : ℕ → Type 0 = λ n. IsCommitRight streams files n e in
    bad.bad (subst P (one_count files first (length plans) n progress.are_plans are) (commit_right streams files (length plans) k e progress.commits))
no_progress_damage streams files first plans k seen at progress (in_watermarks n l e are commits is less bad) =
    bad.bad (progress.marked e (omega (arith, less, one_count files first (length plans) n progress.are_plans are)))

-- nor are epochs
no_damage : (keeping : ℕ) (streams : List Watermarked) (files : Files) (first : List PartEnd) (plans : List Plan) (k : ℕ) (seen : List SeenBy) (at : Name) → AreEpochs keeping streams files first plans k seen → IsDamage keeping streams files first at → ⊥
no_damage keeping streams files first plans k seen at are (of_progress damage) = no_progress_damage streams files first plans k seen at are.progress damage
no_damage keeping streams files first plans k seen at are (in_sinks others l e times progress is bad) =
    let P : ℕ → Type 0 = λ n. IsSinkRight files n k e in
    let Q : ℕ → Type 0 = λ k. IsSinkRight files (length others) k e in
    let same = one_finding streams files first plans others k l seen times are.progress progress in
    bad.bad (subst Q same.committed (subst P (ap length same.same_plans) (are.sinks e)))
no_damage keeping streams files first plans k seen at are (in_state others l times progress sinks stray) =
    let S : ℕ → Type 0 = λ n. IsTrue (is_stray keeping n at) in
    let same = one_finding streams files first plans others k l seen times are.progress progress in
    are.no_stray at (subst S (sym (ap length same.same_plans)) stray.stray) stray.there

-- where none of the files that make the states is damaged
module _ (s : Sought) (files : Files) (meta : Meta) (plans : List Plan) (k : ℕ) (seen : List SeenBy) (finds : Finds s files meta plans k seen)
    (whole : (p : ℕ) (at : Name) → p < keeping_in s.keeps meta.partitions → IsStateDamaged files p k at → ⊥) where
  not_damaged : (at : Name) → IsDamaged s files at → ⊥
  not_damaged at (no_record is none) = none meta finds.record_is.spells
  not_damaged at (other_streams differs) = no_record_differs s files meta (Damaged at) finds.record_is finds.job differs
  not_damaged at (in_epochs m is job damage) =
      let M : Meta → Type 0 = λ (own : Meta). IsDamage (keeping_in s.keeps own.partitions) s.streams files (starts s.found) at in
      no_damage (keeping_in s.keeps meta.partitions) s.streams files (starts s.found) plans k seen at finds.epochs (subst M (finds.record_is.only m is.spells) damage)
  not_damaged at (in_states m others l times other unloaded) =
      let one = one_finding s.streams files (starts s.found) plans others k l seen times finds.epochs.progress other.epochs.progress in
      let U : ℕ → Type 0 = λ n. IsUnloaded files (keeping_in s.keeps m.partitions) n at in
      let M : Meta → Type 0 = λ (own : Meta). IsUnloaded files (keeping_in s.keeps own.partitions) k at in
      let here : IsUnloaded files (keeping_in s.keeps meta.partitions) k at = subst M (finds.record_is.only m other.record_is.spells) (subst U (sym one.committed) unloaded) in
      whole here.partition at here.within here.damaged

  not_short : (stream part logged found : ℕ) → IsShort s files stream part logged found → ⊥
  not_short stream part logged found short =
      let same = one_finding s.streams files (starts s.found) plans short.plans k short.committed seen short.seen finds.epochs.progress short.epochs.progress in
      let last : last_ends (starts s.found) plans ≡ last_ends (starts s.found) short.plans = ap (last_ends (starts s.found)) same.same_plans in
      none_some (record { stream = stream; part = part; end = logged }, short.at) (sym finds.long ∙ ap (λ (l : List PartEnd). first_short l s.found) last ∙ short.short)

  pub not_refused : (fault : OpenFault) → Refuses s files fault → IsOutside fault
  not_refused (OtherQuery query) refused = absurd (no_record_differs s files meta (OtherQuery query) finds.record_is finds.job refused)
  not_refused (OtherPartitions partitions asked) refused = absurd (no_record_differs s files meta (OtherPartitions partitions asked) finds.record_is finds.job refused)
  not_refused (OtherParts stream parts found) refused = absurd (no_record_differs s files meta (OtherParts stream parts found) finds.record_is finds.job refused)
  not_refused (LogShort stream part logged found) refused = absurd (not_short stream part logged found refused)
  not_refused (Damaged at) refused = absurd (not_damaged at refused)
  not_refused DiskFault refused = tt
  not_refused NoMemory refused = tt
