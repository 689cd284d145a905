-- Plans determine the cuts that they are of.
use Rattle.std.proofs.Common.{◌≡◌, ◌<◌, ◌+◌, ℕ, zero, suc, refl, ap, sym, ◌∙◌, subst, arith, add-one}
use Rattle.ssq_plans.specs.declared.plan.Plan.{Plan}
use Rattle.ssq_plans.specs.Records.{AreRecordsApart}
use Rattle.ssq_core.specs.Course.{Cuts, Job, plan_of}
use Rattle.ssq_core.specs.Sound.{AreProper}
use Rattle.ssq_course.specs.Laws.{FilesSayTheirCourse}
use Rattle.ssq_open.specs.Sought.{Sought}
use Rattle.ssq_open.specs.Jobs.{IsWantedJob}
use Rattle.ssq_terms.specs.Laws.{PlansSayTheirCuts, FilesSayTheirCuts}

-- both begin where the parts that were found do
same_start : (sought : Sought) (job : Job) (one other : Cuts) (n : ℕ) → IsWantedJob sought job → AreProper job one n → AreProper job other n → (n ≡ 0 → one 0 ≡ other 0) → one 0 ≡ other 0
same_start sought job one other zero is proper also start = start refl
same_start sought job one other (suc n) is proper also start = is.start one 0 (proper 0 (omega arith)) ∙ sym (is.start other 0 (also 0 (omega arith)))

-- with the laws of records and of files
module _ (records : AreRecordsApart) where
  pub plans_say : PlansSayTheirCuts
  plans_say sought job one other n is proper also few spelled start zero le = same_start sought job one other n is proper also start
  plans_say sought job one other n is proper also few spelled start (suc e) le =
      let less : e < n = omega (arith, le) in
      let same = ap (λ (p : Plan). p.ends) (records.plans (plan_of (job.course one) e) (plan_of (job.course other) e) (is.plans one n e proper few less) (is.plans other n e also few less) (spelled e less)) in
      let ends : one (e + 1) ≡ other (e + 1) = sym (is.ends one (e + 1)) ∙ same ∙ is.ends other (e + 1) in
      subst (λ (f : ℕ). one f ≡ other f) (add-one e) ends

  pub files_say : FilesSayTheirCourse → FilesSayTheirCuts
  files_say says sought job one other n k m l files is proper also stands stands_too start =
      let same = says (job.course one) (job.course other) n k m l files stands stands_too in
      let also_to : AreProper job other n = λ e less. also e (omega (arith, less, same.planned)) in
      (same.planned, same.committed, plans_say sought job one other n is proper also_to stands.reached.few same.plans start)
