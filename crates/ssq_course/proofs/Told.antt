-- Files say how far they go, and what they spell.
use Rattle.std.proofs.Common.{◌≡◌, ◌⊎◌, ◌<◌, ℕ, List, Some, None, refl, ap, inl, inr, arith}
use Rattle.std.specs.Prelude.{IsSome}
use Rattle.std.proofs.lemmas.Bool.{ltb-true, cases_lt}
use Rattle.ssq_outside.specs.declared.name.Name.{Name}
use Rattle.ssq_outside.specs.declared.name.Name.TheVariants as name
use Rattle.ssq_outside.specs.Files.{Content, Files}
use Rattle.ssq_plans.specs.declared.plan.Plan.{Plan}
use Rattle.ssq_plans.specs.Records.{plan_text}
use Rattle.ssq_plans.proofs.Apart.{records_apart}
use Rattle.ssq_core.specs.Course.{Course, truth, plan_of}
use Rattle.ssq_core.specs.Standing.{IsThere, StandsAt}
use Rattle.ssq_core.proofs.Holding.{lt_true}
use Rattle.ssq_course.specs.Laws.{FilesSayTheirCourse}

one_text : (c : Content) (x y : List ℕ) → IsSome c → (c ≡ None) ⊎ (c ≡ Some x) → (c ≡ None) ⊎ (c ≡ Some y) → x ≡ y
one_text c x y there (inl none) other = cc
one_text c x y there (inr is) (inl none) = cc
one_text c x y there (inr is) (inr at) = cc

-- a file that is there has one text
same_truth : (one other : Course) (n k m l : ℕ) (files : Files) (q : Name) → StandsAt one n k files → StandsAt other m l files → IsThere files q → truth one q ≡ truth other q
same_truth one other n k m l files q s t there = one_text (files q) (truth one q) (truth other q) there (s.are_true q) (t.are_true q)

-- there are not more plans in the one than in the other, nor more commits
no_more_plans : (one other : Course) (n k m l : ℕ) (files : Files) → StandsAt one n k files → StandsAt other m l files → n < m → ⊥
no_more_plans one other n k m l files s t less =
    let there = t.needed (name.Plan n) (lt_true n m less) in
    let allowed = s.allowed (name.Plan n) there in
    omega (arith, ltb-true n n allowed)

no_more_commits : (one other : Course) (n k m l : ℕ) (files : Files) → StandsAt one n k files → StandsAt other m l files → k < l → ⊥
no_more_commits one other n k m l files s t less =
    let there = t.needed (name.Commit k) (lt_true k l less) in
    let allowed = s.allowed (name.Commit k) there in
    omega (arith, ltb-true k k allowed)

are_one : (n m : ℕ) → (n < m → ⊥) → (m < n → ⊥) → n ≡ m
are_one n m fewer more = elim (cases_lt n m) [
  | inl less ↦ absurd (fewer less)
  | inr le ↦ elim (cases_lt m n) [ inl less ↦ absurd (more less) | inr ge ↦ omega (arith, le, ge) ]
]

pub say_same : FilesSayTheirCourse
say_same one other n k m l files s t = record {
  planned = are_one n m (no_more_plans one other n k m l files s t) (no_more_plans other one m l n k files t s);
  committed = are_one k l (no_more_commits one other n k m l files s t) (no_more_commits other one m l n k files t s);
  meta = same_truth one other n k m l files name.Meta s t (s.needed name.Meta refl);
  plans = plan;
  commits = λ e less. same_truth one other n k m l files (name.Commit e) s t (s.needed (name.Commit e) (lt_true e k less));
  ends = λ e less one_is other_is. ap (λ (p : Plan). p.ends) (records_apart.plans (plan_of one e) (plan_of other e) one_is other_is (plan e less));
  watermarks = λ e less one_is other_is. ap (λ (p : Plan). p.watermark) (records_apart.plans (plan_of one e) (plan_of other e) one_is other_is (plan e less));
}
  where
    plan : (e : ℕ) → e < n → plan_text (plan_of one e) ≡ plan_text (plan_of other e)
    plan e less = same_truth one other n k m l files (name.Plan e) s t (s.needed (name.Plan e) (lt_true e n less))
