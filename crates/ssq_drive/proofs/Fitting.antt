-- Plans that are of the cuts of a round.
use Rattle.std.proofs.Common.{◌≡◌, ◌<◌, ◌≤◌, ◌+◌, ◌-◌, ◌++◌, ℕ, Bool, zero, suc, List, [], ◌∷◌, length, length-append, get_or, None, sym, refl, ap, ◌∙◌, inl, inr, add-one, arith}
use Rattle.std.proofs.lemmas.Bool.{cases_lt}
use Rattle.std.proofs.lemmas.List.{get_or_append_left}
use Rattle.ssq_plans.specs.declared.plan.Plan.{Plan}
use Rattle.ssq_core.specs.Course.{Cuts, Ends}
use Rattle.ssq_course.specs.Setting.{Setting}
use Rattle.ssq_open.specs.declared.wanted.Opened.{Opened}
use Rattle.ssq_open.specs.Epochs.{cut_of, no_plan}
use Rattle.ssq_board.specs.Core.{Scope, Core, next_ends, is_behind}
use Rattle.ssq_board.specs.Shelf.{Shelf}
use Rattle.ssq_desk.specs.Closing.{IsNext}
use Rattle.ssq_drive.specs.Rounds.{PlansOn}
use Rattle.ssq_drive.proofs.Cutting.{AreNextCuts}

-- the opened ones come first, and as many as are planned end where the cuts say
pub record FitsPlans (first : Ends) (old plans : List Plan) (planned : ℕ) (cuts : Cuts) : Type 0 where
  pub more : List Plan
  pub behind : plans ≡ old ++ more
  pub count : length plans ≡ planned
  pub are : (e : ℕ) → e ≤ planned → cut_of first plans e ≡ cuts e

pub plans_on : (r : Scope) (closing : Bool) (first : Ends) (old plans : List Plan) (to : ℕ) (cuts : Cuts) → AreNextCuts r closing (length old) to (cut_of first old) cuts → FitsPlans first old plans to cuts
    → PlansOn closing first r.cap r.available old plans
plans_on r closing first old plans to cuts go fits =
    let count = fits.count in
    record {
      more = fits.more;
      behind = fits.behind;
      next = λ e from less. fits.are (e + 1) (omega (arith, less, count)) ∙ go.next e from (omega (arith, less, count))
          ∙ ap (λ (ends : Ends). next_ends r.cap ends r.available) (sym (fits.are e (omega (arith, less, count))));
      due = λ e from less. elim (go.due e from (omega (arith, less, count))) [
        | inl lines ↦ inl (ap (λ (ends : Ends). is_behind ends r.available) (fits.are e (omega (arith, less, count))) ∙ lines)
        | inr last ↦ inr (last.0 ∙ sym count, last.1)
      ];
    }

-- what the next round opens
pub next_fits : (owned : Type 0) (s : Setting) (first : Ends) (cuts : Cuts) (available : List ℕ) (c : Core) (shelf : Shelf) (opened next : Opened) → IsNext owned s cuts available c shelf opened next → cuts 0 ≡ first → FitsPlans first opened.plans next.plans c.front.planned cuts
next_fits owned s first cuts available c shelf opened next is begins = record { more = is.plans_on.0; behind = is.plans_on.1; count = is.planned; are = are }
  where
    are : (e : ℕ) → e ≤ c.front.planned → cut_of first next.plans e ≡ cuts e
    are zero le = sym begins
    are (suc e) le = (let count = is.planned in is.ends e (no_plan first) (omega (arith, le, count)) ∙ ap cuts (add-one e))

-- plans of so many epochs from one on, by the cuts alone
abbrev pub built : Cuts → ℕ → ℕ → List Plan
built cuts e zero = []
built cuts e (suc n) = record { epoch = e; watermark = None; ends = cuts (e + 1) } ∷ built cuts (e + 1) n

built_count : (cuts : Cuts) (e n : ℕ) → length (built cuts e n) ≡ n
built_count cuts e zero = refl
built_count cuts e (suc n) = ap suc (built_count cuts (e + 1) n)

built_at : (cuts : Cuts) (e n i : ℕ) (default : Plan) → i < n → (get_or (built cuts e n) i default).ends ≡ cuts (e + i + 1)
built_at cuts e zero i default less = absurd (omega (arith, less))
built_at cuts e (suc n) zero default less = ap cuts (let q : e + 1 ≡ e + 0 + 1 = omega arith in q)
built_at cuts e (suc n) (suc i) default less = built_at cuts (e + 1) n i default (omega (arith, less)) ∙ ap cuts (let q : e + 1 + i + 1 ≡ e + suc i + 1 = omega arith in q)

behind_at : {A : Type 0} (l more : List A) (i : ℕ) (default : A) → get_or (l ++ more) (length l + i) default ≡ get_or more i default
behind_at [] more i default = ap (λ (n : ℕ). get_or more n default) (let q : 0 + i ≡ i = omega arith in q)
behind_at (x ∷ l) more i default = ap (λ (n : ℕ). get_or (x ∷ (l ++ more)) n default) (let q : suc (length l) + i ≡ suc (length l + i) = omega arith in q) ∙ behind_at l more i default

pub built_fits : (r : Scope) (closing : Bool) (first : Ends) (old : List Plan) (to : ℕ) (cuts : Cuts) → AreNextCuts r closing (length old) to (cut_of first old) cuts → length old ≤ to → FitsPlans first old (old ++ built cuts (length old) (to - length old)) to cuts
built_fits r closing first old to cuts go below = record {
  more = built cuts (length old) (to - length old);
  behind = refl;
  count = (let a = length-append old (built cuts (length old) (to - length old)) in let b = built_count cuts (length old) (to - length old) in omega (arith, a, b, below));
  are = are;
}
  where
    plans : List Plan
    plans = old ++ built cuts (length old) (to - length old)

    are : (e : ℕ) → e ≤ to → cut_of first plans e ≡ cuts e
    are zero le = sym (go.kept 0 (omega arith))
    are (suc e) le = elim (cases_lt e (length old)) [
      | inl less ↦ ap (λ (p : Plan). p.ends) (get_or_append_left old (built cuts (length old) (to - length old)) (no_plan first) e less) ∙ sym (go.kept (suc e) (omega (arith, less)))
      | inr most ↦ (
          let at : length old + (e - length old) ≡ e = omega (arith, most) in
          ap (λ (n : ℕ). (get_or plans n (no_plan first)).ends) (sym at)
          ∙ ap (λ (p : Plan). p.ends) (behind_at old (built cuts (length old) (to - length old)) (e - length old) (no_plan first))
          ∙ built_at cuts (length old) (to - length old) (e - length old) (no_plan first) (omega (arith, le, most))
          ∙ ap cuts (let q : length old + (e - length old) + 1 ≡ suc e = omega (arith, most) in q)
          )
    ]
