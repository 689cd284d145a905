-- When an epoch without lines is due, where a round begins.
use Rattle.std.proofs.Common.{◌≡◌, ◌<◌, ◌≤◌, ◌⊎◌, ◌&&◌, not, nat_lt, ℕ, ℤ, zero, suc, Bool, true, false, List, [], length, get_or, Option, None, IfSome, inl, inr, refl, sym, ap, ◌∙◌, subst, arith}
use Rattle.std.specs.Prelude.{slice_get, option_and_then}
use Rattle.std.proofs.lemmas.Option.{slice_get-get_or}
use Rattle.ssq_shape.specs.declared.bound.Bound.{Bound}
use Rattle.ssq_meaning.specs.Times.{delays, is_above, watermark_by}
use Rattle.ssq_meaning.specs.Epochs.{seen, watermark_before}
use Rattle.ssq_plans.specs.declared.plan.Plan.{Plan}
use Rattle.ssq_plans.specs.declared.seen.SeenBy.{SeenBy}
use Rattle.ssq_core.specs.Course.{Cuts, plan_of}
use Rattle.ssq_course.specs.Setting.{Setting, parts_in, course_of, job_of, closes, cuts_of as offsets, watermark_at}
use Rattle.ssq_open.specs.declared.wanted.Opened.{Opened}
use Rattle.ssq_task.specs.Committing.{told}
use Rattle.ssq_terms.specs.Setting.{CanRun}
use Rattle.ssq_terms.specs.Laws.{UnmarkedHaveNoTimes, due_at}
use Rattle.ssq_desk.specs.Round.{is_due, is_due_on, mark_of}
use Rattle.ssq_desk.proofs.Beginnings.{told_from, nothing_seen}

-- ---- the last watermark

module _ (s : Setting) (cuts : Cuts) (found : Opened) (before : found.committed ≤ length found.plans) (plans : (e : ℕ) (default : Plan) → e < length found.plans → get_or found.plans e default ≡ plan_of ((job_of s).course cuts) e) where
  mark_is : (n : ℕ) → n ≤ length found.plans → mark_of found.plans n ≡ watermark_before s.job.bound (parts_in s) (offsets cuts) n
  mark_is zero le = refl
  mark_is (suc n) le =
      ap (option_and_then (λ (plan : Plan). plan.watermark)) (slice_get-get_or found.plans n (plan_of (course_of s cuts) n) (omega (arith, le)))
      ∙ ap (λ (plan : Plan). plan.watermark) (plans n (plan_of (course_of s cuts) n) (omega (arith, le)))

  module _ (unmarked : UnmarkedHaveNoTimes) (runs : CanRun s.job.bound) (seen_are : ((found.committed ≡ 0) × (found.seen ≡ [])) ⊎ (found.seen ≡ ((job_of s).course cuts).seen found.committed)) where
    times_are : (stream : ℕ) → told found.seen stream ≡ seen s.job.bound (parts_in s) (offsets cuts) stream found.committed
    times_are stream = elim seen_are [
      | inl none ↦ ap (λ (lines : List SeenBy). told lines stream) none.1 ∙ nothing_seen s.job.bound (parts_in s) (offsets cuts) stream ∙ ap (seen s.job.bound (parts_in s) (offsets cuts) stream) (sym none.0)
      | inr mine ↦ (
          let of : ℕ → Option ℤ = λ stream. seen s.job.bound (parts_in s) (offsets cuts) stream found.committed in
          ap (λ (lines : List SeenBy). told lines stream) mine
          ∙ told_from of 0 s.job.bound.streams stream (omega arith)
          (λ j e none. unmarked s.job.bound (parts_in s) (offsets cuts) stream found.committed runs.events
          (subst (λ (n : ℕ). IfSome (slice_get s.job.bound.streams n) (λ s. s.delay ≡ None)) (let same : j ≡ stream = omega (arith, e) in same) none))
          )
    ]

    -- What is due on what was found, where no epoch is planned beyond the committed ones, is what is due by its cuts.
    pub found_due : nat_lt found.committed (length found.plans) ≡ false → is_due_on s.job.bound found ≡ due_at s cuts found.committed
    found_due none =
        let now : watermark_by (delays s.job.bound) (told found.seen) ≡ watermark_at s cuts found.committed = (λ i. watermark_by (delays s.job.bound) (λ stream. times_are stream i)) in
        let last = mark_is found.committed before in
        ap (λ (b : Bool). not b && is_due s.job.bound (told found.seen) (mark_of found.plans found.committed)) none
        ∙ (λ i. closes s.job.bound && is_above (now i) (last i))

-- of a query that does not close none is due
pub never_due : (bound : Bound) (found : Opened) → closes bound ≡ false → is_due_on bound found ≡ false
never_due bound found none =
    ap (λ (b : Bool). not (nat_lt found.committed (length found.plans)) && (b && is_above (watermark_by (delays bound) (told found.seen)) (mark_of found.plans found.committed))) none
    ∙ and_none (not (nat_lt found.committed (length found.plans)))
  where
    and_none : (b : Bool) → (b && false) ≡ false
    and_none true = refl
    and_none false = refl
