-- One epoch more, in a walk over plans and commits.
use Rattle.std.proofs.Common.{◌≡◌, ◌<◌, ◌≤◌, ◌+◌, ◌∙◌, ◌++◌, [], ◌∷◌, zero, suc, ℕ, ℤ, Bool, false, List, Option, None, length, get_or, refl, sym, ap, subst, inl, inr, arith}
use Rattle.std.specs.Prelude.{IsTrue}
use Rattle.std.proofs.lemmas.Bool.{cases_lt}
use Rattle.std.proofs.Math.ListN.{get_or-append}
use Rattle.std.proofs.Math.Seq.{get_or-append_seam}
use Rattle.std.proofs.lemmas.List.{get_or_default, length_push}
use Rattle.ssq_outside.specs.declared.name.Name.TheVariants as name
use Rattle.ssq_outside.specs.Files.{Files}
use Rattle.ssq_plans.specs.declared.plan.Plan.{Plan}
use Rattle.ssq_plans.specs.declared.commit.Commit.{Commit}
use Rattle.ssq_plans.specs.declared.part.PartEnd.{PartEnd}
use Rattle.ssq_plans.specs.declared.seen.SeenBy.{SeenBy}
use Rattle.ssq_open.specs.declared.streams.Watermarked.{Watermarked}
use Rattle.ssq_open.specs.declared.fault.OpenFault.{OpenFault}
use Rattle.ssq_open.specs.declared.fault.OpenFault.TheVariants.{OtherQuery, OtherPartitions, OtherParts, LogShort, Damaged, DiskFault, NoMemory}
use Rattle.ssq_open.specs.Spelled.{SpellsOnly, IsThePlan, IsTheCommit}
use Rattle.ssq_open.specs.Watermarks.{mark_by}
use Rattle.ssq_open.specs.Epochs.{at_start, at_plan, is_next, is_own, AreEndsAt, IsGoodPlan, ArePlannedTo, ArePlanned, ArePlansOf, no_plan, cut_of, last_ends, IsGoodCommit, IsSeenAt, none_yet, by_commit, IsMarkAt, AreMarks, AreCommitted, IsMarked, IsFirstBad}
use Rattle.ssq_open.specs.Refused.{PlansRefuse, CommitRefuses, CommitsRefuse}

-- what holds below n and at n holds below n + 1
pub below_next : (Good : ℕ → Type 0) (n : ℕ) → ((f : ℕ) → f < n → Good f) → Good n → (f : ℕ) → f < n + 1 → Good f
below_next Good n before here f less = elim (cases_lt f n) [
  | inl earlier ↦ before f earlier
  | inr not_earlier ↦ let same : n ≡ f = omega (arith, less, not_earlier) in subst Good same here
]

-- what holds of each element at its place, and of one more at the end
pub pushed : {X : Type 0} (Good : ℕ → X → Type 0) (xs : List X) (x : X) → ((e : ℕ) (default : X) → e < length xs → Good e (get_or xs e default)) → Good (length xs) x
    → (e : ℕ) (default : X) → e < length (xs ++ x ∷ []) → Good e (get_or (xs ++ x ∷ []) e default)
pushed Good xs x each here e default less = elim (cases_lt e (length xs)) [
  | inl earlier ↦ subst (Good e) (sym (get_or-append xs (x ∷ []) default e earlier)) (each e default earlier)
  | inr not_earlier ↦
      let last : length xs ≡ e = omega (arith, less, not_earlier, length_push xs x) in
      subst (λ n. Good n (get_or (xs ++ x ∷ []) n default)) last (subst (Good (length xs)) (sym (get_or-append_seam xs x [] default)) here)
]

-- where the first epochs end, by their plans
pub cut_at : (files : Files) (first : List PartEnd) (plans : List Plan) → ArePlansOf files plans → (e : ℕ) → e ≤ length plans → AreEndsAt files first e (cut_of first plans e)
cut_at files first plans spelled zero less = at_start refl refl
cut_at files first plans spelled (suc e) less =
    at_plan e (get_or plans e (no_plan first)) (omega arith) (spelled e (no_plan first) (omega (arith, less))) refl

pub planned_to : (files : Files) (first : List PartEnd) (plans : List Plan) (e : ℕ) → length plans ≡ e → ArePlanned files first plans → ArePlannedTo files first e (last_ends first plans)
planned_to files first plans e count planned =
    let P : ℕ → Type 0 = λ n. ArePlannedTo files first n (last_ends first plans) in
    subst P count (record { good = planned.good; end = cut_at files first plans planned.spelled (length plans) (omega arith) })

pub none_planned : (files : Files) (first : List PartEnd) → ArePlanned files first []
none_planned files first = record { good = λ f less. absurd (omega (arith, less)); spelled = λ e default less. absurd (omega (arith, less)) }

pub planned_next : (files : Files) (first : List PartEnd) (plans : List Plan) (e : ℕ) (p : Plan) → length plans ≡ e → ArePlanned files first plans → IsThePlan files e p
    → IsTrue (is_next (last_ends first plans) e p) → ArePlanned files first (plans ++ p ∷ [])
planned_next files first plans e p count planned is next =
    let I : ℕ → Type 0 = λ n. IsThePlan files n p in
    let T : ℕ → Type 0 = λ n. IsTrue (is_next (last_ends first plans) n p) in
    let here = subst I (sym count) is in
    let good : IsGoodPlan files first (length plans) = record { before = last_ends first plans; plan = p; after = (planned_to files first plans (length plans) refl planned).end; is = here; next = subst T (sym count) next } in
    record {
      good = λ f less. below_next (IsGoodPlan files first) (length plans) planned.good good f (omega (arith, less, length_push plans p));
      spelled = pushed (IsThePlan files) plans p planned.spelled here;
    }

-- of more plans the same one is the first that is bad
pub plans_refuse_more : (files : Files) (first : List PartEnd) (n m : ℕ) (fault : OpenFault) → n ≤ m → PlansRefuse files first n fault → PlansRefuse files first m fault
plans_refuse_more files first n m (Damaged at) less refused = (refused.0, refused.1, omega (arith, refused.2, less), refused.3)
plans_refuse_more files first n m DiskFault less refused = tt
plans_refuse_more files first n m NoMemory less refused = tt
plans_refuse_more files first n m (OtherQuery kept) less refused = refused
plans_refuse_more files first n m (OtherPartitions kept asked) less refused = refused
plans_refuse_more files first n m (OtherParts stream kept found) less refused = refused
plans_refuse_more files first n m (LogShort stream part logged found) less refused = refused

pub commit_refused : (streams : List Watermarked) (files : Files) (e n : ℕ) (fault : OpenFault) → e < n → ((f : ℕ) → f < e → IsGoodCommit streams files f) → CommitRefuses streams files e fault → CommitsRefuse streams files n fault
commit_refused streams files e n (Damaged at) less before refused = (e, refused.0, less, record { before = before; bad = refused.1 })
commit_refused streams files e n DiskFault less before refused = tt
commit_refused streams files e n NoMemory less before refused = tt
commit_refused streams files e n (OtherQuery kept) less before refused = refused
commit_refused streams files e n (OtherPartitions kept asked) less before refused = refused
commit_refused streams files e n (OtherParts stream kept found) less before refused = refused
commit_refused streams files e n (LogShort stream part logged found) less before refused = refused

-- no greatest time gives a watermark where there is none
pub no_mark : (streams : List Watermarked) → mark_by streams [] ≡ None
no_mark [] = refl
no_mark (w ∷ streams) = refl

pub none_committed : (streams : List Watermarked) (files : Files) → AreCommitted streams files 0 (None ∷ []) []
none_committed streams files = record {
  good = λ f less. absurd (omega (arith, less));
  count = refl;
  each = λ e default less. first_mark e default less;
  last = none_yet refl refl;
}
  where
    first_mark : (e : ℕ) (default : Option ℤ) → e < 1 → IsMarkAt streams files e (get_or (None ∷ []) e default)
    first_mark zero default less = record { seen = []; over = none_yet refl refl; is = sym (no_mark streams) }
    first_mark (suc e) default less = absurd (omega (arith, less))

pub committed_next : (streams : List Watermarked) (files : Files) (e : ℕ) (marks : List (Option ℤ)) (seen : List SeenBy) (c : Commit) → AreCommitted streams files e marks seen → IsTheCommit files e c
    → IsTrue (is_own streams e c) → AreCommitted streams files (e + 1) (marks ++ mark_by streams c.seen ∷ []) c.seen
committed_next streams files e marks seen c committed is own = record {
  good = below_next (IsGoodCommit streams files) e committed.good (record { commit = c; is = is; own = own });
  count = length_push marks (mark_by streams c.seen) ∙ ap (λ n. n + 1) committed.count;
  each = pushed (IsMarkAt streams files) marks (mark_by streams c.seen) committed.each (record { seen = c.seen; over = by_commit e c committed.count is refl; is = refl });
  last = by_commit e c refl is refl;
}

suc_same : (a b : ℕ) → a + 1 ≡ b + 1 → a ≡ b
suc_same a b e = omega (arith, e)

-- epochs have one greatest time
pub one_seen : (files : Files) (e : ℕ) (a b : List SeenBy) → IsSeenAt files e a → IsSeenAt files e b → a ≡ b
one_seen files e a b (none_yet first is) (none_yet first' is') = is ∙ sym is'
one_seen files e a b (none_yet first is) (by_commit last c same the has) = absurd (omega (arith, first, same))
one_seen files e a b (by_commit last c same the has) (none_yet first is) = absurd (omega (arith, first, same))
one_seen files e a b (by_commit last c same the has) (by_commit last' c' same' the' has') =
    let is : last' ≡ last = suc_same last' last (sym same' ∙ same) in
    let P : ℕ → Type 0 = λ n. IsTheCommit files n c' in
    has ∙ ap (λ (d : Commit). d.seen) ((subst P is the').only c the.spells) ∙ sym has'

-- and so one watermark
pub one_mark : (streams : List Watermarked) (files : Files) (e : ℕ) (a b : Option ℤ) → IsMarkAt streams files e a → IsMarkAt streams files e b → a ≡ b
one_mark streams files e a b one other = one.is ∙ ap (mark_by streams) (one_seen files e one.seen other.seen one.over other.over) ∙ sym other.is

-- the plan at a place has the watermark at that place
abbrev pub AreSame : List Plan → List (Option ℤ) → ℕ → Type 0
AreSame plans marks n = (e : ℕ) (p : Plan) (m : Option ℤ) → e < n → (get_or plans e p).watermark ≡ get_or marks e m

pub same_next : (plans : List Plan) (marks : List (Option ℤ)) (n : ℕ) (q : Plan) (d : Option ℤ) → n < length plans → length plans ≤ length marks → q ≡ get_or plans n q → q.watermark ≡ get_or marks n d
    → AreSame plans marks n → AreSame plans marks (n + 1)
same_next plans marks n q d within enough at is same e p m less = elim (cases_lt e n) [
  | inl earlier ↦ same e p m earlier
  | inr not_earlier ↦
      let last : n ≡ e = omega (arith, less, not_earlier) in
      let here : get_or plans n p ≡ q = get_or_default plans n p q within ∙ sym at in
      let there : get_or marks n d ≡ get_or marks n m = get_or_default marks n d m (omega (arith, within, enough)) in
      subst (λ k. (get_or plans k p).watermark ≡ get_or marks k m) last (ap (λ (r : Plan). r.watermark) here ∙ is ∙ there)
]

pub marked_below : (streams : List Watermarked) (files : Files) (plans : List Plan) (marks : List (Option ℤ)) (n : ℕ) → ArePlansOf files plans → AreMarks streams files marks → n ≤ length plans → length plans ≤ length marks
    → AreSame plans marks n → (e : ℕ) → e < n → IsMarked streams files e
marked_below streams files plans marks n spelled each within enough same e less p mark is at =
    let plan = spelled e (no_plan []) (omega (arith, less, within)) in
    let here = each e None (omega (arith, less, within, enough)) in
    ap (λ (q : Plan). q.watermark) (plan.only p is.spells) ∙ same e (no_plan []) None less ∙ one_mark streams files e (get_or marks e None) mark here at

pub marked_badly : (streams : List Watermarked) (files : Files) (plans : List Plan) (marks : List (Option ℤ)) (n : ℕ) (p : Plan) (m : Option ℤ) → ArePlansOf files plans → AreMarks streams files marks → n < length plans → length plans ≤ length marks
    → AreSame plans marks n → ((get_or plans n p).watermark ≡ get_or marks n m → ⊥) → IsFirstBad (IsMarked streams files) n
marked_badly streams files plans marks n p m spelled each within enough same other = record {
  before = marked_below streams files plans marks n spelled each (omega (arith, within)) enough same;
  bad = λ right. other (right (get_or plans n p) (get_or marks n m) (spelled n p within) (each n m (omega (arith, within, enough))));
}

pub none_same : (plans : List Plan) (marks : List (Option ℤ)) → AreSame plans marks 0
none_same plans marks e p m less = absurd (omega (arith, less))

-- ---- a plan or a commit that is not as it has to be

-- a record that fails a test is no record that meets it, where the file spells it alone
pub fails : {X : Type 0} (Is : X → Type 0) (text_of : X → List ℕ) (file : Option (List ℕ)) (test : X → Bool) (x y : X) → SpellsOnly Is text_of file x → SpellsOnly Is text_of file y → test x ≡ false → IsTrue (test y) → ⊥
fails Is text_of file test x y one other not_so met = let same = ap test (one.only y other.spells) in cc

-- the epochs before one end in one place
one_end : (files : Files) (first : List PartEnd) (e : ℕ) (a b : List PartEnd) → AreEndsAt files first e a → AreEndsAt files first e b → a ≡ b
one_end files first e a b (at_start zero_is is) (at_start zero_is' is') = is ∙ sym is'
one_end files first e a b (at_start zero_is is) (at_plan last p same the is') = absurd (omega (arith, zero_is, same))
one_end files first e a b (at_plan last p same the is) (at_start zero_is is') = absurd (omega (arith, zero_is, same))
one_end files first e a b (at_plan last p same the is) (at_plan last' p' same' the' is') =
    let one : last' ≡ last = suc_same last' last (sym same' ∙ same) in
    let P : ℕ → Type 0 = λ n. IsThePlan files n p' in
    is ∙ ap (λ (q : Plan). q.ends) ((subst P one the').only p the.spells) ∙ sym is'

-- The plan of an epoch is damaged where no plan that the file spells alone is next after the epochs before.
pub plan_damaged : (files : Files) (first before : List PartEnd) (e : ℕ) → ArePlannedTo files first e before → ((p : Plan) → IsThePlan files e p → IsTrue (is_next before e p) → ⊥) → PlansRefuse files first (e + 1) (Damaged (name.Plan e))
plan_damaged files first before e planned none = (e, refl, omega arith, record { before = planned.good; bad = bad })
  where
    bad : IsGoodPlan files first e → ⊥
    bad good =
        let B : List PartEnd → Type 0 = λ ends. IsTrue (is_next ends e good.plan) in
        none good.plan good.is (subst B (one_end files first e good.before before good.after planned.end) good.next)
