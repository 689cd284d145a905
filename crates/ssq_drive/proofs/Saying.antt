-- What is told of the epochs of a round, by its plans.
use Rattle.std.proofs.Common.{◌≡◌, ◌≤◌, ◌+◌, ◌<◌, ℕ, suc, false, List, [], ◌∷◌, length, map, All, sym, refl, ap, ◌∙◌, subst, arith}
use Rattle.std.proofs.lemmas.List.Elements.{All-nil, All-cons}
use mathlib.Core.Option.{some}
use lib.ListN.{get_elem?}
use Rattle.ssq_meaning.specs.Epochs.{fault, fault_between, out}
use Rattle.ssq_meaning.proofs.Causal.{says_same}
use Rattle.ssq_plans.specs.declared.plan.Plan.{Plan}
use Rattle.ssq_core.specs.Course.{Cuts, Ends}
use Rattle.ssq_course.specs.Setting.{Setting, parts_in, watermark_at, is_faulty_at}
use Rattle.ssq_course.specs.Setting.{cut_of as offsets_of, cuts_of as offsets}
use Rattle.ssq_course.proofs.Causal.{none_of}
use Rattle.ssq_open.specs.Epochs.{cut_of}
use Rattle.ssq_board.specs.Told.{AreFrom}
use Rattle.ssq_desk.specs.declared.told.Told.{Told}
use Rattle.ssq_desk.specs.Closing.{IsToldOf, lines_between}
use Rattle.ssq_drive.specs.Good.{HasGoodLines}
use Rattle.ssq_drive.specs.Rounds.{AreTold, IsMeant}

module _ (owned : Type 0) (s : Setting) (cuts : Cuts) where
  -- each of these epochs, from one on, is told so
  abbrev pub TellsEach : ℕ → List Told → Type 0
  TellsEach e told = (i : ℕ) (t : Told) → get_elem? told i ≡ some t → IsToldOf owned s cuts (e + i) t

  later : (t : Told) (rest : List Told) (e : ℕ) → TellsEach e (t ∷ rest) → TellsEach (e + 1) rest
  later t rest e each i x at = subst (λ (n : ℕ). IsToldOf owned s cuts n x) (let q : e + suc i ≡ e + 1 + i = omega arith in q) (each (suc i) x at)

  here : (t : Told) (rest : List Told) (e : ℕ) → TellsEach e (t ∷ rest) → IsToldOf owned s cuts e t
  here t rest e each = subst (λ (n : ℕ). IsToldOf owned s cuts n t) (let q : e + 0 ≡ e = omega arith in q) (each 0 t refl)

  -- one after another
  pub told_from : (told : List Told) (e : ℕ) → TellsEach e told → AreFrom e (map (λ (t : Told). t.epoch) told)
  told_from [] e each = tt
  told_from (t ∷ rest) e each = ((here t rest e each).number, told_from rest (e + 1) (later t rest e each))

  module _ (first : Ends) (plans : List Plan) (planned : ℕ) (are : (e : ℕ) → e ≤ planned → cut_of first plans e ≡ cuts e) where
    pub told_are : (told : List Told) (e : ℕ) → TellsEach e told → e + length told ≤ planned → AreTold first plans e told
    told_are [] e each le = tt
    told_are (t ∷ rest) e each le =
        let own = here t rest e each in
        let from = are e (omega (arith, le)) in
        let to = are (e + 1) (omega (arith, le)) in
        (record { epoch = own.number; lines = own.lines_are ∙ (λ i. lines_between (offsets_of (sym from i)) (offsets_of (sym to i))); stamp = own.printed }, told_are rest (e + 1) (later t rest e each) (omega (arith, le)))

    -- and no line of theirs is a fault
    pub told_good : (begin committed : ℕ) → committed ≤ planned → ((e : ℕ) → begin ≤ e → e < committed → HasGoodLines s cuts e) → (told : List Told) (e : ℕ) → TellsEach e told → begin ≤ e → e + length told ≤ committed
        → All (λ (t : Told). HasGoodLines s (cut_of first plans) t.epoch) told
    told_good begin committed few good [] e each ge le = All-nil (λ (t : Told). HasGoodLines s (cut_of first plans) t.epoch)
    told_good begin committed few good (t ∷ rest) e each ge le =
        let own = here t rest e each in
        let at : HasGoodLines s (cut_of first plans) e =
        ap (λ (ends : Ends). fault_between s.job.bound (parts_in s) (offsets_of ends) (offsets_of (cut_of first plans (e + 1)))) (are e (omega (arith, le, few)))
        ∙ ap (λ (ends : Ends). fault_between s.job.bound (parts_in s) (offsets_of (cuts e)) (offsets_of ends)) (are (e + 1) (omega (arith, le, few))) ∙ good e ge (omega (arith, le)) in
        All-cons (λ (t : Told). HasGoodLines s (cut_of first plans) t.epoch) t rest (subst (HasGoodLines s (cut_of first plans)) (sym own.number) at)
        (told_good begin committed few good rest (e + 1) (later t rest e each) (omega (arith, ge)) (omega (arith, le)))

    -- where what was opened is the job's own, with the watermarks and the rows of the meaning, and none has a fault
    pub told_meant : (committed : ℕ) → committed ≤ planned → ((e : ℕ) → e < committed → is_faulty_at s cuts e ≡ false) → owned → (told : List Told) (e : ℕ) → TellsEach e told → e + length told ≤ committed → All (IsMeant s (cut_of first plans)) told
    told_meant committed few good o [] e each le = All-nil (IsMeant s (cut_of first plans))
    told_meant committed few good o (t ∷ rest) e each le =
        let own = here t rest e each in
        let law = says_same s.job.bound (parts_in s) (offsets cuts) (offsets (cut_of first plans)) planned (λ k below. ap offsets_of (sym (are k below))) in
        let number : e ≡ t.epoch = sym own.number in
        All-cons (IsMeant s (cut_of first plans)) t rest
        (record {
          faultless = sym (law.same_fault t.epoch (omega (arith, le, few, number))) ∙ none_of (fault s.job.bound (parts_in s) (offsets cuts) t.epoch) (good t.epoch (omega (arith, le, number)));
          watermark = own.watermark_is o ∙ ap (watermark_at s cuts) number ∙ law.same_watermark t.epoch (omega (arith, le, few, number));
          rows = own.rows_are o ∙ ap (λ (n : ℕ). length (out s.job.bound (parts_in s) (offsets cuts) n)) number ∙ ap length (law.same_out t.epoch (omega (arith, le, few, number)));
        })
        (told_meant committed few good o rest (e + 1) (later t rest e each) (omega (arith, le)))

-- as many numbers from one on are the same
pub same_from : (e : ℕ) (one other : List ℕ) → AreFrom e one → AreFrom e other → length one ≡ length other → one ≡ other
same_from e [] [] a b count = refl
same_from e [] (y ∷ ys) a b count = absurd (omega (arith, count))
same_from e (x ∷ xs) [] a b count = absurd (omega (arith, count))
same_from e (x ∷ xs) (y ∷ ys) a b count = (let head = a.0 ∙ sym b.0 in let rest = same_from (e + 1) xs ys a.1 b.1 (omega (arith, count)) in λ i. head i ∷ rest i)
