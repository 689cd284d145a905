-- Plans that go on: what was said of the first of them stays said.
use Rattle.std.proofs.Common.{◌≡◌, ◌<◌, ◌≤◌, ◌+◌, ◌++◌, ◌∙◌, ◌&&◌, ℕ, zero, suc, List, [], ◌∷◌, length, get_or, All, Option, inl, inr, refl, sym, ap, subst, arith, append_assoc, add-one, take, Result, Ok, Err}
use Rattle.std.proofs.lemmas.List.{get_or_append_left, append-nil}
use Rattle.std.proofs.Math.Seq.{take-suc}
use Rattle.std.specs.Option.{ForSome}
use Rattle.ssq_time.specs.Time.{IsStampTime}
use Rattle.std.proofs.lemmas.List.Elements.{All-cons, All-nil}
use Rattle.ssq_plans.specs.declared.plan.Plan.{Plan}
use Rattle.ssq_core.specs.Course.{Ends as EndsOf, Cuts}
use Rattle.ssq_shape.specs.declared.bound.Bound.{Bound}
use Rattle.ssq_meaning.specs.Parts.{Part}
use Rattle.ssq_meaning.specs.Cut.{AreSameTo}
use Rattle.ssq_meaning.specs.Cut.{Cuts as Offsets}
use Rattle.ssq_meaning.specs.Times.{is_above}
use Rattle.ssq_meaning.specs.Laws.{SaysSame}
use Rattle.ssq_board.specs.Core.{next_ends, is_behind}
use Rattle.ssq_open.specs.Epochs.{cut_of, no_plan}
use Rattle.ssq_course.specs.Setting.{Setting, parts_in, closes, cut_of as offsets_of, cuts_of as offsets}
use Rattle.ssq_terms.specs.Laws.{due_at}
use Rattle.ssq_desk.specs.declared.told.Told.{Told}
use Rattle.ssq_drive.specs.Rounds.{AreTold, IsMore}
use Rattle.ssq_desk.specs.Closing.{lines_between}
use Rattle.ssq_runner.specs.Rounds.{Round, AreNext, AreRounds, epochs_after}
use Rattle.ssq_runner.specs.Told.{told_line, told_text}

-- where the first epochs end hangs on their plans alone
pub cut_more : (first : EndsOf) (plans more : List Plan) (e : ℕ) → e ≤ length plans → cut_of first (plans ++ more) e ≡ cut_of first plans e
cut_more first plans more zero le = refl
cut_more first plans more (suc e) le = ap (λ (p : Plan). p.ends) (get_or_append_left plans more (no_plan first) e (omega (arith, le)))

-- the law of cuts, as the crate of the meaning has it
abbrev pub CutsHang : Type 0
CutsHang = (query : Bound) (parts : List Part) (one other : Offsets) (n : ℕ) → AreSameTo one other n → SaysSame query parts parts one other n

-- whether an epoch without lines is due hangs on the cuts so far
pub due_same : CutsHang → (s : Setting) (one other : Cuts) (n : ℕ) → ((e : ℕ) → e ≤ n → other e ≡ one e) → due_at s other n ≡ due_at s one n
due_same hang s one other n same =
    let law = hang s.job.bound (parts_in s) (offsets other) (offsets one) n (λ e le. ap offsets_of (same e le)) in
    let now = law.same_watermark n (omega arith) in
    let before = law.same_watermark_before n (omega arith) in
    λ i. closes s.job.bound && is_above (now i) (before i)

-- and so does whether one more is to come
pub more_same : CutsHang → (s : Setting) (found : List ℕ) (one other : Cuts) (n : ℕ) → ((e : ℕ) → e ≤ n → other e ≡ one e) → IsMore s one found n → IsMore s other found n
more_same hang s found one other n same (inl behind) = inl (ap (λ (ends : EndsOf). is_behind ends found) (same n (omega arith)) ∙ behind)
more_same hang s found one other n same (inr due) = inr (due_same hang s one other n same ∙ due)

-- a cutting that is the same up to an epoch says the same of the rounds up to there
next_same : CutsHang → (owned : Type 0) (s : Setting) (cap : Option ℕ) (found : List ℕ) (one other : Cuts) (from to : ℕ) → ((e : ℕ) → e ≤ to → other e ≡ one e) → AreNext owned s cap found one from to → AreNext owned s cap found other from to
next_same hang owned s cap found one other from to same is = record {
  next = λ e ge less. same (e + 1) (omega (arith, less)) ∙ is.next e ge less ∙ ap (λ (ends : EndsOf). next_ends cap ends found) (sym (same e (omega (arith, less))));
  due = λ e ge less. elim (is.due e ge less) [
    | inl behind ↦ inl (ap (λ (ends : EndsOf). is_behind ends found) (same e (omega (arith, less))) ∙ behind)
    | inr last ↦ inr last
  ];
  more = λ own e ge less. more_same hang s found one other e (λ f le. same f (omega (arith, le, less))) (is.more own e ge less);
}

pub rounds_same : CutsHang → (owned : Type 0) (s : Setting) (cap : Option ℕ) (one other : Cuts) (before : ℕ) (done : List Round) (n : ℕ) → ((e : ℕ) → e ≤ n → other e ≡ one e) → epochs_after before done ≤ n → AreRounds owned s cap one before done
    → AreRounds owned s cap other before done
unfolding AreRounds
rounds_same hang owned s cap one other before [] n same within are = tt
rounds_same hang owned s cap one other before (round ∷ earlier) n same within are =
    let below : (e : ℕ) → e ≤ round.epochs → other e ≡ one e = λ e le. same e (omega (arith, le, within)) in
    let on = are.0.on in (
      record {
        on = on;
        cut = next_same hang owned s cap round.found one other (epochs_after before earlier) round.epochs below are.0.cut;
        covers = ap (λ (ends : EndsOf). is_behind ends round.found) (below round.epochs (omega arith)) ∙ are.0.covers;
        quiet = λ own. due_same hang s one other round.epochs below ∙ are.0.quiet own;
      },
      rounds_same hang owned s cap one other before earlier n same (omega (arith, on, within)) are.1,
    )

-- what is told of the first epochs stays told
pub told_more : (first : EndsOf) (plans more : List Plan) (e : ℕ) (told : List Told) → e + length told ≤ length plans → AreTold first plans e told → AreTold first (plans ++ more) e told
told_more first plans more e [] le are = tt
told_more first plans more e (t ∷ rest) le are =
    let here : e < length plans = omega (arith, le) in (
      record {
        epoch = are.0.epoch;
        lines = are.0.lines ∙ sym (ap (λ (ends : EndsOf). lines_between (offsets_of ends) (offsets_of (cut_of first (plans ++ more) (e + 1)))) (cut_more first plans more e (omega (arith, here))) ∙ ap (λ (ends : EndsOf). lines_between (offsets_of (cut_of first plans e)) (offsets_of ends)) (cut_more first plans more (e + 1) (omega (arith, here))));
        stamp = are.0.stamp;
      },
      told_more first plans more (e + 1) rest (omega (arith, le)) are.1,
    )

-- epochs that are told after others
pub told_then : (first : EndsOf) (plans : List Plan) (e : ℕ) (told more : List Told) → AreTold first plans e told → AreTold first plans (e + length told) more → AreTold first plans e (told ++ more)
told_then first plans e [] more are after = subst (λ (n : ℕ). AreTold first plans n more) (omega arith) after
told_then first plans e (t ∷ rest) more are after = (are.0, told_then first plans (e + 1) rest more are.1 (subst (λ (n : ℕ). AreTold first plans n more) (omega arith) after))

-- their lines stand after those of the others
pub text_then : (told more : List Told) → told_text (told ++ more) ≡ told_text told ++ told_text more
unfolding told_text
text_then [] more = refl
text_then (t ∷ rest) more = ap (λ (text : List ℕ). told_line t ++ text) (text_then rest more) ∙ sym (append_assoc (told_line t) (told_text rest) (told_text more))

-- the watermarks of all that is told can be printed
pub told_stamps : (first : EndsOf) (plans : List Plan) (e : ℕ) (told : List Told) → AreTold first plans e told → All (λ (t : Told). ForSome t.watermark IsStampTime) told
told_stamps first plans e [] are = All-nil (λ (t : Told). ForSome t.watermark IsStampTime)
told_stamps first plans e (t ∷ rest) are = All-cons (λ (t : Told). ForSome t.watermark IsStampTime) t rest are.0.stamp (told_stamps first plans (e + 1) rest are.1)

-- nothing is told yet
pub text_none : [] ≡ told_text []
unfolding told_text
text_none = refl

pub text_start : (old : List ℕ) → old ≡ old ++ told_text []
unfolding told_text
text_start old = sym (append-nil old)

-- and one epoch more
pub text_next : (old text : List ℕ) (told : List Told) (i : ℕ) (default : Told) → i < length told → text ≡ old ++ told_text (take i told) → text ++ told_line (get_or told i default) ≡ old ++ told_text (take (i + 1) told)
unfolding told_text
text_next old text told i default less is =
    ap (λ (l : List ℕ). l ++ told_line (get_or told i default)) is ∙ append_assoc old (told_text (take i told)) (told_line (get_or told i default))
    ∙ ap (λ (l : List ℕ). old ++ l) (ap (λ (l : List ℕ). told_text (take i told) ++ l) (sym (append-nil (told_line (get_or told i default)))) ∙ sym (text_then (take i told) (get_or told i default ∷ [])) ∙ ap told_text (sym (ap (λ (n : ℕ). take n told) (add-one i) ∙ take-suc told i default less)))

-- what failed is not done
pub never_ok : {T E : Type 0} {done : T} (why : E) → ◌≡◌ {A = Result T E} (Err why) (Ok done) → ⊥
never_ok why is = cc
