-- What logs were asked, round after round.
use Rattle.std.proofs.Common.{◌≡◌, ◌<◌, ◌≤◌, ◌+◌, ◌++◌, ◌∙◌, ◌^◌, ℕ, zero, suc, List, [], ◌∷◌, length, map, get_or, All, refl, sym, ap, subst, arith, append_assoc, ◌-◌}
use mathlib.Core.Option.{some, some-injective, some-ne-none}
use lib.ListN.{get_elem?}
use Rattle.std.proofs.lemmas.List.{append-nil, length-append}
use Rattle.std.proofs.Math.Seq.{get_or-append_seam}
use Rattle.std.proofs.lemmas.List.Elements.{All-nil, All-cons}
use Rattle.ssq_outside.specs.Logs.{Line}
use Rattle.ssq_logs.specs.Asked.{AreAsked}
use Rattle.ssq_drive.specs.Rounds.{AreReturned, IsReturned}
use Rattle.ssq_runner.specs.Rounds.{Round, BeginWith, FindMore, HaveAnswered, answers_of}

answers_count : (i : ℕ) (done : List Round) → length (answers_of i done) ≡ length done
unfolding answers_of
answers_count i [] = refl
answers_count i (round ∷ earlier) = rw (length-append, answers_count i earlier) (omega arith)

-- what stands after so many
seam_at : (i : ℕ) (skipped : List ℕ) (n : ℕ) (found : List ℕ) → length skipped ≡ i → get_or (skipped ++ n ∷ found) i 0 ≡ n
seam_at i skipped n found at = ap (λ (k : ℕ). get_or (skipped ++ n ∷ found) k 0) (sym at) ∙ get_or-append_seam skipped n found 0

-- what is no fewer than the last found is no fewer
pub find_to : (i before : ℕ) (rounds : List Round) (after more : ℕ) → FindMore i before rounds after → after ≤ more → FindMore i before rounds more
find_to i before [] after more le on = omega (arith, le, on)
find_to i before (round ∷ earlier) after more find on = (find.0, (let le = find.1 in omega (arith, le, on)))

-- rounds that go on begin as they began
pub begin_on : (found : List ℕ) (round : Round) (done : List Round) → 0 < length done → BeginWith found done → BeginWith found (round ∷ done)
begin_on found round [] some_done begin = absurd (omega (arith, some_done))
begin_on found round (later ∷ earlier) some_done begin = begin

module _ {L : Type 0} (tells : Type 0) (lines : L → List Line) (available : L → ℕ) (answers : L → List ℕ) (faults : L → ℕ) where
  -- none was asked yet
  pub none_asked : (i : ℕ) (logs : List L) → HaveAnswered tells lines available answers faults i [] logs logs
  unfolding answers_of
  none_asked i [] = tt
  none_asked i (log ∷ logs) = (record { same = λ t. refl; grown = λ t. omega arith; risen = λ t. omega arith; answered = λ t few. sym (append-nil (answers log)); within = λ t. All-nil (λ (round : Round). get_or round.found i 0 ≤ length (lines log)); counted = omega arith }, none_asked (i + 1) logs)

  -- each is asked once more
  pub asked_on : (i : ℕ) (done : List Round) (olds mids news : List L) (found : List ℕ) (skipped : List ℕ) (epochs : ℕ) → length skipped ≡ i → HaveAnswered tells lines available answers faults i done olds mids
      → AreAsked tells lines available answers faults mids news found → HaveAnswered tells lines available answers faults i (record { found = skipped ++ found; epochs = epochs } ∷ done) olds news
  unfolding answers_of
  asked_on i done [] [] [] [] skipped epochs at have ask = tt
  asked_on i done (old ∷ olds) (mid ∷ mids) (new ∷ news) (n ∷ found) skipped epochs at have ask = (
    record {
      same = λ t. ask.0.same t ∙ have.0.same t;
      grown = λ t. (let a = have.0.grown t in let b = ask.0.grown t in let c = ask.0.there t in omega (arith, a, b, c));
      risen = λ t.
          let e = seam_at i skipped n found at in (
            find_to i (available old) done (available mid) (get_or (skipped ++ n ∷ found) i 0) (have.0.risen t) (let b = ask.0.grown t in omega (arith, b, e)),
            (let c = ask.0.there t in omega (arith, c, e)),
          );
      answered = λ t few.
          let before = have.0.answered t (omega (arith, few)) in
          let short : length (answers mid) < 2 ^ 64 - 1 = subst (λ (l : List ℕ). length l < 2 ^ 64 - 1) (sym before) (rw (length-append, answers_count i done) (omega (arith, few))) in
          ask.0.told t short ∙ ap (λ (l : List ℕ). l ++ n ∷ []) before ∙ append_assoc (answers old) (answers_of i done) (n ∷ [])
          ∙ ap (λ (m : ℕ). answers old ++ (answers_of i done ++ m ∷ [])) (sym (seam_at i skipped n found at));
      within = λ t.
          All-cons (λ (round : Round). get_or round.found i 0 ≤ length (lines new)) (record { found = skipped ++ n ∷ found; epochs = epochs }) done
          (let w = ask.0.within t in let e = seam_at i skipped n found at in omega (arith, w, e))
          (subst (λ (own : List Line). All (λ (round : Round). get_or round.found i 0 ≤ length own) done) (sym (ask.0.same t)) (have.0.within t));
      counted = (let a = have.0.counted in let b = ask.0.counted in omega (arith, a, b));
    },
    subst (λ (l : List ℕ). HaveAnswered tells lines available answers faults (i + 1) (record { found = l; epochs = epochs } ∷ done) olds news) (append_assoc skipped (n ∷ []) found)
        (asked_on (i + 1) done olds mids news found (skipped ++ n ∷ []) epochs (rw (length-append) (omega (arith, at))) have.1 ask.2),
  )
  asked_on i done [] (mid ∷ mids) news found skipped epochs at have ask = absurd have
  asked_on i done (old ∷ olds) [] news found skipped epochs at have ask = absurd have
  asked_on i done [] [] (new ∷ news) found skipped epochs at have ask = absurd ask
  asked_on i done [] [] [] (n ∷ found) skipped epochs at have ask = absurd ask
  asked_on i done (old ∷ olds) (mid ∷ mids) [] found skipped epochs at have ask = absurd ask
  asked_on i done (old ∷ olds) (mid ∷ mids) (new ∷ news) [] skipped epochs at have ask = absurd ask

  -- and each came back from its round
  pub back_after : (i : ℕ) (done : List Round) (olds mids news : List L) → HaveAnswered tells lines available answers faults i done olds mids → AreReturned tells lines available answers faults mids news
      → HaveAnswered tells lines available answers faults i done olds news
  back_after i done [] [] [] have back = tt
  back_after i done (old ∷ olds) (mid ∷ mids) (new ∷ news) have back = (
    record {
      same = λ t. back.0.same t ∙ have.0.same t;
      grown = λ t. (let a = have.0.grown t in let b = back.0.grown t in omega (arith, a, b));
      risen = λ t. find_to i (available old) done (available mid) (available new) (have.0.risen t) (back.0.grown t);
      answered = λ t few. back.0.unasked t ∙ have.0.answered t few;
      within = λ t. subst (λ (own : List Line). All (λ (round : Round). get_or round.found i 0 ≤ length own) done) (sym (back.0.same t)) (have.0.within t);
      counted = (let a = have.0.counted in let b = back.0.counted in omega (arith, a, b));
    },
    back_after (i + 1) done olds mids news have.1 back.1,
  )
  back_after i done [] (mid ∷ mids) news have back = absurd have
  back_after i done (old ∷ olds) [] news have back = absurd have
  back_after i done [] [] (new ∷ news) have back = absurd back
  back_after i done (old ∷ olds) (mid ∷ mids) [] have back = absurd back

  -- the logs hold what they held
  pub same_lines : (i : ℕ) (done : List Round) (olds news : List L) → HaveAnswered tells lines available answers faults i done olds news → tells → map lines news ≡ map lines olds
  same_lines i done [] [] have t = refl
  same_lines i done (old ∷ olds) (new ∷ news) have t = ap (λ (l : List Line). l ∷ map lines news) (have.0.same t) ∙ ap (λ (ls : List (List Line)). lines old ∷ ls) (same_lines (i + 1) done olds news have.1 t)
  same_lines i done [] (new ∷ news) have t = absurd have
  same_lines i done (old ∷ olds) [] have t = absurd have

  -- the log of a part was there before
  pub answered_at : (i : ℕ) (done : List Round) (olds news : List L) → HaveAnswered tells lines available answers faults i done olds news → (k : ℕ) (new : L) → get_elem? news k ≡ some new
      → (old : L) × (get_elem? olds k ≡ some old) × (tells → (lines new ≡ lines old) × (available old ≤ available new))
  answered_at i done [] [] have zero new there = absurd (some-ne-none new (sym there))
  answered_at i done (old ∷ olds) (x ∷ news) have zero new there = (old, refl, λ t. subst (λ (own : L). (lines own ≡ lines old) × (available old ≤ available own)) (some-injective x new there) (have.0.same t, have.0.grown t))
  answered_at i done (old ∷ olds) (x ∷ news) have (suc k) new there = answered_at (i + 1) done olds news have.1 k new there
  answered_at i done [] [] have (suc k) new there = absurd (some-ne-none new (sym there))
  answered_at i done [] (new ∷ news) have k x there = absurd have
  answered_at i done (old ∷ olds) [] have k x there = absurd have

  -- there are as many
  pub returned_count : (olds news : List L) → AreReturned tells lines available answers faults olds news → length news ≡ length olds
  returned_count [] [] back = refl
  returned_count (old ∷ olds) (new ∷ news) back = ap suc (returned_count olds news back.1)
  returned_count [] (new ∷ news) back = absurd back
  returned_count (old ∷ olds) [] back = absurd back

  -- what is there of a log that came back was there, or more
  pub returned_at : (olds news : List L) → AreReturned tells lines available answers faults olds news → (i : ℕ) (new : L) → get_elem? news i ≡ some new
      → (old : L) × (get_elem? olds i ≡ some old) × IsReturned tells lines available answers faults old new
  returned_at [] [] back zero new there = absurd (some-ne-none new (sym there))
  returned_at (old ∷ olds) (x ∷ news) back zero new there = (old, refl, subst (IsReturned tells lines available answers faults old) (some-injective x new there) back.0)
  returned_at (old ∷ olds) (x ∷ news) back (suc i) new there = returned_at olds news back.1 i new there
  returned_at [] [] back (suc i) new there = absurd (some-ne-none new (sym there))
  returned_at [] (new ∷ news) back i x there = absurd back
  returned_at (old ∷ olds) [] back i x there = absurd back
