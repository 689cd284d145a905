-- How far cuts go from epoch to epoch.
use Rattle.std.proofs.Common.{◌≡◌, ◌<◌, ◌≤◌, ◌+◌, ◌∙◌, nat_lt, ℕ, zero, suc, Bool, true, false, List, [], ◌∷◌, length, get_or, sum, All, ◌*◌, Option, Some, None, true≢false, refl, sym, ap, subst, arith, inl, inr, if◌then◌else◌}
use Rattle.std.specs.Prelude.{◌⊎◌, ◌||◌, ◌==◌, nat_le, IsTrue}
use Rattle.std.specs.List.{list_all, zip}
use Rattle.std.proofs.lemmas.Bool.{ltb-true, leb-true, and_parts, cases_lt, or_parts}
use Rattle.std.proofs.lemmas.List.Sums.{sum_by-cons}
use Rattle.std.proofs.lemmas.List.Elements.{All-head, All-tail}
use Rattle.ssq_plans.specs.declared.part.PartEnd.{PartEnd}
use Rattle.ssq_course.specs.Setting.{Setting, cut_of as offsets_of}
use Rattle.ssq_terms.specs.Laws.{due_at}
use Rattle.ssq_core.specs.Course.{Ends as EndsOf, Cuts}
use Rattle.ssq_board.specs.Core.{within, next_end, next_ends, is_behind}
use Rattle.ssq_board.specs.Rounds.{HasCap}
use Rattle.ssq_board.proofs.Falls.{within_less}
use Rattle.ssq_open.specs.Epochs.{follows, keeps_up}
use Rattle.ssq_terms.proofs.Covering.{sums_within}
use Rattle.ssq_desk.proofs.Covers.{third}
use Rattle.ssq_runner.specs.Rounds.{Round, AreNext, AreRounds, epochs_after}
use Rattle.ssq_runner.proofs.Readying.{follows_count}

-- ---- one end

-- where an end goes that has more lines before it
within_from : (cap : Option ℕ) (end found : ℕ) → end < found → end ≤ within cap end found
within_from None end found less = omega (arith, less)
within_from (Some most) end found less = by (nat_lt (end + most) found)
  where
    by : (b : Bool) → end ≤ (if b then end + most else found)
    by true = omega arith
    by false = omega (arith, less)

within_to : (cap : Option ℕ) (end found : ℕ) → within cap end found ≤ found
within_to None end found = omega arith
within_to (Some most) end found = by (nat_lt (end + most) found) refl
  where
    by : (b : Bool) → nat_lt (end + most) found ≡ b → (if b then end + most else found) ≤ found
    by true is = (let l = ltb-true (end + most) found is in omega (arith, l))
    by false is = omega arith

end_from : (cap : Option ℕ) (end found : ℕ) → end ≤ next_end cap end found
end_from cap end found = by (nat_lt end found) refl
  where
    by : (b : Bool) → nat_lt end found ≡ b → end ≤ (if b then within cap end found else end)
    by true is = within_from cap end found (ltb-true end found is)
    by false is = omega arith

end_to : (cap : Option ℕ) (end found most : ℕ) → end ≤ most → found ≤ most → next_end cap end found ≤ most
end_to cap end found most one other = by (nat_lt end found)
  where
    by : (b : Bool) → (if b then within cap end found else end) ≤ most
    by true = (let w = within_to cap end found in omega (arith, w, other))
    by false = one

end_more : (cap : Option ℕ) (end found : ℕ) → HasCap cap → nat_lt end found ≡ true → end + 1 ≤ next_end cap end found
end_more cap end found has is = by (nat_lt end found) is
  where
    by : (b : Bool) → b ≡ true → end + 1 ≤ (if b then within cap end found else end)
    by true same = within_less cap end found has (ltb-true end found is)
    by false same = absurd (let f : false ≡ true = same in cc)

-- ---- all ends

-- none falls
pub next_from : (cap : Option ℕ) (ends : EndsOf) (found : List ℕ) (i : ℕ) → get_or (offsets_of ends) i 0 ≤ get_or (offsets_of (next_ends cap ends found)) i 0
next_from cap [] found i = omega arith
next_from cap (end ∷ ends) [] zero = omega arith
next_from cap (end ∷ ends) [] (suc i) = next_from cap ends [] i
next_from cap (end ∷ ends) (n ∷ found) zero = end_from cap end.end n
next_from cap (end ∷ ends) (n ∷ found) (suc i) = next_from cap ends found i

-- there are as many
pub next_count : (cap : Option ℕ) (ends : EndsOf) (found : List ℕ) → length (next_ends cap ends found) ≡ length ends
next_count cap [] found = refl
next_count cap (end ∷ ends) [] = ap suc (next_count cap ends [])
next_count cap (end ∷ ends) (n ∷ found) = ap suc (next_count cap ends found)

-- none passes what neither it nor what was found passes
pub next_to : (cap : Option ℕ) (ends : EndsOf) (found : List ℕ) (most : ℕ → ℕ) → ((i : ℕ) → get_or (offsets_of ends) i 0 ≤ most i) → ((i : ℕ) → i < length ends → get_or found i 0 ≤ most i)
    → (i : ℕ) → get_or (offsets_of (next_ends cap ends found)) i 0 ≤ most i
next_to cap [] found most one other i = one i
next_to cap (end ∷ ends) [] most one other zero = one 0
next_to cap (end ∷ ends) [] most one other (suc i) = next_to cap ends [] (λ k. most (suc k)) (λ k. one (suc k)) (λ k less. omega arith) i
next_to cap (end ∷ ends) (n ∷ found) most one other zero = end_to cap end.end n (most 0) (one 0) (other 0 (omega arith))
next_to cap (end ∷ ends) (n ∷ found) most one other (suc i) = next_to cap ends found (λ k. most (suc k)) (λ k. one (suc k)) (λ k less. other (suc k) (omega (arith, less))) i

-- where some part has more lines, the next cut covers more
pub next_more : (cap : Option ℕ) (ends : EndsOf) (found : List ℕ) → HasCap cap → is_behind ends found ≡ true → sum (offsets_of ends) + 1 ≤ sum (offsets_of (next_ends cap ends found))
next_more cap [] found has is = absurd (let f : false ≡ true = is in cc)
next_more cap (end ∷ ends) [] has is = absurd (let f : false ≡ true = is in cc)
next_more cap (end ∷ ends) (n ∷ found) has is = by (nat_lt end.end n) refl is (next_more cap ends found has)
  where
    old : sum (offsets_of (end ∷ ends)) ≡ end.end + sum (offsets_of ends)
    old = sum_by-cons (λ m. m) end.end (offsets_of ends)

    new : sum (offsets_of (next_ends cap (end ∷ ends) (n ∷ found))) ≡ next_end cap end.end n + sum (offsets_of (next_ends cap ends found))
    new = sum_by-cons (λ m. m) (next_end cap end.end n) (offsets_of (next_ends cap ends found))

    by : (b : Bool) → nat_lt end.end n ≡ b → (b || is_behind ends found) ≡ true → (is_behind ends found ≡ true → sum (offsets_of ends) + 1 ≤ sum (offsets_of (next_ends cap ends found)))
        → sum (offsets_of (end ∷ ends)) + 1 ≤ sum (offsets_of (next_ends cap (end ∷ ends) (n ∷ found)))
    by true less behind rest = (let h = end_more cap end.end n has less in let r = sums_within (offsets_of ends) (offsets_of (next_ends cap ends found)) (next_from cap ends found) in omega (arith, old, new, h, r))
    by false less behind rest = (let h = end_from cap end.end n in let r = rest behind in omega (arith, old, new, h, r))

-- ---- plans that follow

ends_keep : (before ends : List PartEnd) → length before ≡ length ends → list_all keeps_up (zip before ends) ≡ true → (i : ℕ) → get_or (offsets_of before) i 0 ≤ get_or (offsets_of ends) i 0
ends_keep [] ends same is i = omega arith
ends_keep (b ∷ before) [] same is i = absurd (omega (arith, same))
ends_keep (b ∷ before) (e ∷ ends) same is zero =
    let both = and_parts (keeps_up (b, e)) (list_all keeps_up (zip before ends)) is in
    leb-true b.end e.end (third (b.stream == e.stream) (b.part == e.part) (nat_le b.end e.end) both.0)
ends_keep (b ∷ before) (e ∷ ends) same is (suc i) = ends_keep before ends (omega (arith, same)) (and_parts (keeps_up (b, e)) (list_all keeps_up (zip before ends)) is).1 i

pub follow_from : (before ends : List PartEnd) → IsTrue (follows before ends) → (i : ℕ) → get_or (offsets_of before) i 0 ≤ get_or (offsets_of ends) i 0
follow_from before ends is i =
    ends_keep before ends (follows_count before ends is) (and_parts (length before == length ends) (list_all keeps_up (zip before ends)) is).1 i

-- ---- rounds

-- no round found more of a part than this
abbrev pub FoundWithin : (count : ℕ) → (most : List ℕ) → List Round → Type 0
FoundWithin count most rounds = (i : ℕ) → i < count → All (λ (round : Round). get_or round.found i 0 ≤ get_or most i 0) rounds

-- where no part has more lines, the next cut is the same
end_still : (cap : Option ℕ) (end found : ℕ) → nat_lt end found ≡ false → next_end cap end found ≡ end
end_still cap end found is = by (nat_lt end found) is
  where
    by : (b : Bool) → b ≡ false → (if b then within cap end found else end) ≡ end
    by true never = absurd (true≢false never)
    by false never = refl

pub next_still : (cap : Option ℕ) (ends : EndsOf) (found : List ℕ) → is_behind ends found ≡ false → next_ends cap ends found ≡ ends
next_still cap [] found is = refl
next_still cap (end ∷ ends) [] is = ap (λ (rest : EndsOf). end ∷ rest) (next_still cap ends [] (none_behind ends))
  where
    none_behind : (ends : EndsOf) → is_behind ends [] ≡ false
    none_behind [] = refl
    none_behind (end ∷ ends) = refl
next_still cap (end ∷ ends) (n ∷ found) is =
    let both = or_parts (nat_lt end.end n) (is_behind ends found) is in
    let here = end_still cap end.end n both.0 in
    let rest = next_still cap ends found both.1 in
    λ i. record { stream = end.stream; part = end.part; end = here i } ∷ rest i

-- An epoch was cut by what some round found, and was to come: some part had more lines, or one without lines was due.
pub record IsStep (cap : Option ℕ) (cuts : Cuts) (due : ℕ → Bool) (count : ℕ) (most : List ℕ) (e : ℕ) : Type 0 where
  pub found : List ℕ
  pub next : cuts (e + 1) ≡ next_ends cap (cuts e) found
  pub more : (is_behind (cuts e) found ≡ true) ⊎ (due e ≡ true)
  pub few : (i : ℕ) → i < count → get_or found i 0 ≤ get_or most i 0

earlier_few : (count : ℕ) (most : List ℕ) (round : Round) (earlier : List Round) → FoundWithin count most (round ∷ earlier) → FoundWithin count most earlier
earlier_few count most round earlier few i at = All-tail (λ (r : Round). get_or r.found i 0 ≤ get_or most i 0) round earlier (few i at)

module _ (owned : Type 0) (own : owned) (s : Setting) (cap : Option ℕ) (cuts : Cuts) (count : ℕ) (most : List ℕ) where
  step_of : (round : Round) (earlier : List Round) (from to : ℕ) → FoundWithin count most (round ∷ earlier) → AreNext owned s cap round.found cuts from to → (e : ℕ) → from ≤ e → e < to → IsStep cap cuts (due_at s cuts) count most e
  step_of round earlier from to few is e ge less = record {
    found = round.found;
    next = is.next e ge less;
    more = is.more own e ge less;
    few = λ i at. All-head (λ (r : Round). get_or r.found i 0 ≤ get_or most i 0) round earlier (few i at);
  }

  steps_of : (before : ℕ) (done : List Round) → FoundWithin count most done → AreRounds owned s cap cuts before done → (e : ℕ) → before ≤ e → e < epochs_after before done → IsStep cap cuts (due_at s cuts) count most e
  unfolding AreRounds
  steps_of before [] few are e ge less = absurd (omega (arith, ge, less))
  steps_of before (round ∷ earlier) few are e ge less = elim (cases_lt e (epochs_after before earlier)) [
    | inl early ↦ steps_of before earlier (earlier_few count most round earlier few) are.1 e ge early
    | inr late ↦ step_of round earlier (epochs_after before earlier) round.epochs few are.0.cut e late less
  ]

  -- by rounds that are over, and one more that cut so far
  pub rounds_step : (found : List ℕ) (from to epochs : ℕ) (done : List Round) → FoundWithin count most (record { found = found; epochs = epochs } ∷ done) → AreRounds owned s cap cuts from done → AreNext owned s cap found cuts (epochs_after from done) to
      → (e : ℕ) → from ≤ e → e < to → IsStep cap cuts (due_at s cuts) count most e
  rounds_step found from to epochs done few are next e ge less = elim (cases_lt e (epochs_after from done)) [
    | inl early ↦ steps_of from done (earlier_few count most (record { found = found; epochs = epochs }) done few) are e ge early
    | inr late ↦ step_of (record { found = found; epochs = epochs }) done (epochs_after from done) to few next e late less
  ]

-- one more epoch without lines may come where none is due yet
abbrev pub free : Bool → ℕ
free true = 0
free false = 1

pub free_few : (b : Bool) → free b ≤ 1
free_few true = omega arith
free_few false = omega arith

-- How far the cuts have come at an epoch, from a first one on: no end fell, and none passed the most. Where none is ever due without lines each epoch
-- covers a line more; and else each but the first has one before it that does.
pub record HasGrown (cuts : Cuts) (due : ℕ → Bool) (most : List ℕ) (from e : ℕ) : Type 0 where
  pub count : length (cuts e) ≡ length (cuts from)
  pub above : (i : ℕ) → get_or (offsets_of (cuts from)) i 0 ≤ get_or (offsets_of (cuts e)) i 0
  pub below : (i : ℕ) → get_or (offsets_of (cuts e)) i 0 ≤ get_or most i 0
  pub lines : ((n : ℕ) → due n ≡ false) → sum (offsets_of (cuts from)) + e ≤ sum (offsets_of (cuts e)) + from
  pub more : 2 * sum (offsets_of (cuts from)) + e ≤ 2 * sum (offsets_of (cuts e)) + from + free (due e)

module _ (cap : Option ℕ) (has : HasCap cap) (cuts : Cuts) (due : ℕ → Bool) (quiet : (e : ℕ) → cuts (e + 1) ≡ cuts e → due (e + 1) ≡ false) (most : List ℕ) (from to : ℕ)
    (first : (i : ℕ) → get_or (offsets_of (cuts from)) i 0 ≤ get_or most i 0) (steps : (e : ℕ) → from ≤ e → e < to → IsStep cap cuts due (length (cuts from)) most e) where
  -- an epoch covers a line more; or it has none, was due, and after it none is
  covers : (e : ℕ) → IsStep cap cuts due (length (cuts from)) most e
      → (sum (offsets_of (cuts e)) + 1 ≤ sum (offsets_of (cuts (e + 1)))) ⊎ ((sum (offsets_of (cuts (e + 1))) ≡ sum (offsets_of (cuts e))) × (due e ≡ true) × (due (e + 1) ≡ false))
  covers e step = by (is_behind (cuts e) step.found) refl
    where
      was_due : is_behind (cuts e) step.found ≡ false → due e ≡ true
      was_due none = elim step.more [
        | inl behind ↦ absurd (true≢false (sym behind ∙ none))
        | inr due ↦ due
      ]

      by : (b : Bool) → is_behind (cuts e) step.found ≡ b
          → (sum (offsets_of (cuts e)) + 1 ≤ sum (offsets_of (cuts (e + 1)))) ⊎ ((sum (offsets_of (cuts (e + 1))) ≡ sum (offsets_of (cuts e))) × (due e ≡ true) × (due (e + 1) ≡ false))
      by true behind = inl (let n = next_more cap (cuts e) step.found has behind in let s = ap (λ (ends : EndsOf). sum (offsets_of ends)) step.next in omega (arith, n, s))
      by false none =
          let same : cuts (e + 1) ≡ cuts e = step.next ∙ next_still cap (cuts e) step.found none in
          inr (ap (λ (ends : EndsOf). sum (offsets_of ends)) same, was_due none, quiet e same)

  one_more : (e : ℕ) → from ≤ e → e < to → HasGrown cuts due most from e → HasGrown cuts due most from (e + 1)
  one_more e ge less so =
      let step = steps e ge less in
      let few : (i : ℕ) → i < length (cuts e) → get_or step.found i 0 ≤ get_or most i 0 = λ i at. step.few i (let c = so.count in omega (arith, c, at)) in
      let goes = covers e step in
      record {
        count = ap length step.next ∙ next_count cap (cuts e) step.found ∙ so.count;
        above = λ i. (let a = so.above i in let n = next_from cap (cuts e) step.found i in let s = ap (λ (ends : EndsOf). get_or (offsets_of ends) i 0) step.next in omega (arith, a, n, s));
        below = λ i. (let n = next_to cap (cuts e) step.found (λ k. get_or most k 0) so.below few i in let s = ap (λ (ends : EndsOf). get_or (offsets_of ends) i 0) step.next in omega (arith, n, s));
        lines = λ never. elim goes [
          | inl grew ↦ (let m = so.lines never in omega (arith, m, grew))
          | inr still ↦ absurd (true≢false (sym still.1 ∙ never e))
        ];
        more = elim goes [
          | inl grew ↦ (let m = so.more in let f = free_few (due e) in omega (arith, m, grew, f))
          | inr still ↦ (let m = so.more in let a = ap free still.1 in let b = ap free still.2 in let s = still.0 in omega (arith, m, a, b, s))
        ];
      }

  grown_by : (n : ℕ) → from + n ≤ to → HasGrown cuts due most from (from + n)
  grown_by zero le = subst (HasGrown cuts due most from) (let e : from ≡ from + 0 = omega arith in e) (record { count = refl; above = λ i. omega arith; below = first; lines = λ never. omega arith; more = omega arith })
  grown_by (suc n) le =
      subst (HasGrown cuts due most from) (let e : from + n + 1 ≡ from + suc n = omega arith in e) (one_more (from + n) (omega arith) (omega (arith, le)) (grown_by n (omega (arith, le))))

  pub grown : (e : ℕ) (n : ℕ) → e ≡ from + n → e ≤ to → HasGrown cuts due most from e
  grown e n is le = subst (HasGrown cuts due most from) (sym is) (grown_by n (omega (arith, is, le)))
