-- What is told of epochs.
use Rattle.std.proofs.Common.{◌≡◌, ◌<◌, ◌≤◌, ◌+◌, ◌-◌, ◌++◌, [], ◌∷◌, ℕ, zero, suc, List, length, length-append, take, get_or, refl, sym, ap, ◌∙◌, subst, arith}
use Rattle.std.specs.List.{sum}
use Rattle.std.proofs.lemmas.List.Sums.{sum_by-cons}
use mathlib.Core.Option.{some, some-injective, some-ne-none}
use lib.ListN.{get_elem?}
use Rattle.ssq_meaning.specs.Cut.{Cut}
use Rattle.ssq_meaning.proofs.Causal.{says_same}
use Rattle.ssq_core.specs.Course.{Cuts, AreSameUpTo}
use Rattle.ssq_course.specs.Setting.{Setting, parts_in, cut_of, cuts_of}
use Rattle.ssq_board.proofs.Lists.{at_length}
use Rattle.ssq_desk.specs.declared.told.Told.{Told}
use Rattle.ssq_desk.specs.Closing.{IsToldOf, AreTold, lines_between}

-- what is told of an epoch hangs on the cuts up to its end
one_stays : (owned : Type 0) (s : Setting) (cuts other : Cuts) (n e : ℕ) (told : Told) → e + 1 ≤ n → AreSameUpTo cuts other n → IsToldOf owned s cuts e told → IsToldOf owned s other e told
one_stays owned s cuts other n e told le same is =
    let says = says_same s.job.bound (parts_in s) (cuts_of cuts) (cuts_of other) n (λ k below. ap cut_of (same k below)) in record {
      number = is.number;
      lines_are = is.lines_are ∙ (let from = same e (omega (arith, le)) in let to = same (e + 1) le in λ i. lines_between (cut_of (from i)) (cut_of (to i)));
      printed = is.printed;
      watermark_is = λ t. is.watermark_is t ∙ says.same_watermark e (omega (arith, le));
      rows_are = λ t. is.rows_are t ∙ ap length (says.same_out e (omega (arith, le)));
    }

pub told_stay : (owned : Type 0) (s : Setting) (cuts other : Cuts) (n first next : ℕ) (told : List Told) → next ≤ n → AreSameUpTo cuts other n → AreTold owned s cuts first next told → AreTold owned s other first next told
told_stay owned s cuts other n first next told le same are = record {
  count = are.count;
  each = λ i t here. one_stays owned s cuts other n (first + i) t (let less = at_length told i t here in let count = are.count in omega (arith, le, less, count)) same (are.each i t here);
}

at_more : {A : Type 0} (P : ℕ → A → Type 0) (l : List A) (a : A) → ((i : ℕ) (x : A) → get_elem? l i ≡ some x → P i x) → P (length l) a → (i : ℕ) (x : A) → get_elem? (l ++ a ∷ []) i ≡ some x → P i x
at_more P [] a each last zero x here = subst (λ y. P 0 y) (some-injective a x here) last
at_more P [] a each last (suc i) x here = absurd (some-ne-none x (sym here))
at_more P (y ∷ l) a each last zero x here = each zero x here
at_more P (y ∷ l) a each last (suc i) x here = at_more (λ j z. P (suc j) z) l a (λ j z there. each (suc j) z there) last i x here

-- one more epoch is told
pub told_more : (owned : Type 0) (s : Setting) (cuts : Cuts) (first next : ℕ) (told : List Told) (t : Told) → AreTold owned s cuts first next told → IsToldOf owned s cuts next t → AreTold owned s cuts first (next + 1) (told ++ t ∷ [])
told_more owned s cuts first next told t are is = record {
  count = (let a = length-append told (t ∷ []) in let b = are.count in omega arith);
  each = at_more (λ i x. IsToldOf owned s cuts (first + i) x) told t are.each (subst (λ (e : ℕ). IsToldOf owned s cuts e t) (sym are.count) is);
}

at_fewer : {A : Type 0} (P : ℕ → A → Type 0) (l : List A) (n : ℕ) → ((i : ℕ) (x : A) → get_elem? l i ≡ some x → P i x) → (i : ℕ) (x : A) → get_elem? (take n l) i ≡ some x → P i x
at_fewer P l zero each i x here = absurd (some-ne-none x (sym here))
at_fewer P [] (suc n) each i x here = absurd (some-ne-none x (sym here))
at_fewer P (y ∷ l) (suc n) each zero x here = each zero x here
at_fewer P (y ∷ l) (suc n) each (suc i) x here = at_fewer (λ j z. P (suc j) z) l n (λ j z there. each (suc j) z there) i x here

take_count : {A : Type 0} (l : List A) (n : ℕ) → n ≤ length l → length (take n l) ≡ n
take_count l zero le = refl
take_count [] (suc n) le = absurd (omega (arith, le))
take_count (y ∷ l) (suc n) le = ap suc (take_count l n (omega (arith, le)))

-- all but the last
pub told_less : (owned : Type 0) (s : Setting) (cuts : Cuts) (first next : ℕ) (told : List Told) → first < next → AreTold owned s cuts first next told → AreTold owned s cuts first (next - 1) (take (length told - 1) told)
told_less owned s cuts first next told less are = record {
  count = (let count = are.count in let taken = take_count told (length told - 1) (omega arith) in omega (arith, count, taken, less));
  each = at_fewer (λ i x. IsToldOf owned s cuts (first + i) x) told (length told - 1) are.each;
}

-- ---- how many lines an epoch has

pub between_most : (froms tos : Cut) → lines_between froms tos ≤ sum tos
between_most [] tos = omega arith
between_most (from ∷ froms) [] = omega arith
between_most (from ∷ froms) (to ∷ tos) = (let rest = between_most froms tos in let all = sum_by-cons (λ (n : ℕ). n) to tos in omega (arith, rest, all))

pub sum_most : (xs ys : List ℕ) → length xs ≡ length ys → ((i : ℕ) → get_or xs i 0 ≤ get_or ys i 0) → sum xs ≤ sum ys
sum_most [] ys count each = omega arith
sum_most (x ∷ xs) [] count each = absurd (omega (arith, count))
sum_most (x ∷ xs) (y ∷ ys) count each =
    let rest = sum_most xs ys (omega (arith, count)) (λ i. each (suc i)) in
    let here = each zero in
    let one = sum_by-cons (λ (n : ℕ). n) x xs in
    let other = sum_by-cons (λ (n : ℕ). n) y ys in omega (arith, rest, here, one, other)
