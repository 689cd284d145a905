-- Numbers that are too great for a span.
use Rattle.std.proofs.Common.{Bool, if◌then◌else◌, ◌≡◌, ℕ, ◌+◌, ◌*◌, ◌<◌, ◌≤◌, sym, refl, inl, inr, arith, true, false, Option, Some, None, List, [], ◌∷◌, length, drop, get_or, nat_le, add-one, drop-cons}
use Rattle.std.proofs.lemmas.Bool.Decides.{nat_tests}
use Rattle.std.proofs.lemmas.Option.{option_and_then_some}
use Rattle.std.proofs.lemmas.Bool.{cases_order}
use Rattle.std.proofs.lemmas.List.{drop_all}
use Rattle.std.proofs.Math.Nat.{mul-le-mul_left}
use Rattle.ssq_time.specs.Time.{digit_of, digits_after, unit_of, span_from, span_with, at_most_longest}
use Rattle.ssq_time.proofs.Steps.{some_same, none_some}

-- further digits make no number less
digits_after_ge : (n : ℕ) (text : List ℕ) (m : ℕ) → digits_after n text ≡ Some m → n ≤ m
unfolding digits_after
digits_after_ge n [] m e = let same : n ≡ m = some_same n m e in omega arith
digits_after_ge n (byte ∷ rest) m e =
    option_and_then_some _ (digit_of byte) m e (λ digit ed e1. omega (arith, digits_after_ge (10 * n + digit) rest m e1))

pub too_great : (n : ℕ) → 31_622_400 < n → at_most_longest (Some n) ≡ None
unfolding at_most_longest
too_great n h = let test : nat_le n 31_622_400 ≡ false = grind (arith, nat_tests) in rw test

pub small_enough : (n : ℕ) → n ≤ 31_622_400 → at_most_longest (Some n) ≡ Some n
unfolding at_most_longest
small_enough n h = let test : nat_le n 31_622_400 ≡ true = grind (arith, nat_tests) in rw test

pub none_longest : at_most_longest None ≡ None
unfolding at_most_longest
none_longest = refl

none_above : (o : Option ℕ) → ((n : ℕ) → o ≡ Some n → 31_622_400 < n) → at_most_longest o ≡ None
none_above None h = none_longest
none_above (Some n) h = too_great n (h n refl)

-- a number that is too great already stays so
pub too_great_after : (n : ℕ) (text : List ℕ) → 31_622_400 < n → at_most_longest (digits_after n text) ≡ None
too_great_after n text h = none_above (digits_after n text) (λ m e. omega (arith, digits_after_ge n text m e))

at_least_one : (b : Bool) (k : ℕ) (o : Option ℕ) (n : ℕ) → 1 ≤ k → (o ≡ Some n → 1 ≤ n) → (if b then Some k else o) ≡ Some n → 1 ≤ n
at_least_one true k o n h other e = omega (arith, some_same k n e)
at_least_one false k o n h other e = other e

unit_at_least : (word : List ℕ) (seconds : ℕ) → unit_of word ≡ Some seconds → 1 ≤ seconds
unfolding unit_of
unit_at_least word n =
    at_least_one _ 1 _ n (omega arith) (at_least_one _ 60 _ n (omega arith)
    (at_least_one _ 3600 _ n (omega arith) (at_least_one _ 86400 None n (omega arith) (λ e. absurd (none_some n e)))))

too_long : (n : ℕ) → 31_622_400 < n → span_from n ≡ None
unfolding span_from
too_long n h = let test : nat_le n 31_622_400 ≡ false = grind (arith, nat_tests) in grind (arith, nat_tests)

span_with-None : (unit : Option ℕ) → span_with None unit ≡ None
unfolding span_with
span_with-None unit = refl

none_with : (n : ℕ) (unit : Option ℕ) → ((seconds : ℕ) → unit ≡ Some seconds → 1 ≤ seconds) → 31_622_400 < n → span_with (Some n) unit ≡ None
unfolding span_with
none_with n None one h = refl
none_with n (Some seconds) one h =
    too_long (n * seconds) (omega (arith, mul-le-mul_left n (one seconds refl)))

-- a span of too great a number is none, whatever its unit
pub span_with_longest : (number : Option ℕ) (word : List ℕ) → span_with (at_most_longest number) (unit_of word) ≡ span_with number (unit_of word)
span_with_longest None word = rw none_longest
span_with_longest (Some n) word =
    elim (cases_order n 31_622_400) [
      | inl same ↦ rw (small_enough n (omega arith))
      | inr (inl less) ↦ rw (small_enough n (omega arith))
      | inr (inr more) ↦ rw (too_great n more, span_with-None (unit_of word)) (sym (none_with n (unit_of word) (unit_at_least word) more))
    ]

-- one digit more, and a byte that is no digit
pub digits_after-digit : (n at digit : ℕ) (text : List ℕ) → at < length text → digit_of (get_or text at 0) ≡ Some digit → digits_after n (drop at text) ≡ digits_after (10 * n + digit) (drop (at + 1) text)
unfolding digits_after
digits_after-digit n at digit text h e = rw (add-one, drop-cons text at 0, e)

pub digits_after-other : (n at : ℕ) (text : List ℕ) → at < length text → digit_of (get_or text at 0) ≡ None → digits_after n (drop at text) ≡ None
unfolding digits_after
digits_after-other n at text h e = rw (drop-cons text at 0, e)

pub digits_after-end : (n at : ℕ) (text : List ℕ) → length text ≤ at → digits_after n (drop at text) ≡ Some n
unfolding digits_after
digits_after-end n at text h = rw (drop_all at text h)

pub too_great_digit : (n at digit : ℕ) (text : List ℕ) → at < length text → digit_of (get_or text at 0) ≡ Some digit → 31_622_400 < 10 * n + digit → at_most_longest (digits_after n (drop at text)) ≡ None
too_great_digit n at digit text h e great =
    rw (digits_after-digit n at digit text h e) (too_great_after (10 * n + digit) (drop (at + 1) text) great)

pub ruleset digit_steps = (digits_after-digit, digits_after-other, digits_after-end, too_great_digit, small_enough, none_longest)
