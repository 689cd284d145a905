-- Digits in front of bytes, and the number that they are.
use Rattle.std.proofs.Common.{◌≡◌, ℕ, suc, ◌+◌, ◌*◌, ◌-◌, ◌^◌, ◌<◌, ◌≤◌, Bool, true, false, List, [], ◌∷◌, ◌++◌, length, get_or, take, drop, Option, Some, None, IfSome, refl, sym, ap, ap₂, ◌∙◌, take-append-drop, arith, rules, inl, inr, cond, not, ◌==◌, add-one, drop-cons}
use Rattle.std.specs.List.{prefix_len, list_all}
use Rattle.std.specs.Fmt.{decimal}
use Rattle.std.specs.Option.{SomeIff}
use Rattle.std.proofs.lemmas.Bool.{both_ways, cases_lt, and_parts}
use Rattle.std.proofs.lemmas.Str.Parse.{IsNumeralModel, numerals_by_fold}
use Rattle.std.proofs.lemmas.Fmt.{digits_decimal, digits_value-decimal, decimal_nonempty, first_decimal, decimal_digit, decimal-digits_value}
use Rattle.std.proofs.lemmas.Bool.Decides.{nat_tests}
use Rattle.std.proofs.lemmas.List.{drop_all, take_at, drop_at, length-take}
use Rattle.std.proofs.lemmas.List.Sums.{prefix_len-le-length}
use Rattle.ssq_field.specs.Field.{BeginsWith, AreApart, Fits64}
use Rattle.ssq_field.specs.Decimal.{is_digit, is_plain, NoDigit, number_after}

own : IsNumeralModel (λ ds. list_all is_digit ds ≡ true) (number_after 0)
own = numerals_by_fold _ (search rules) number_after (search rules)

-- more digits never make less
pub number_after-ge : (number : ℕ) (digits : List ℕ) → number ≤ number_after number digits
number_after-ge number [] = omega arith
number_after-ge number (digit ∷ digits) = omega (arith, number_after-ge (10 * number + (digit - 48)) digits)

-- the number goes on by the next digit
pub goes_on : (number i : ℕ) (digits : List ℕ) (total : ℕ) → i < length digits → number_after number (drop i digits) ≡ total → number_after (10 * number + (get_or digits i 0 - 48)) (drop (i + 1) digits) ≡ total
goes_on number i digits total within is =
    let rest : drop i digits ≡ get_or digits i 0 ∷ drop (i + 1) digits = rw (add-one, drop-cons digits i 0) refl in
    ap (number_after number) (sym rest) ∙ is

-- a number that is too great with the next digit is too great as a whole
pub too_great : (number i : ℕ) (digits : List ℕ) (total : ℕ) → i < length digits → number_after number (drop i digits) ≡ total → 2 ^ 64 ≤ 10 * number + (get_or digits i 0 - 48) → total < 2 ^ 64 → ⊥
too_great number i digits total within is great fits =
    let next = 10 * number + (get_or digits i 0 - 48) in
    omega (arith, number_after-ge next (drop (i + 1) digits), goes_on number i digits total within is)

pub is_whole : (number i : ℕ) (digits : List ℕ) (total : ℕ) → length digits ≤ i → number_after number (drop i digits) ≡ total → number ≡ total
is_whole number i digits total past is = ap (number_after number) (sym (drop_all i digits past)) ∙ is

one-add : (n : ℕ) → 1 + n ≡ suc n
one-add n = omega arith

pass : (byte : ℕ) (bytes : List ℕ) (b : Bool) → is_digit byte ≡ b → list_all is_digit (take (prefix_len is_digit bytes) bytes) ≡ true → list_all is_digit (take (cond b (1 + prefix_len is_digit bytes) 0) (byte ∷ bytes)) ≡ true
pass byte bytes true is rest = rw one-add (rw (is, rest) refl)
pass byte bytes false is rest = refl

pub digits_pass : (bytes : List ℕ) → list_all is_digit (take (prefix_len is_digit bytes) bytes) ≡ true
digits_pass [] = refl
digits_pass (byte ∷ bytes) = pass byte bytes (is_digit byte) refl (digits_pass bytes)

stop_at : (byte : ℕ) (bytes : List ℕ) (b : Bool) → is_digit byte ≡ b → NoDigit (drop (prefix_len is_digit bytes) bytes) → NoDigit (drop (cond b (1 + prefix_len is_digit bytes) 0) (byte ∷ bytes))
stop_at byte bytes true is rest = rw one-add rest
stop_at byte bytes false is rest = is

pub digits_stop : (bytes : List ℕ) → NoDigit (drop (prefix_len is_digit bytes) bytes)
digits_stop [] = tt
digits_stop (byte ∷ bytes) = stop_at byte bytes (is_digit byte) refl (digits_stop bytes)

pub digits_in_front : (digits rest : List ℕ) → list_all is_digit digits ≡ true → NoDigit rest → prefix_len is_digit (digits ++ rest) ≡ length digits
digits_in_front [] [] all stop = refl
digits_in_front [] (byte ∷ rest) all stop = rw stop refl
digits_in_front (digit ∷ digits) rest all stop =
    let parts = and_parts (is_digit digit) (list_all is_digit digits) all in
    rw (parts.0, digits_in_front digits rest parts.1 stop) (omega arith)

pub decimal_passes : (n : ℕ) → n < 2 ^ 64 → list_all is_digit (decimal n) ≡ true
decimal_passes n fits = digits_decimal own n fits

pub decimal-value : (n : ℕ) → n < 2 ^ 64 → number_after 0 (decimal n) ≡ n
decimal-value n fits = digits_value-decimal own n fits

plain_from : (n : ℕ) (digits : List ℕ) → n < 2 ^ 64 → decimal n ≡ digits → is_plain digits ≡ true
plain_from n [] fits is = absurd (omega (arith, decimal_nonempty n fits, ap length is))
plain_from n (digit ∷ []) fits is = refl
plain_from n (first ∷ second ∷ digits) fits is =
    elim (cases_lt 0 n) [
      | inl some ↦
          let above : 48 < first = omega (arith, first_decimal n some fits, ap (λ (ds : List ℕ). get_or ds 0 0) is) in
          grind (arith, nat_tests)
      | inr none ↦
          let zero-is : n ≡ 0 = omega arith in
          absurd (omega (arith, ap length (sym is ∙ ap decimal zero-is ∙ decimal_digit 0 (omega arith))))
    ]

pub decimal_plain : (n : ℕ) → n < 2 ^ 64 → is_plain (decimal n) ≡ true
decimal_plain n fits = plain_from n (decimal n) fits refl

-- plain digits are printed for their number
pub value-decimal : (digits : List ℕ) → list_all is_digit digits ≡ true → is_plain digits ≡ true → number_after 0 digits < 2 ^ 64 → digits ≡ decimal (number_after 0 digits)
value-decimal [] all plain fits = absurd cc
value-decimal (digit ∷ []) all plain fits = sym (decimal-digits_value own (digit ∷ []) all (omega arith) (λ e. refl) fits)
value-decimal (first ∷ second ∷ digits) all plain fits =
    sym (decimal-digits_value own (first ∷ second ∷ digits) all (omega arith) (λ (e : first ≡ 48). absurd (not_zero first e plain)) fits)
  where
    not_zero : (d : ℕ) → d ≡ 48 → not (d == 48) ≡ true → ⊥
    not_zero d e plain = both_ways (not (d == 48)) (grind (arith, nat_tests)) plain

-- where decimal digits stand before no other digit, they are the digits in front
front_of : (bytes rest : List ℕ) (n : ℕ) → n < 2 ^ 64 → NoDigit rest → bytes ≡ decimal n ++ rest → prefix_len is_digit bytes ≡ length (decimal n)
front_of bytes rest n fits stop is = ap (prefix_len is_digit) is ∙ digits_in_front (decimal n) rest (decimal_passes n fits) stop

pub front_len : (bytes rest : List ℕ) (n len : ℕ) → len ≡ prefix_len is_digit bytes → n < 2 ^ 64 → NoDigit rest → bytes ≡ decimal n ++ rest → len ≡ length (decimal n)
front_len bytes rest n len len-is fits stop is = len-is ∙ front_of bytes rest n fits stop is

pub front_digits : (bytes rest : List ℕ) (n len : ℕ) → len ≡ prefix_len is_digit bytes → n < 2 ^ 64 → NoDigit rest → bytes ≡ decimal n ++ rest → take len bytes ≡ decimal n
front_digits bytes rest n len len-is fits stop is =
    ap₂ (λ (k : ℕ) (bs : List ℕ). take k bs) (front_len bytes rest n len len-is fits stop is) is ∙ take_at (decimal n) rest (length (decimal n)) refl

pub begins_decimal : (bytes : List ℕ) (n len : ℕ) → len ≡ prefix_len is_digit bytes → take len bytes ≡ decimal n → BeginsWith decimal NoDigit bytes n len
begins_decimal bytes n len len-is digits = record {
  parts = sym (take-append-drop len bytes) ∙ ap (λ (front : List ℕ). front ++ drop len bytes) digits;
  len = sym (ap length (sym digits) ∙ omega (arith, length-take len bytes, prefix_len-le-length is_digit bytes));
  after = rw len-is (digits_stop bytes);
}

-- digits before no other digit belong to one number, whatever follows
pub decimals_apart : AreApart decimal Fits64 NoDigit
decimals_apart m n x y f g stop_x stop_y e =
    let bytes = decimal m ++ x in
    let lens : length (decimal m) ≡ length (decimal n) = sym (front_of bytes x m f stop_x refl) ∙ front_of bytes y n g stop_y e in
    let fronts : decimal m ≡ decimal n = sym (take_at (decimal m) x (length (decimal m)) refl) ∙ ap (take (length (decimal m))) e ∙ take_at (decimal n) y (length (decimal m)) (sym lens) in
    let rests : x ≡ y = sym (drop_at (decimal m) x (length (decimal m)) refl) ∙ ap (drop (length (decimal m))) e ∙ drop_at (decimal n) y (length (decimal m)) (sym lens) in
    (sym (decimal-value m f) ∙ ap (number_after 0) fronts ∙ decimal-value n g, rests)

-- ---- what the functions answer

pub value_found : (digits : List ℕ) (r : Option ℕ) → list_all is_digit digits ≡ true → is_plain digits ≡ true → SomeIff r (number_after 0 digits < 2 ^ 64) (number_after 0 digits) → IfSome r (λ n. digits ≡ decimal n)
value_found digits None all plain answer = tt
value_found digits (Some n) all plain answer = value-decimal digits all plain answer.0 ∙ ap decimal (sym answer.1)

pub value_each : (digits : List ℕ) (r : Option ℕ) → SomeIff r (number_after 0 digits < 2 ^ 64) (number_after 0 digits) → (n : ℕ) → n < 2 ^ 64 → digits ≡ decimal n → r ≡ Some n
value_each digits None answer n fits is =
    let value : number_after 0 digits ≡ n = ap (number_after 0) is ∙ decimal-value n fits in
    absurd (answer (omega arith))
value_each digits (Some m) answer n fits is = ap (λ k. Some k) (answer.1 ∙ ap (number_after 0) is ∙ decimal-value n fits)

pub never_plain : (digits : List ℕ) (n : ℕ) → n < 2 ^ 64 → is_plain digits ≡ false → digits ≡ decimal n → ⊥
never_plain digits n fits plain is = both_ways (is_plain digits) plain (ap is_plain is ∙ decimal_plain n fits)

pub is_none : (r : Option ℕ) (n : ℕ) → r ≡ None → r ≡ Some n → ⊥
is_none r n none some = absurd cc

abbrev pub pair_of : ℕ → ℕ → Option (ℕ × ℕ)
pair_of n len = Some (n, len)

pub same_pair : (r : Option ℕ) (m n k l : ℕ) → r ≡ Some m → r ≡ Some n → k ≡ l → pair_of m k ≡ pair_of n l
same_pair r m n k l first second lens = cc
