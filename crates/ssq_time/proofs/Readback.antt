-- What is printed of a time is read as that time.
use Rattle.std.proofs.Common.{◌≡◌, ℕ, ◌+◌, ◌*◌, ◌/◌, ◌%◌, ◌<◌, ◌≤◌, sym, ◌∙◌, ap, refl, inl, inr, unsigned_abs, [], ◌∷◌, ◌++◌, arith, ℤ, pos, List, Some, slice_index, length, nat_lt, ◌==◌, false}
use Rattle.std.proofs.lemmas.Bool.Decides.{nat_tests}
use Rattle.std.proofs.lemmas.Bool.{cases_order}
use Rattle.jiff_core.specs.Calendar.{days_from_civil, IsCivilDate}
use Rattle.jiff_core.proofs.SignedLemmas.{signed_arith}
use Rattle.jiff_core.proofs.CalendarLemmas.{days_in_month_bounds}
use Rattle.std.specs.Int.{int_div_euclid, int_rem_euclid}
use Rattle.ssq_time.proofs.Days.{day_of_parts, IsDayOfParts}
use Rattle.ssq_time.proofs.Parts.{day_low, day_high, rest_small, moment-parts}
use Rattle.ssq_time.specs.Time.{digit_of, two_at, decimal_at, day_number, day_at_head, second_number, second_behind_day, micros_written, six_micros_of, stamp_micros_of, stamp_of, moment, parts_text, two_digits, second_text, stamp_text, year_of, month_of, day_in_month, IsStampTime}

digit_of-digit : (byte n : ℕ) → byte ≡ 48 + n → n ≤ 9 → digit_of byte ≡ Some n
unfolding digit_of
digit_of-digit byte n e small = grind (arith, nat_tests)

not_zero : (n : ℕ) → 0 < n → (n == 0) ≡ false
not_zero n h = grind (arith, nat_tests)

two_at-digits : (text : List ℕ) (at n : ℕ) → n ≤ 99 → slice_index text at ≡ 48 + n / 10 → slice_index text (at + 1) ≡ 48 + n % 10 → two_at text at ≡ Some n
unfolding two_at
two_at-digits text at n small e f =
    rw (digit_of-digit (slice_index text at) (n / 10) e (omega arith), digit_of-digit (slice_index text (at + 1)) (n % 10) f (omega arith))
    (ap Some (omega arith))

day_number-date : (first last y m d : ℕ) → first ≤ y → y ≤ last → IsCivilDate (pos y) m d → day_number first last y m d ≡ Some (days_from_civil (pos y) m d)
unfolding day_number
day_number-date first last y m d low high h = grind (arith, nat_tests, h.1.0, h.1.1, h.2.0, h.2.1)

day_at_head-is : (first last : ℕ) (text : List ℕ) (a b m d : ℕ) → two_at text 0 ≡ Some a → two_at text 2 ≡ Some b → two_at text 5 ≡ Some m → two_at text 8 ≡ Some d → slice_index text 4 ≡ 45 → slice_index text 7 ≡ 45 → day_at_head first last text ≡ day_number first last (100 * a + b) m d
unfolding day_at_head
day_at_head-is first last text a b m d ea eb em ed e f = rw (ea, eb, em, ed, e, f)

second_number-time : (second : ℕ) → second < 86400 → second_number (second / 3600) (second / 60 % 60) (second % 60) ≡ Some second
unfolding second_number
second_number-time second small = grind (arith, nat_tests)

second_behind_day-is : (text : List ℕ) (h m s : ℕ) → two_at text 11 ≡ Some h → two_at text 14 ≡ Some m → two_at text 17 ≡ Some s → slice_index text 10 ≡ 84 → slice_index text 13 ≡ 58 → slice_index text 16 ≡ 58 → second_behind_day text ≡ second_number h m s
unfolding second_behind_day
second_behind_day-is text h m s eh em es e f g = rw (eh, em, es, e, f, g)

micros_written-six : (text : List ℕ) (a b c d e f : ℕ) → slice_index text 19 ≡ 46 → digit_of (slice_index text 20) ≡ Some a → digit_of (slice_index text 21) ≡ Some b → digit_of (slice_index text 22) ≡ Some c → digit_of (slice_index text 23) ≡ Some d → digit_of (slice_index text 24) ≡ Some e → digit_of (slice_index text 25) ≡ Some f → micros_written 6 text ≡ Some (100000 * a + 10000 * b + 1000 * c + 100 * d + 10 * e + f)
unfolding micros_written decimal_at
micros_written-six text a b c d e f point ea eb ec ed ee ef = rw (point, ea, eb, ec, ed, ee, ef)

micros_written-text : (text : List ℕ) (micro : ℕ) → micro < 1_000_000 → slice_index text 19 ≡ 46 → slice_index text 20 ≡ 48 + micro / 10000 / 10 → slice_index text 21 ≡ 48 + micro / 10000 % 10 → slice_index text 22 ≡ 48 + micro / 100 % 100 / 10 → slice_index text 23 ≡ 48 + micro / 100 % 100 % 10 → slice_index text 24 ≡ 48 + micro % 100 / 10 → slice_index text 25 ≡ 48 + micro % 100 % 10 → micros_written 6 text ≡ Some micro
micros_written-text text micro small point ea eb ec ed ee ef =
    micros_written-six text (micro / 10000 / 10) (micro / 10000 % 10) (micro / 100 % 100 / 10) (micro / 100 % 100 % 10) (micro % 100 / 10) (micro % 100 % 10) point
    (digit_of-digit _ _ ea (omega arith)) (digit_of-digit _ _ eb (omega arith)) (digit_of-digit _ _ ec (omega arith))
    (digit_of-digit _ _ ed (omega arith)) (digit_of-digit _ _ ee (omega arith)) (digit_of-digit _ _ ef (omega arith))
    ∙ ap Some (omega arith)

stamp_of-is : (text : List ℕ) (day : ℤ) (second micro : ℕ) → nat_lt (length text) 20 ≡ false → day_at_head 1 9999 text ≡ Some day → second_behind_day text ≡ Some second → stamp_micros_of text ≡ Some micro → stamp_of text ≡ Some (moment day second micro)
unfolding stamp_of
stamp_of-is text day second micro long ed es em = rw (long, ed, es, em)

-- the head of a text, its first nineteen bytes
day_at_head-text : (text : List ℕ) (y m d : ℕ) → 1 ≤ y → IsCivilDate (pos y) m d
    → slice_index text 0 ≡ 48 + y / 100 / 10 → slice_index text 1 ≡ 48 + y / 100 % 10 → slice_index text 2 ≡ 48 + y % 100 / 10 → slice_index text 3 ≡ 48 + y % 100 % 10
    → slice_index text 4 ≡ 45 → slice_index text 5 ≡ 48 + m / 10 → slice_index text 6 ≡ 48 + m % 10
    → slice_index text 7 ≡ 45 → slice_index text 8 ≡ 48 + d / 10 → slice_index text 9 ≡ 48 + d % 10
    → day_at_head 1 9999 text ≡ Some (days_from_civil (pos y) m d)
day_at_head-text text y m d one h a b c e minus f g dash i j =
    let year : 100 * (y / 100) + y % 100 ≡ y = omega arith in
    let small : y ≤ 9999 = omega (arith, signed_arith, h.0) in
    day_at_head-is 1 9999 text (y / 100) (y % 100) m d
    (two_at-digits text 0 (y / 100) (omega arith) a b) (two_at-digits text 2 (y % 100) (omega arith) c e)
    (two_at-digits text 5 m (omega (arith, h.1.1)) f g) (two_at-digits text 8 d (omega (arith, h.2.1, days_in_month_bounds (pos y) m)) i j) minus dash
    ∙ rw year (day_number-date 1 9999 y m d one small h)

second_behind_day-text : (text : List ℕ) (second : ℕ) → second < 86400
    → slice_index text 10 ≡ 84 → slice_index text 11 ≡ 48 + second / 3600 / 10 → slice_index text 12 ≡ 48 + second / 3600 % 10
    → slice_index text 13 ≡ 58 → slice_index text 14 ≡ 48 + second / 60 % 60 / 10 → slice_index text 15 ≡ 48 + second / 60 % 60 % 10
    → slice_index text 16 ≡ 58 → slice_index text 17 ≡ 48 + second % 60 / 10 → slice_index text 18 ≡ 48 + second % 60 % 10
    → second_behind_day text ≡ Some second
second_behind_day-text text second small t a b colon c d colon' e f =
    second_behind_day-is text (second / 3600) (second / 60 % 60) (second % 60)
    (two_at-digits text 11 (second / 3600) (omega arith) a b) (two_at-digits text 14 (second / 60 % 60) (omega arith) c d)
    (two_at-digits text 17 (second % 60) (omega arith) e f) t colon colon'
    ∙ second_number-time second small

plain_of : (text : List ℕ) → length text ≡ 20 → slice_index text 19 ≡ 90 → stamp_micros_of text ≡ Some 0
unfolding stamp_micros_of
plain_of text e z = rw (e, z)

full_of : (text : List ℕ) (micro : ℕ) → length text ≡ 27 → slice_index text 26 ≡ 90 → 0 < micro → micros_written 6 text ≡ Some micro → stamp_micros_of text ≡ Some micro
unfolding stamp_micros_of six_micros_of
full_of text micro e z some h =
    let test = not_zero micro some in
    rw (e, z, h, test)

-- the two forms of a text: without a fraction, and with one
abbrev pub plain_text : ℕ → ℕ → ℕ → ℕ → List ℕ
plain_text y m d second = second_text y m d second ++ 90 ∷ []

abbrev pub full_text : ℕ → ℕ → ℕ → ℕ → ℕ → List ℕ
full_text y m d second micro =
    second_text y m d second ++ 46 ∷ two_digits (micro / 10000) ++ two_digits (micro / 100 % 100) ++ two_digits (micro % 100) ++ 90 ∷ []

pub parts_text-zero : (y m d second : ℕ) → parts_text y m d second 0 ≡ plain_text y m d second
unfolding parts_text
parts_text-zero y m d second = refl

pub parts_text-more : (y m d second micro : ℕ) → 0 < micro → parts_text y m d second micro ≡ full_text y m d second micro
unfolding parts_text
parts_text-more y m d second micro some =
    let test = not_zero micro some in
    rw test

stamp_of-plain : (y m d second : ℕ) → 1 ≤ y → IsCivilDate (pos y) m d → second < 86400 → stamp_of (plain_text y m d second) ≡ Some (moment (days_from_civil (pos y) m d) second 0)
stamp_of-plain y m d second one h s =
    stamp_of-is (plain_text y m d second) (days_from_civil (pos y) m d) second 0 refl
    (day_at_head-text (plain_text y m d second) y m d one h refl refl refl refl refl refl refl refl refl refl)
    (second_behind_day-text (plain_text y m d second) second s refl refl refl refl refl refl refl refl refl)
    (plain_of (plain_text y m d second) refl refl)

stamp_of-full : (y m d second micro : ℕ) → 1 ≤ y → IsCivilDate (pos y) m d → second < 86400 → 0 < micro → micro < 1_000_000 → stamp_of (full_text y m d second micro) ≡ Some (moment (days_from_civil (pos y) m d) second micro)
stamp_of-full y m d second micro one h s some u =
    stamp_of-is (full_text y m d second micro) (days_from_civil (pos y) m d) second micro refl
    (day_at_head-text (full_text y m d second micro) y m d one h refl refl refl refl refl refl refl refl refl refl)
    (second_behind_day-text (full_text y m d second micro) second s refl refl refl refl refl refl refl refl refl)
    (full_of (full_text y m d second micro) micro refl refl some
    (micros_written-text (full_text y m d second micro) micro u refl refl refl refl refl refl refl))

pub stamp_of-parts_text : (y m d second micro : ℕ) → 1 ≤ y → IsCivilDate (pos y) m d → second < 86400 → micro < 1_000_000 → stamp_of (parts_text y m d second micro) ≡ Some (moment (days_from_civil (pos y) m d) second micro)
stamp_of-parts_text y m d second micro one h s u =
    elim (cases_order micro 0) [
      | inl same ↦ rw (same, parts_text-zero y m d second) (stamp_of-plain y m d second one h s)
      | inr (inl less) ↦ absurd (omega arith)
      | inr (inr some) ↦ rw (parts_text-more y m d second micro some) (stamp_of-full y m d second micro one h s some u)
    ]

-- a time of the years 0001 to 9999 is read from its text
pub stamp_of-stamp_text : (t : ℤ) → IsStampTime t → stamp_of (stamp_text t) ≡ Some t
unfolding stamp_text
stamp_of-stamp_text t h =
    let day = int_div_euclid t (pos 86_400_000_000) in
    let rest = unsigned_abs (int_rem_euclid t (pos 86_400_000_000)) in
    let parts : IsDayOfParts day = day_of_parts day (day_low t h) (day_high t h) in
    let small = rest_small t in
    stamp_of-parts_text (year_of day) (month_of day) (day_in_month day) (rest / 1_000_000) (rest % 1_000_000) parts.year parts.civil (omega arith) (omega arith)
    ∙ ap Some (rw parts.number (sym (moment-parts t)))
