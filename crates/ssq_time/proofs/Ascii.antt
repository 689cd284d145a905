-- Each byte of a time's text is ASCII.
use Rattle.std.proofs.Common.{ℕ, zero, suc, ◌+◌, ◌/◌, ◌%◌, ◌<◌, ◌≤◌, ℤ, pos, inl, inr, unsigned_abs, List, [], ◌∷◌, ◌++◌, subst, sym, arith}
use Rattle.std.specs.Int.{int_div_euclid, int_rem_euclid}
use Rattle.std.specs.Str.{IsAscii}
use Rattle.std.proofs.lemmas.Bool.{cases_order}
use Rattle.jiff_core.specs.Calendar.{IsCivilDate}
use Rattle.jiff_core.proofs.SignedLemmas.{signed_arith}
use Rattle.jiff_core.proofs.CalendarLemmas.{days_in_month_bounds}
use Rattle.ssq_time.specs.Time.{parts_text, two_digits, second_text, stamp_text, year_of, month_of, day_in_month, IsStampTime}
use Rattle.ssq_time.proofs.Days.{day_of_parts, IsDayOfParts}
use Rattle.ssq_time.proofs.Parts.{day_low, day_high, rest_small}
use Rattle.ssq_time.proofs.Readback.{plain_text, full_text, parts_text-zero, parts_text-more}

-- the same as a record, so that the list is known where it is left out
record Plain (xs : List ℕ) : Type 0 where
  all : IsAscii xs

nothing : Plain []
nothing = record { all = none }
  where
    none : IsAscii []
    none zero = omega arith
    none (suc i) = omega arith

byte : (x : ℕ) (xs : List ℕ) → x < 128 → Plain xs → Plain (x ∷ xs)
byte x xs small plain = record { all = each }
  where
    each : IsAscii (x ∷ xs)
    each zero = small
    each (suc i) = plain.all i

two : (n : ℕ) (xs : List ℕ) → n ≤ 99 → Plain xs → Plain (two_digits n ++ xs)
two n xs small plain = byte (48 + n / 10) ((48 + n % 10) ∷ xs) (omega arith) (byte (48 + n % 10) xs (omega arith) plain)

seconds : (y m d second : ℕ) (tail : List ℕ) → IsCivilDate (pos y) m d → second < 86400 → Plain tail → Plain (second_text y m d second ++ tail)
seconds y m d second tail h small plain =
    let year : y ≤ 9999 = omega (arith, signed_arith, h.0) in
    two (y / 100) _ (omega arith) (two (y % 100) _ (omega arith) (byte 45 _ (omega arith) (two m _ (omega (arith, h.1.1)) (byte 45 _ (omega arith)
    (two d _ (omega (arith, h.2.1, days_in_month_bounds (pos y) m)) (byte 84 _ (omega arith) (two (second / 3600) _ (omega arith) (byte 58 _ (omega arith)
    (two (second / 60 % 60) _ (omega arith) (byte 58 _ (omega arith) (two (second % 60) tail (omega arith) plain)))))))))))

parts_text-ascii : (y m d second micro : ℕ) → IsCivilDate (pos y) m d → second < 86400 → micro < 1_000_000 → Plain (parts_text y m d second micro)
parts_text-ascii y m d second micro h s u =
    elim (cases_order micro 0) [
      | inl same ↦ rw (same, parts_text-zero y m d second) (seconds y m d second (90 ∷ []) h s (byte 90 [] (omega arith) nothing))
      | inr (inl less) ↦ absurd (omega arith)
      | inr (inr some) ↦ rw (parts_text-more y m d second micro some)
          (seconds y m d second (46 ∷ (two_digits (micro / 10000) ++ (two_digits (micro / 100 % 100) ++ (two_digits (micro % 100) ++ (90 ∷ []))))) h s
          (byte 46 _ (omega arith) (two (micro / 10000) _ (omega arith) (two (micro / 100 % 100) _ (omega arith) (two (micro % 100) _ (omega arith) (byte 90 [] (omega arith) nothing))))))
    ]

pub stamp_text-ascii : (t : ℤ) → IsStampTime t → IsAscii (stamp_text t)
unfolding stamp_text
stamp_text-ascii t h =
    let day = int_div_euclid t (pos 86_400_000_000) in
    let rest = unsigned_abs (int_rem_euclid t (pos 86_400_000_000)) in
    let parts : IsDayOfParts day = day_of_parts day (day_low t h) (day_high t h) in
    let small = rest_small t in
    (parts_text-ascii (year_of day) (month_of day) (day_in_month day) (rest / 1_000_000) (rest % 1_000_000) parts.civil (omega arith) (omega arith)).all
