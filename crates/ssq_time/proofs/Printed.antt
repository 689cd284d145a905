-- A text that is read as a printed time is the text of that time.
use Rattle.std.proofs.Common.{◌≡◌, ℕ, zero, suc, ◌+◌, ◌-◌, ◌*◌, ◌/◌, ◌%◌, ◌<◌, ◌≤◌, ◌&&◌, ◌==◌, inl, inr, sym, ◌∙◌, ap, subst, refl, arith, ℤ, pos, neg_ℤ, ◌≤ℤ◌, ◌<ℤ◌, Option, Some, None, IfSome, List, [], ◌∷◌, ◌++◌, length, slice_index, nat_lt, nat_le, if◌then◌else◌}
use Rattle.std.proofs.lemmas.Bool.Decides.{nat_tests}
use Rattle.std.proofs.lemmas.Option.{option_and_then_some}
use Rattle.jiff_core.specs.Calendar.{days_from_civil, days_in_month, IsCivilDate}
use Rattle.jiff_core.proofs.SignedLemmas.{signed_arith}
use Rattle.ssq_time.specs.Time.{digit_of, two_digits, second_text, two_at, decimal_at, day_number, day_at_head, second_number, second_behind_day, micros_written, six_micros_of, stamp_micros_of, stamp_of, micros_of, time_of, moment, parts_text, stamp_text, IsStampTime, IsLineTime}
use Rattle.std.proofs.lemmas.Slice.Eq.{HasBytesAt, text_from_reads}
use Rattle.jiff_core.proofs.CalendarLemmas.{days_from_civil-day_count, day_count-lt_year, days_in_month_bounds}
use Rattle.jiff_core.proofs.MarchLemmas.{day_count-early}
use Rattle.std.proofs.lemmas.Bool.{cases_order, and_parts}
use Rattle.ssq_time.proofs.Steps.{if_some, some_same, same_true, above_zero, if_none, if_cases}
use Rattle.ssq_time.proofs.Days.{first_day, day_behind, january-le}
use Rattle.ssq_time.proofs.Parts.{stamp_text-parts}
use Rattle.ssq_time.proofs.Readback.{plain_text, full_text, parts_text-zero, parts_text-more, stamp_of-stamp_text}

digit_is : (byte n : ℕ) → digit_of byte ≡ Some n → (byte ≡ 48 + n) × (n ≤ 9)
unfolding digit_of
digit_is byte n e =
    let h = if_some _ (Some (byte - 48)) n e in
    let same = some_same (byte - 48) n h.1 in
    grind (arith, nat_tests, h.0)

-- from that place on stand the two digits of n
pub record HasTwo (text : List ℕ) (at n : ℕ) : Type 0 where
  pub tens : slice_index text at ≡ 48 + n / 10
  pub units : slice_index text (at + 1) ≡ 48 + n % 10
  pub small : n ≤ 99

two_is : (text : List ℕ) (at n : ℕ) → two_at text at ≡ Some n → HasTwo text at n
unfolding two_at
two_is text at n e =
    option_and_then_some _ (digit_of (slice_index text at)) n e (λ tens et e1.
    option_and_then_some _ (digit_of (slice_index text (at + 1))) n e1 (λ units eu e2.
    let t = digit_is _ tens et in
    let u = digit_is _ units eu in
    let same : 10 * tens + units ≡ n = some_same _ _ e2 in
    record { tens = omega arith; units = omega arith; small = omega arith }))

pub record IsDay (first last y m d : ℕ) (day : ℤ) : Type 0 where
  pub low : first ≤ y
  pub high : y ≤ last
  pub civil : IsCivilDate (pos y) m d
  pub number : days_from_civil (pos y) m d ≡ day

day_is : (first last y m d : ℕ) (day : ℤ) → last ≤ 9999 → day_number first last y m d ≡ Some day → IsDay first last y m d day
unfolding day_number
day_is first last y m d day small e =
    let h = if_some _ (Some (days_from_civil (pos y) m d)) day e in
    let low : first ≤ y = grind (arith, nat_tests, h.0) in
    let high : y ≤ last = grind (arith, nat_tests, h.0) in
    let m_low : 1 ≤ m = grind (arith, nat_tests, h.0) in
    let m_high : m ≤ 12 = grind (arith, nat_tests, h.0) in
    let d_low : 1 ≤ d = grind (arith, nat_tests, h.0) in
    let d_high : d ≤ days_in_month (pos y) m = grind (arith, nat_tests, h.0) in
    record { low = low; high = high; civil = (omega (arith, signed_arith), (m_low, m_high), (d_low, d_high)); number = some_same _ _ h.1 }

-- the head of a text is the day
pub record HasDay (first last : ℕ) (text : List ℕ) (day : ℤ) : Type 0 where
  pub year : ℕ
  pub month : ℕ
  pub date : ℕ
  pub is_day : IsDay first last year month date day
  pub century_at : HasTwo text 0 (year / 100)
  pub year_at : HasTwo text 2 (year % 100)
  pub month_at : HasTwo text 5 month
  pub date_at : HasTwo text 8 date
  pub minus : slice_index text 4 ≡ 45
  pub minus_after : slice_index text 7 ≡ 45

pub day_at_head_is : (first last : ℕ) (text : List ℕ) (day : ℤ) → last ≤ 9999 → day_at_head first last text ≡ Some day → HasDay first last text day
unfolding day_at_head
day_at_head_is first last text day small e =
    option_and_then_some _ (two_at text 0) day e (λ a ea e1.
    option_and_then_some _ (two_at text 2) day e1 (λ b eb e2.
    option_and_then_some _ (two_at text 5) day e2 (λ m em e3.
    option_and_then_some _ (two_at text 8) day e3 (λ d ed e4.
    let h = if_some _ (day_number first last (100 * a + b) m d) day e4 in
    let signs = and_parts _ _ h.0 in
    let b_at = two_is text 2 b eb in
    let century : a ≡ (100 * a + b) / 100 = omega (arith, b_at.small) in
    let year : b ≡ (100 * a + b) % 100 = omega (arith, b_at.small) in
    record {
      year = 100 * a + b;
      month = m;
      date = d;
      is_day = day_is first last (100 * a + b) m d day small h.1;
      century_at = let P : ℕ → Type 0 = λ n. HasTwo text 0 n in subst P century (two_is text 0 a ea);
      year_at = let P : ℕ → Type 0 = λ n. HasTwo text 2 n in subst P year b_at;
      month_at = two_is text 5 m em;
      date_at = two_is text 8 d ed;
      minus = same_true _ _ signs.0;
      minus_after = same_true _ _ signs.1;
    }))))

-- the second of the day stands after the day
pub record HasSecond (text : List ℕ) (second : ℕ) : Type 0 where
  pub small : second < 86400
  pub hour_at : HasTwo text 11 (second / 3600)
  pub minute_at : HasTwo text 14 (second / 60 % 60)
  pub second_at : HasTwo text 17 (second % 60)
  pub letter : slice_index text 10 ≡ 84
  pub colon : slice_index text 13 ≡ 58
  pub colon_after : slice_index text 16 ≡ 58

pub record IsSecond (h m s second : ℕ) : Type 0 where
  pub number : 3600 * h + 60 * m + s ≡ second
  pub hour : h ≤ 23
  pub minute : m ≤ 59
  pub seconds : s ≤ 59

second_is : (h m s second : ℕ) → second_number h m s ≡ Some second → IsSecond h m s second
unfolding second_number
second_is h m s second e =
    let t = if_some _ (Some (3600 * h + 60 * m + s)) second e in
    let hour : h ≤ 23 = grind (arith, nat_tests, t.0) in
    let minute : m ≤ 59 = grind (arith, nat_tests, t.0) in
    let seconds : s ≤ 59 = grind (arith, nat_tests, t.0) in
    record { number = some_same _ _ t.1; hour = hour; minute = minute; seconds = seconds }

pub second_behind_day_is : (text : List ℕ) (second : ℕ) → second_behind_day text ≡ Some second → HasSecond text second
unfolding second_behind_day
second_behind_day_is text second e =
    option_and_then_some _ (two_at text 11) second e (λ h eh e1.
    option_and_then_some _ (two_at text 14) second e1 (λ m em e2.
    option_and_then_some _ (two_at text 17) second e2 (λ s es e3.
    let t = if_some _ (second_number h m s) second e3 in
    let signs = and_parts _ _ t.0 in
    let front = and_parts _ _ signs.0 in
    let is = second_is h m s second t.1 in
    let hour : h ≡ second / 3600 = omega arith in
    let minute : m ≡ second / 60 % 60 = omega arith in
    let rest : s ≡ second % 60 = omega arith in
    record {
      small = omega arith;
      hour_at = let P : ℕ → Type 0 = λ n. HasTwo text 11 n in subst P hour (two_is text 11 h eh);
      minute_at = let P : ℕ → Type 0 = λ n. HasTwo text 14 n in subst P minute (two_is text 14 m em);
      second_at = let P : ℕ → Type 0 = λ n. HasTwo text 17 n in subst P rest (two_is text 17 s es);
      letter = same_true _ _ front.0;
      colon = same_true _ _ front.1;
      colon_after = same_true _ _ signs.1;
    })))

-- six digits and a point after the seconds
pub record HasMicros (text : List ℕ) (micro : ℕ) : Type 0 where
  pub small : micro < 1_000_000
  pub point : slice_index text 19 ≡ 46
  pub a : slice_index text 20 ≡ 48 + micro / 10000 / 10
  pub b : slice_index text 21 ≡ 48 + micro / 10000 % 10
  pub c : slice_index text 22 ≡ 48 + micro / 100 % 100 / 10
  pub d : slice_index text 23 ≡ 48 + micro / 100 % 100 % 10
  pub e : slice_index text 24 ≡ 48 + micro % 100 / 10
  pub f : slice_index text 25 ≡ 48 + micro % 100 % 10

micros_is : (text : List ℕ) (micro : ℕ) → micros_written 6 text ≡ Some micro → HasMicros text micro
unfolding micros_written decimal_at
micros_is text micro e =
    option_and_then_some _ (digit_of (slice_index text 20)) micro e (λ a ea e1.
    option_and_then_some _ (digit_of (slice_index text 21)) micro e1 (λ b eb e2.
    option_and_then_some _ (digit_of (slice_index text 22)) micro e2 (λ c ec e3.
    option_and_then_some _ (digit_of (slice_index text 23)) micro e3 (λ d ed e4.
    option_and_then_some _ (digit_of (slice_index text 24)) micro e4 (λ e' ee e5.
    option_and_then_some _ (digit_of (slice_index text 25)) micro e5 (λ f ef e6.
    let h = if_some _ (Some (100000 * a + 10000 * b + 1000 * c + 100 * d + 10 * e' + f)) micro e6 in
    let sum : 100000 * a + 10000 * b + 1000 * c + 100 * d + 10 * e' + f ≡ micro = some_same _ _ h.1 in
    let ha = digit_is _ a ea in
    let hb = digit_is _ b eb in
    let hc = digit_is _ c ec in
    let hd = digit_is _ d ed in
    let he = digit_is _ e' ee in
    let hf = digit_is _ f ef in
    record {
      small = omega arith;
      point = same_true _ _ h.0;
      a = omega arith;
      b = omega arith;
      c = omega arith;
      d = omega arith;
      e = omega arith;
      f = omega arith;
    }))))))

-- what ends a printed text
pub data HasEnd (text : List ℕ) : ℕ → Type 0 where
  plain : length text ≡ 20 → slice_index text 19 ≡ 90 → HasEnd text 0
  full : (micro : ℕ) → length text ≡ 27 → slice_index text 26 ≡ 90 → 0 < micro → HasMicros text micro → HasEnd text micro

six_is : (text : List ℕ) (micro : ℕ) → six_micros_of text ≡ Some micro → HasMicros text micro × (0 < micro)
unfolding six_micros_of
six_is text micro e =
    option_and_then_some _ (micros_written 6 text) micro e (λ n en e1.
    let h = if_none _ (Some n) micro e1 in
    let same : n ≡ micro = some_same _ _ h.1 in
    let some : 0 < n = above_zero n h.0 in
    let P : ℕ → Type 0 = λ k. HasMicros text k × (0 < k) in
    subst P same (micros_is text n en, some))

stamp_micros_is : (text : List ℕ) (micro : ℕ) → stamp_micros_of text ≡ Some micro → HasEnd text micro
unfolding stamp_micros_of
stamp_micros_is text micro e =
    let h = if_some _ (if (length text == 20) then Some 0 else (if (length text == 27) then six_micros_of text else None)) micro e in
    let last : slice_index text (length text - 1) ≡ 90 = same_true _ _ h.0 in
    if_cases (length text == 20) (Some 0) (if (length text == 27) then six_micros_of text else None) micro h.1
    (λ is_plain zero.
    let size : length text ≡ 20 = same_true _ _ is_plain in
    let P : ℕ → Type 0 = λ k. HasEnd text k in
    subst P (some_same 0 micro zero) (plain size (rw size at last)))
    (λ not_plain rest.
    let t = if_some (length text == 27) (six_micros_of text) micro rest in
    let size : length text ≡ 27 = same_true _ _ t.0 in
    let six = six_is text micro t.1 in
    full micro size (rw size at last) six.1 six.0)

-- the first nineteen bytes of a text are those of its day and its second
head_reads : (text rest : List ℕ) (day : ℤ) (second : ℕ) (d : HasDay 1 9999 text day) → HasSecond text second → HasBytesAt text 19 rest → HasBytesAt text 0 (second_text d.year d.month d.date second ++ rest)
head_reads text rest day second d s behind =
    (d.century_at.tens, (d.century_at.units, (d.year_at.tens, (d.year_at.units, (d.minus, (d.month_at.tens, (d.month_at.units, (d.minus_after, (d.date_at.tens, (d.date_at.units, (s.letter, (s.hour_at.tens, (s.hour_at.units, (s.colon, (s.minute_at.tens, (s.minute_at.units, (s.colon_after, (s.second_at.tens, (s.second_at.units, behind)))))))))))))))))))

plain_is : (text : List ℕ) (day : ℤ) (second : ℕ) (d : HasDay 1 9999 text day) (s : HasSecond text second) → length text ≡ 20 → slice_index text 19 ≡ 90 → text ≡ plain_text d.year d.month d.date second
plain_is text day second d s size last = text_from_reads text (plain_text d.year d.month d.date second) size (head_reads text (90 ∷ []) day second d s (last, tt))

full_is : (text : List ℕ) (day : ℤ) (second micro : ℕ) (d : HasDay 1 9999 text day) (s : HasSecond text second) (m : HasMicros text micro) → length text ≡ 27 → slice_index text 26 ≡ 90 → text ≡ full_text d.year d.month d.date second micro
full_is text day second micro d s m size last =
    text_from_reads text (full_text d.year d.month d.date second micro) size
    (head_reads text (46 ∷ two_digits (micro / 10000) ++ two_digits (micro / 100 % 100) ++ two_digits (micro % 100) ++ 90 ∷ []) day second d s (m.point, (m.a, (m.b, (m.c, (m.d, (m.e, (m.f, (last, tt)))))))))

-- the text of a day, a second and an end is the text of their moment
text_is : (text : List ℕ) (day : ℤ) (second micro : ℕ) (d : HasDay 1 9999 text day) → HasSecond text second → HasEnd text micro → (text ≡ parts_text d.year d.month d.date second micro) × (micro < 1_000_000)
text_is text day second zero d s (plain size last) = (plain_is text day second d s size last ∙ sym (parts_text-zero d.year d.month d.date second), omega arith)
text_is text day second _ d s (full micro size last some m) =
    (full_is text day second micro d s m size last ∙ sym (parts_text-more d.year d.month d.date second micro some), m.small)

-- a day of those years lies between the first day of the first and the first day after the last
day_range : (first last y m d : ℕ) (day : ℤ) → last ≤ 9999 → IsDay first last y m d day → (days_from_civil (pos first) 1 1 ≤ℤ day) × (day <ℤ days_from_civil (pos (suc last)) 1 1)
day_range first last y m d day small h =
    let high = day_count-lt_year (pos y) m d (pos (suc last)) 1 1 h.civil (omega arith) (omega (arith, signed_arith, h.high)) in
    let bound = days_in_month_bounds (pos first) 1 in
    let begin : IsCivilDate (pos first) 1 1 = (omega (arith, signed_arith, h.low, h.high), (omega arith, omega arith), (omega arith, omega (arith, bound))) in
    let low : days_from_civil (pos first) 1 1 ≤ℤ days_from_civil (pos y) m d = elim (cases_order first y) [
      | inl same ↦ rw same (january-le (pos y) m d h.civil.2.0)
      | inr (inl less) ↦
          let count = day_count-lt_year (pos first) 1 1 (pos y) m d begin h.civil.2.0 (omega (arith, signed_arith)) in
          omega (arith, signed_arith, days_from_civil-day_count (pos first) 1 1, days_from_civil-day_count (pos y) m d, count)
      | inr (inr more) ↦ absurd (omega (arith, h.low))
    ] in
    let P : ℤ → Type 0 = λ z. (days_from_civil (pos first) 1 1 ≤ℤ z) × (z <ℤ days_from_civil (pos (suc last)) 1 1) in
    subst P h.number
    (low, omega (arith, signed_arith, days_from_civil-day_count (pos (suc last)) 1 1, days_from_civil-day_count (pos y) m d, high))

first_line_day : days_from_civil (pos 1000) 1 1 ≡ neg_ℤ (pos 354_285)
first_line_day = omega (arith, signed_arith, days_from_civil-day_count (pos 1000) 1 1, day_count-early (pos 1000) 10999 1 1 refl (omega arith) (omega arith) (omega arith))

day_behind_lines : days_from_civil (pos 9001) 1 1 ≡ pos 2_568_020
day_behind_lines = omega (arith, signed_arith, days_from_civil-day_count (pos 9001) 1 1, day_count-early (pos 9001) 19000 1 1 refl (omega arith) (omega arith) (omega arith))

stamp_range : (t day : ℤ) (second micro : ℕ) → second < 86400 → micro < 1_000_000 → (text : List ℕ) → HasDay 1 9999 text day → t ≡ moment day second micro → IsStampTime t
stamp_range t day second micro s u text d e =
    let small : 9999 ≤ 9999 = omega arith in
    let range = day_range 1 9999 d.year d.month d.date day small d.is_day in
    (omega (arith, signed_arith, first_day, range.0), omega (arith, signed_arith, day_behind, range.1))

line_range : (t day : ℤ) (second micro : ℕ) → second < 86400 → micro < 1_000_000 → (text : List ℕ) → HasDay 1000 9000 text day → t ≡ moment day second micro → IsLineTime t
line_range t day second micro s u text d e =
    let small : 9000 ≤ 9999 = omega arith in
    let range = day_range 1000 9000 d.year d.month d.date day small d.is_day in
    (omega (arith, signed_arith, first_line_day, range.0), omega (arith, signed_arith, day_behind_lines, range.1))

pub stamp_of_is : (text : List ℕ) (t : ℤ) → stamp_of text ≡ Some t → (text ≡ stamp_text t) × IsStampTime t
unfolding stamp_of
stamp_of_is text t e =
    let h = if_none (nat_lt (length text) 20) _ t e in
    option_and_then_some _ (day_at_head 1 9999 text) t h.1 (λ day ed e1.
    option_and_then_some _ (second_behind_day text) t e1 (λ second es e2.
    option_and_then_some _ (stamp_micros_of text) t e2 (λ micro em e3.
    let small : 9999 ≤ 9999 = omega arith in
    let d : HasDay 1 9999 text day = day_at_head_is 1 9999 text day small ed in
    let s = second_behind_day_is text second es in
    let is = text_is text day second micro d s (stamp_micros_is text micro em) in
    let made = stamp_text-parts d.year d.month d.date second micro d.is_day.low d.is_day.civil s.small is.1 in
    let same : moment (days_from_civil (pos d.year) d.month d.date) second micro ≡ t = rw d.is_day.number (some_same _ _ e3) in
    (is.0 ∙ sym made ∙ ap stamp_text same, stamp_range t day second micro (omega (arith, s.small)) is.1 text d (sym (some_same _ _ e3))))))

digit_at_is : (text : List ℕ) (written at d : ℕ) → decimal_at text written at ≡ Some d → d ≤ 9
unfolding decimal_at
digit_at_is text written at d e =
    if_cases (nat_lt at written) (digit_of (slice_index text (20 + at))) (Some 0) d e
    (λ _ h. (digit_is _ d h).1)
    (λ _ h. let same : 0 ≡ d = some_same _ _ h in omega arith)

written_small : (text : List ℕ) (written micro : ℕ) → micros_written written text ≡ Some micro → micro < 1_000_000
unfolding micros_written
written_small text written micro e =
    option_and_then_some _ (decimal_at text written 0) micro e (λ a ea e1.
    option_and_then_some _ (decimal_at text written 1) micro e1 (λ b eb e2.
    option_and_then_some _ (decimal_at text written 2) micro e2 (λ c ec e3.
    option_and_then_some _ (decimal_at text written 3) micro e3 (λ d ed e4.
    option_and_then_some _ (decimal_at text written 4) micro e4 (λ e' ee e5.
    option_and_then_some _ (decimal_at text written 5) micro e5 (λ f ef e6.
    let h = if_some _ (Some (100000 * a + 10000 * b + 1000 * c + 100 * d + 10 * e' + f)) micro e6 in
    let sum : 100000 * a + 10000 * b + 1000 * c + 100 * d + 10 * e' + f ≡ micro = some_same _ _ h.1 in
    omega (
      arith,
      digit_at_is text written 0 a ea,
      digit_at_is text written 1 b eb,
      digit_at_is text written 2 c ec,
      digit_at_is text written 3 d ed,
      digit_at_is text written 4 e' ee,
      digit_at_is text written 5 f ef,
    )))))))

micros_small : (text : List ℕ) (micro : ℕ) → micros_of text ≡ Some micro → micro < 1_000_000
unfolding micros_of
micros_small text micro e =
    let h = if_some (slice_index text (length text - 1) == 90) _ micro e in
    if_cases (length text == 20) (Some 0) _ micro h.1
    (λ _ k. let same : 0 ≡ micro = some_same _ _ k in omega arith)
    (λ _ k. written_small text (length text - 21) micro (if_some (nat_le 22 (length text) && nat_le (length text) 27) _ micro k).1)

-- a time that is read lies in the years 1000 to 9000
pub time_of_is : (text : List ℕ) (t : ℤ) → time_of text ≡ Some t → IsLineTime t
unfolding time_of
time_of_is text t e =
    let h = if_none (nat_lt (length text) 20) _ t e in
    option_and_then_some _ (day_at_head 1000 9000 text) t h.1 (λ day ed e1.
    option_and_then_some _ (second_behind_day text) t e1 (λ second es e2.
    option_and_then_some _ (micros_of text) t e2 (λ micro em e3.
    let small : 9000 ≤ 9999 = omega arith in
    let d : HasDay 1000 9000 text day = day_at_head_is 1000 9000 text day small ed in
    let s = second_behind_day_is text second es in
    line_range t day second micro s.small (micros_small text micro em) text d (sym (some_same _ _ e3)))))

-- the same of what a call answers
pub line_if_some : (r : Option ℤ) (text : List ℕ) → r ≡ time_of text → IfSome r IsLineTime
line_if_some (Some t) text e = time_of_is text t (sym e)
line_if_some None text e = tt

pub stamp_if_some : (r : Option ℤ) (text : List ℕ) → r ≡ stamp_of text → IfSome r (λ t. (text ≡ stamp_text t) × IsStampTime t)
stamp_if_some (Some t) text e = stamp_of_is text t (sym e)
stamp_if_some None text e = tt

pub stamp_each : (r : Option ℤ) (text : List ℕ) → r ≡ stamp_of text → (t : ℤ) → IsStampTime t → text ≡ stamp_text t → r ≡ Some t
stamp_each r text e t h same = e ∙ ap stamp_of same ∙ stamp_of-stamp_text t h
