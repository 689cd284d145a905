-- The text of a time, by the parts of the time.
use Rattle.std.proofs.Common.{◌≡◌, subst, ℕ, ◌+◌, ◌*◌, ◌/◌, ◌%◌, ◌<◌, ◌≤◌, sym, arith, ℤ, pos, neg_ℤ, ◌+ℤ◌, ◌≤ℤ◌, unsigned_abs}
use Rattle.std.specs.Int.{int_div_euclid, int_rem_euclid}
use Rattle.jiff_core.specs.Calendar.{days_from_civil, IsCivilDate}
use Rattle.jiff_core.proofs.SignedLemmas.{signed_arith, one_part}
use Rattle.jiff_core.proofs.CalendarLemmas.{days_from_civil-day_count, day_count-lt_year}
use Rattle.jiff_core.proofs.DateLemmas.{civil}
use Rattle.jiff_core.specs.declared.civil.date.Date.{Date}
use Rattle.jiff_core.specs.Date.{epoch_day}
use Rattle.std.proofs.lemmas.Int.{by_lt_z}
use Rattle.ssq_time.specs.Time.{moment, parts_text, stamp_text, IsStampTime}
use Rattle.ssq_time.proofs.Days.{first_day, year_of-days_from_civil, month_of-days_from_civil, day_in_month-days_from_civil}

-- a moment's day, and the microsecond of that day
moment-day : (day : ℤ) (second micro : ℕ) → second < 86400 → micro < 1_000_000 → int_div_euclid (moment day second micro) (pos 86_400_000_000) ≡ day
moment-day day second micro s u = omega (arith, signed_arith)

moment-rest : (day : ℤ) (second micro : ℕ) → second < 86400 → micro < 1_000_000 → unsigned_abs (int_rem_euclid (moment day second micro) (pos 86_400_000_000)) ≡ 1_000_000 * second + micro
moment-rest day second micro s u = omega (arith, signed_arith, one_part (int_rem_euclid (moment day second micro) (pos 86_400_000_000)))

pub stamp_text-parts : (y m d second micro : ℕ) → 1 ≤ y → IsCivilDate (pos y) m d → second < 86400 → micro < 1_000_000 → stamp_text (moment (days_from_civil (pos y) m d) second micro) ≡ parts_text y m d second micro
unfolding stamp_text
stamp_text-parts y m d second micro one h s u =
    let e : (1_000_000 * second + micro) / 1_000_000 ≡ second = omega arith in
    let f : (1_000_000 * second + micro) % 1_000_000 ≡ micro = omega arith in
    rw (
      moment-day (days_from_civil (pos y) m d) second micro s u,
      moment-rest (days_from_civil (pos y) m d) second micro s u,
      year_of-days_from_civil y m d one h,
      month_of-days_from_civil y m d one h,
      day_in_month-days_from_civil y m d one h,
      e,
      f,
    )

-- each time is the moment of its day and of the microsecond of that day
pub moment-parts : (t : ℤ) → t ≡ moment (int_div_euclid t (pos 86_400_000_000)) (unsigned_abs (int_rem_euclid t (pos 86_400_000_000)) / 1_000_000) (unsigned_abs (int_rem_euclid t (pos 86_400_000_000)) % 1_000_000)
moment-parts t = omega (arith, signed_arith, one_part (int_rem_euclid t (pos 86_400_000_000)))

pub rest_small : (t : ℤ) → unsigned_abs (int_rem_euclid t (pos 86_400_000_000)) < 86_400_000_000
rest_small t = omega (arith, signed_arith, one_part (int_rem_euclid t (pos 86_400_000_000)))

pub day_low : (t : ℤ) → IsStampTime t → neg_ℤ (pos 719_162) ≤ℤ int_div_euclid t (pos 86_400_000_000)
day_low t h = omega (arith, signed_arith, h.0)

pub day_high : (t : ℤ) → IsStampTime t → int_div_euclid t (pos 86_400_000_000) ≤ℤ pos 2_932_896
day_high t h = omega (arith, signed_arith, h.1)

-- a day of the calendar from 0001-01-01 on has a year from 1 on
pub year_from_first : (d : Date) → neg_ℤ (pos 719_162) ≤ℤ epoch_day d → pos 1 ≤ℤ d.year
year_from_first d low =
    by_lt_z d.year (pos 1)
    (λ lt. absurd (omega (
      arith,
      signed_arith,
      first_day,
      days_from_civil-day_count (pos 1) 1 1,
      days_from_civil-day_count d.year d.month d.day,
      day_count-lt_year d.year d.month d.day (pos 1) 1 1 (civil d) (omega arith) lt,
    )))
    (λ le. le)

year_pos : (y : ℤ) → pos 1 ≤ℤ y → pos (unsigned_abs y) ≡ y
year_pos y h = omega (arith, signed_arith, one_part y)

-- what the printer computes: `since` counts from -9999-01-01
pub parts_text-since : (t : ℤ) (d : Date) (year since : ℕ) → pos 1 ≤ℤ d.year → year ≡ unsigned_abs d.year → t +ℤ pos 377_705_116_800_000_000 ≡ pos since → epoch_day d +ℤ pos 4_371_587 ≡ pos (since / 86_400_000_000) → parts_text year d.month d.day (since % 86_400_000_000 / 1_000_000) (since % 86_400_000_000 % 1_000_000) ≡ stamp_text t
parts_text-since t d year since first is_year all days =
    let second = since % 86_400_000_000 / 1_000_000 in
    let micro = since % 86_400_000_000 % 1_000_000 in
    let same : pos year ≡ d.year = rw is_year (year_pos d.year first) in
    let P : ℤ → Type 0 = λ y. IsCivilDate y d.month d.day in
    let found : IsCivilDate (pos year) d.month d.day = subst P (sym same) (civil d) in
    let small : second < 86400 = omega arith in
    let text = stamp_text-parts year d.month d.day second micro (omega (arith, signed_arith, same)) found small (omega arith) in
    let e : t ≡ moment (days_from_civil (pos year) d.month d.day) second micro = rw same (omega (arith, signed_arith)) in
    rw e (sym text)
