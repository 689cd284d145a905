-- The year, the month and the day of a day's number.
use Rattle.std.proofs.Common.{◌≡◌, ℕ, zero, suc, ◌+◌, ◌<◌, ◌≤◌, inl, inr, sym, ◌∙◌, refl, arith, ℤ, pos, neg_ℤ, ◌-ℤ◌, ◌<ℤ◌, ◌≤ℤ◌, int_le, unsigned_abs, add-one, true, false}
use Rattle.std.proofs.lemmas.Bool.{cases_order}
use Rattle.std.proofs.lemmas.Int.{by_lt_z, ints}
use Rattle.jiff_core.specs.Calendar.{day_count, days_from_civil, days_in_month, IsCivilDate}
use Rattle.jiff_core.proofs.SignedLemmas.{signed_arith, one_part}
use Rattle.jiff_core.proofs.CalendarLemmas.{days_from_civil-day_count, day_count-day_of_year, day_count-lt_year, day_count-lt_month, day_count-end, day_count-next_month, day_count-next_year, day_count-day, day_count-last_of_year}
use Rattle.jiff_core.proofs.MarchLemmas.{day_count-early}
use Rattle.jiff_core.proofs.DateLemmas.{days_from_civil-day}
use Rattle.ssq_time.specs.Time.{last_begun, year_of, month_of, day_in_month}

pub int_le-true : (a b : ℤ) → a ≤ℤ b → int_le a b ≡ true
int_le-true a b h = grind (arith, ints)

int_le-false : (a b : ℤ) → b <ℤ a → int_le a b ≡ false
int_le-false a b h = grind (arith, ints)

last_begun-here : (start : ℕ → ℤ) (n : ℕ) (day : ℤ) → start (suc n) ≤ℤ day → last_begun start (suc n) day ≡ suc n
unfolding last_begun
last_begun-here start n day h = rw (int_le-true (start (suc n)) day h)

last_begun-before : (start : ℕ → ℤ) (n : ℕ) (day : ℤ) → day <ℤ start (suc n) → last_begun start (suc n) day ≡ last_begun start n day
unfolding last_begun
last_begun-before start n day h = rw (int_le-false (start (suc n)) day h)

-- one that has begun by the day, and after which none has begun by then, is the last
pub last_begun_is : (start : ℕ → ℤ) (n m : ℕ) (day : ℤ) → 1 ≤ m → m ≤ n → start m ≤ℤ day → ((k : ℕ) → m < k → k ≤ n → day <ℤ start k) → last_begun start n day ≡ m
last_begun_is start zero m day one within begun later = absurd (omega arith)
last_begun_is start (suc n) m day one within begun later =
    elim (cases_order m (suc n)) [
      | inl same ↦ last_begun-here start n day (rw (← same) begun) ∙ sym same
      | inr (inl before) ↦
          last_begun-before start n day (later (suc n) before (omega arith))
          ∙ last_begun_is start n m day one (omega arith) begun (λ k after small. later k after (omega arith))
      | inr (inr after) ↦ absurd (omega arith)
    ]

-- where the first has begun and the one after all has not, the last that has begun is one of them
pub record IsLastBegun (start : ℕ → ℤ) (n : ℕ) (day : ℤ) (m : ℕ) : Type 0 where
  pub first : 1 ≤ m
  pub last : m ≤ n
  pub begun : start m ≤ℤ day
  pub next : day <ℤ start (suc m)

pub last_begun_within : (start : ℕ → ℤ) (n : ℕ) (day : ℤ) → start 1 ≤ℤ day → day <ℤ start (suc n) → IsLastBegun start n day (last_begun start n day)
last_begun_within start zero day begun later = absurd (omega (arith, ints))
last_begun_within start (suc n) day begun later =
    by_lt_z day (start (suc n))
    (λ lt. rw (last_begun-before start n day lt)
    (let h : IsLastBegun start n day (last_begun start n day) = last_begun_within start n day begun lt in
    record { first = h.first; last = omega (arith, h.last); begun = h.begun; next = h.next }))
    (λ ge. rw (last_begun-here start n day ge)
    (record { first = omega arith; last = omega arith; begun = ge; next = later }))

-- the day's number is that of 1 January of the year and the days between
pub january-le : (y : ℤ) (m d : ℕ) → 1 ≤ d → days_from_civil y 1 1 ≤ℤ days_from_civil y m d
january-le y m d h =
    omega (arith, signed_arith, days_from_civil-day_count y 1 1, days_from_civil-day_count y m d, day_count-day_of_year y m d h)

pub year_of-days_from_civil : (y m d : ℕ) → 1 ≤ y → IsCivilDate (pos y) m d → year_of (days_from_civil (pos y) m d) ≡ y
unfolding year_of
year_of-days_from_civil y m d one h =
    last_begun_is (λ year. days_from_civil (pos year) 1 1) 9999 y (days_from_civil (pos y) m d) one (omega (arith, signed_arith, h.0))
    (january-le (pos y) m d h.2.0)
    (λ k after small.
    let count = day_count-lt_year (pos y) m d (pos k) 1 1 h (omega arith) (omega (arith, signed_arith)) in
    omega (arith, signed_arith, days_from_civil-day_count (pos k) 1 1, days_from_civil-day_count (pos y) m d, count))

month_is : (y : ℤ) (m d : ℕ) → IsCivilDate y m d → last_begun (λ month. days_from_civil y month 1) 12 (days_from_civil y m d) ≡ m
month_is y m d h =
    last_begun_is (λ month. days_from_civil y month 1) 12 m (days_from_civil y m d) h.1.0 h.1.1
    (omega (arith, signed_arith, days_from_civil-day y m d 1 h.2.0 (omega arith), h.2.0))
    (λ k after small.
    let count = day_count-lt_month y m d k 1 h (omega arith) after in
    omega (arith, signed_arith, days_from_civil-day_count y k 1, days_from_civil-day_count y m d, count))

pub month_of-days_from_civil : (y m d : ℕ) → 1 ≤ y → IsCivilDate (pos y) m d → month_of (days_from_civil (pos y) m d) ≡ m
unfolding month_of
month_of-days_from_civil y m d one h = rw (year_of-days_from_civil y m d one h) (month_is (pos y) m d h)

pub day_in_month-days_from_civil : (y m d : ℕ) → 1 ≤ y → IsCivilDate (pos y) m d → day_in_month (days_from_civil (pos y) m d) ≡ d
unfolding day_in_month
day_in_month-days_from_civil y m d one h =
    rw (year_of-days_from_civil y m d one h, month_of-days_from_civil y m d one h)
    (omega (arith, signed_arith, days_from_civil-day (pos y) m d 1 h.2.0 (omega arith), h.2.0, one_part (days_from_civil (pos y) m d -ℤ days_from_civil (pos y) m 1)))

-- 0001-01-01
pub first_day : days_from_civil (pos 1) 1 1 ≡ neg_ℤ (pos 719_162)
first_day = omega (arith, signed_arith, days_from_civil-day_count (pos 1) 1 1, day_count-early (pos 1) 10000 1 1 refl (omega arith) (omega arith) (omega arith))

pub day_behind : days_from_civil (pos 10000) 1 1 ≡ pos 2_932_897
day_behind = omega (arith, signed_arith, days_from_civil-day_count (pos 10000) 1 1, day_count-end)

-- a day of the years 1 to 9999 is the day of the calendar that its year, month and day name
pub record IsDayOfParts (day : ℤ) : Type 0 where
  pub year : 1 ≤ year_of day
  pub civil : IsCivilDate (pos (year_of day)) (month_of day) (day_in_month day)
  pub number : days_from_civil (pos (year_of day)) (month_of day) (day_in_month day) ≡ day

year_within : (day : ℤ) → neg_ℤ (pos 719_162) ≤ℤ day → day ≤ℤ pos 2_932_896 → IsLastBegun (λ year. days_from_civil (pos year) 1 1) 9999 day (year_of day)
unfolding year_of
year_within day low high =
    last_begun_within (λ year. days_from_civil (pos year) 1 1) 9999 day (omega (arith, signed_arith, first_day)) (omega (arith, signed_arith, day_behind))

-- the year ends where the thirteenth month would begin
thirteenth : (y : ℕ) → days_from_civil (pos y) 13 1 ≡ days_from_civil (pos (suc y)) 1 1
thirteenth y =
    omega (
      arith,
      signed_arith,
      days_from_civil-day_count (pos y) 13 1,
      days_from_civil-day_count (pos (suc y)) 1 1,
      day_count-next_month (pos y) 12 (omega arith),
      day_count-day (pos y) 12 31 1 (omega arith) (omega arith),
      day_count-last_of_year (pos y),
      day_count-next_year (pos y) (pos (suc y)) (omega (arith, signed_arith)) (omega (arith, signed_arith)),
    )

month_within : (day : ℤ) → neg_ℤ (pos 719_162) ≤ℤ day → day ≤ℤ pos 2_932_896 → IsLastBegun (λ month. days_from_civil (pos (year_of day)) month 1) 12 day (month_of day)
unfolding month_of
month_within day low high =
    let year = year_within day low high in
    last_begun_within (λ month. days_from_civil (pos (year_of day)) month 1) 12 day year.begun
    (rw (thirteenth (year_of day)) year.next)

day_within : (y m d : ℕ) (day : ℤ) → days_from_civil (pos y) m 1 ≤ℤ day → day <ℤ days_from_civil (pos y) (suc m) 1 → 1 ≤ m → d ≡ unsigned_abs (day -ℤ days_from_civil (pos y) m 1) + 1 → (d ≤ days_in_month (pos y) m) × (days_from_civil (pos y) m d ≡ day)
day_within y m d day low high one e =
    let next : day_count (pos y) (suc m) 1 ≡ day_count (pos y) m 1 + days_in_month (pos y) m = rw (← add-one m) (day_count-next_month (pos y) m one) in
    let parts = one_part (day -ℤ days_from_civil (pos y) m 1) in (
      omega (arith, signed_arith, days_from_civil-day_count (pos y) m 1, days_from_civil-day_count (pos y) (suc m) 1),
      omega (arith, signed_arith, days_from_civil-day (pos y) m d 1 (omega arith) (omega arith)),
    )

pub day_of_parts : (day : ℤ) → neg_ℤ (pos 719_162) ≤ℤ day → day ≤ℤ pos 2_932_896 → IsDayOfParts day
unfolding day_in_month
day_of_parts day low high =
    let year = year_within day low high in
    let month = month_within day low high in
    let inside = day_within (year_of day) (month_of day) (day_in_month day) day month.begun month.next month.first refl in
    record {
      year = year.first;
      civil = (omega (arith, signed_arith, year.last), (month.first, month.last), (omega arith, inside.0));
      number = inside.1;
    }
