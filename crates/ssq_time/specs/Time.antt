-- The texts of times and spans. A time is a number of microseconds since 1970-01-01T00:00:00Z, by the proleptic
-- Gregorian calendar, without leap seconds. Bytes are numbers: 32 is a space, 45 `-`, 46 `.`, 48 `0`, 57 `9`, 58 `:`,
-- 84 `T` and 90 `Z`.
use Rattle.std.specs.Prelude.{Bool, ℕ, zero, suc, ◌+◌, ◌-◌, ◌*◌, ◌/◌, ◌%◌, ◌==◌, ◌&&◌, ◌||◌, take, drop, position, codes, bytes_eq, nat_lt, nat_le, ℤ, pos, neg_ℤ, ◌+ℤ◌, ◌-ℤ◌, ◌*ℤ◌, ◌≤ℤ◌, int_le, unsigned_abs, List, [], ◌∷◌, ◌++◌, length, slice_index, Option, Some, None, option_and_then, if◌then◌else◌}
use Rattle.std.specs.Int.{int_div_euclid, int_rem_euclid}
use Rattle.jiff_core.specs.Calendar.{days_from_civil, days_in_month}

infixl 10 ◌>>=◌
abbrev pub ◌>>=◌ : {A B : Type 0} → Option A → (A → Option B) → Option B
o >>= f = option_and_then f o

-- the value of a digit
unfoldable pub digit_of : ℕ → Option ℕ
digit_of byte = if nat_le 48 byte && nat_le byte 57 then Some (byte - 48) else None

-- the number that two digits spell, from that place of the text on
unfoldable pub two_at : List ℕ → ℕ → Option ℕ
two_at text at = do
  tens ← digit_of (slice_index text at)
  units ← digit_of (slice_index text (at + 1))
  Some (10 * tens + units)

-- the number of a day, where the calendar has that day and the year is one of `first` to `last`
unfoldable pub day_number : ℕ → ℕ → ℕ → ℕ → ℕ → Option ℤ
day_number first last year month day =
    if nat_le first year && nat_le year last && nat_le 1 month && nat_le month 12 && nat_le 1 day
    && nat_le day (days_in_month (pos year) month)
    then Some (days_from_civil (pos year) month day) else None

-- `YYYY-MM-DD` at the head of the text
unfoldable pub day_at_head : ℕ → ℕ → List ℕ → Option ℤ
day_at_head first last text = do
  century ← two_at text 0
  year ← two_at text 2
  month ← two_at text 5
  day ← two_at text 8
  if (slice_index text 4 == 45) && (slice_index text 7 == 45)
      then day_number first last (100 * century + year) month day else None

-- the seconds of a day up to that time of day: hours end at 23, minutes and seconds at 59
unfoldable pub second_number : ℕ → ℕ → ℕ → Option ℕ
second_number hour minute second =
    if nat_le hour 23 && nat_le minute 59 && nat_le second 59
    then Some (3600 * hour + 60 * minute + second) else None

-- `THH:MM:SS` after the day
unfoldable pub second_behind_day : List ℕ → Option ℕ
second_behind_day text = do
  hour ← two_at text 11
  minute ← two_at text 14
  second ← two_at text 17
  if (slice_index text 10 == 84) && (slice_index text 13 == 58) && (slice_index text 16 == 58)
      then second_number hour minute second else None

-- the digit that counts at that place after the point, where `written` digits stand: those that do not stand are 0
unfoldable pub decimal_at : List ℕ → ℕ → ℕ → Option ℕ
decimal_at text written at =
    if nat_lt at written then digit_of (slice_index text (20 + at)) else Some 0

-- `.` and that many digits after the seconds: microseconds
unfoldable pub micros_written : ℕ → List ℕ → Option ℕ
micros_written written text = do
  a ← decimal_at text written 0
  b ← decimal_at text written 1
  c ← decimal_at text written 2
  d ← decimal_at text written 3
  e ← decimal_at text written 4
  f ← decimal_at text written 5
  if slice_index text 19 == 46
      then Some (100000 * a + 10000 * b + 1000 * c + 100 * d + 10 * e + f) else None

-- nothing after the seconds, or a point and one to six digits, and then `Z`, which ends the text
unfoldable pub micros_of : List ℕ → Option ℕ
micros_of text =
    if slice_index text (length text - 1) == 90 then
    (if length text == 20 then Some 0
    else (if nat_le 22 (length text) && nat_le (length text) 27
    then micros_written (length text - 21) text else None))
    else None

-- a day's number, a second of that day and a microsecond of that second, as one number
abbrev pub moment : ℤ → ℕ → ℕ → ℤ
moment day second micro = (day *ℤ pos 86_400_000_000) +ℤ pos (1_000_000 * second + micro)

-- the time that a text is: `YYYY-MM-DDTHH:MM:SS`, then `.` and one to six digits or nothing, then `Z`;
-- the year is one of 1000 to 9000
unfoldable pub time_of : List ℕ → Option ℤ
time_of text =
    if nat_lt (length text) 20 then None else do
      day ← day_at_head 1000 9000 text
      second ← second_behind_day text
      micro ← micros_of text
      Some (moment day second micro)

-- a time of the years 1000 to 9000, as each time of a line is
abbrev pub IsLineTime : ℤ → Type 0
IsLineTime t = (neg_ℤ (pos 30_610_224_000_000_000) ≤ℤ t) × (t ≤ℤ pos 221_876_927_999_999_999)

-- the first and the last time of the years 0001 to 9999
abbrev pub first_stamp : ℤ
first_stamp = neg_ℤ (pos 62_135_596_800_000_000)

abbrev pub last_stamp : ℤ
last_stamp = pos 253_402_300_799_999_999

-- a time of the years 0001 to 9999, which alone are printed
abbrev pub IsStampTime : ℤ → Type 0
IsStampTime t = (first_stamp ≤ℤ t) × (t ≤ℤ last_stamp)

-- whether it is one
abbrev pub is_stamp_time : ℤ → Bool
is_stamp_time t = int_le first_stamp t && int_le t last_stamp

-- a point and six digits that are not all 0
unfoldable pub six_micros_of : List ℕ → Option ℕ
six_micros_of text = do
  micro ← micros_written 6 text
  if micro == 0 then None else Some micro

-- nothing after the seconds, or six such digits, and then `Z`, which ends the text
unfoldable pub stamp_micros_of : List ℕ → Option ℕ
stamp_micros_of text =
    if slice_index text (length text - 1) == 90 then
    (if length text == 20 then Some 0 else (if length text == 27 then six_micros_of text else None))
    else None

-- the time that a printed text is, where the year is one of 0001 to 9999
unfoldable pub stamp_of : List ℕ → Option ℤ
stamp_of text =
    if nat_lt (length text) 20 then None else do
      day ← day_at_head 1 9999 text
      second ← second_behind_day text
      micro ← stamp_micros_of text
      Some (moment day second micro)

-- the last of the first n, counted from 1, that has begun by that day
unfoldable pub last_begun : (ℕ → ℤ) → ℕ → ℤ → ℕ
last_begun start zero day = 0
last_begun start (suc n) day = if int_le (start (suc n)) day then suc n else last_begun start n day

-- the year in which a day lies: the last from 1 to 9999 whose first of January is not after the day
unfoldable pub year_of : ℤ → ℕ
year_of day = last_begun (λ year. days_from_civil (pos year) 1 1) 9999 day

-- the month of that year in which the day lies: the last whose first day is not after it
unfoldable pub month_of : ℤ → ℕ
month_of day = last_begun (λ month. days_from_civil (pos (year_of day)) month 1) 12 day

-- the day's place in that month, from 1
unfoldable pub day_in_month : ℤ → ℕ
day_in_month day = unsigned_abs (day -ℤ days_from_civil (pos (year_of day)) (month_of day) 1) + 1

-- the two digits of a number below 100
abbrev pub two_digits : ℕ → List ℕ
two_digits n = (48 + n / 10) ∷ (48 + n % 10) ∷ []

-- `YYYY-MM-DDTHH:MM:SS`
abbrev pub second_text : ℕ → ℕ → ℕ → ℕ → List ℕ
second_text year month day second =
    two_digits (year / 100) ++ two_digits (year % 100) ++ 45 ∷ two_digits month ++ 45 ∷ two_digits day
    ++ 84 ∷ two_digits (second / 3600) ++ 58 ∷ two_digits (second / 60 % 60) ++ 58 ∷ two_digits (second % 60)

-- a point and six digits, where there is a fraction
abbrev pub micros_text : ℕ → List ℕ
micros_text micro =
    if micro == 0 then []
    else 46 ∷ two_digits (micro / 10000) ++ two_digits (micro / 100 % 100) ++ two_digits (micro % 100)

-- the text of a second and a microsecond of that second of a day of the calendar
unfoldable pub parts_text : ℕ → ℕ → ℕ → ℕ → ℕ → List ℕ
parts_text year month day second micro = second_text year month day second ++ micros_text micro ++ 90 ∷ []

-- the text of a time: `YYYY-MM-DDTHH:MM:SSZ`, with a point and six digits before the `Z` where the fraction isn't 0
unfoldable pub stamp_text : ℤ → List ℕ
stamp_text t =
    let day = int_div_euclid t (pos 86_400_000_000) in
    let micro = unsigned_abs (int_rem_euclid t (pos 86_400_000_000)) in
    parts_text (year_of day) (month_of day) (day_in_month day) (micro / 1_000_000) (micro % 1_000_000)

-- what n and then those digits spell, where all bytes are digits
unfoldable pub digits_after : ℕ → List ℕ → Option ℕ
digits_after n [] = Some n
digits_after n (byte ∷ rest) = do
  digit ← digit_of byte
  digits_after (10 * n + digit) rest

-- the number that a text spells: digits alone, at least one, and the first of them is not 0
unfoldable pub number_of : List ℕ → Option ℕ
number_of text =
    if (length text == 0) || (slice_index text 0 == 48) then None else digits_after 0 text

-- the seconds of a unit of time
unfoldable pub unit_of : List ℕ → Option ℕ
unit_of word =
    if bytes_eq word (codes "second") || bytes_eq word (codes "seconds") then Some 1
    else (if bytes_eq word (codes "minute") || bytes_eq word (codes "minutes") then Some 60
    else (if bytes_eq word (codes "hour") || bytes_eq word (codes "hours") then Some 3600
    else (if bytes_eq word (codes "day") || bytes_eq word (codes "days") then Some 86400 else None)))

-- that many seconds as a span, which is 1 second to 366 days long
unfoldable pub span_from : ℕ → Option ℤ
span_from seconds =
    if nat_le 1 seconds && nat_le seconds 31_622_400 then Some (pos (1_000_000 * seconds)) else None

-- the span of a number of units
unfoldable pub span_with : Option ℕ → Option ℕ → Option ℤ
span_with number unit = do
  n ← number
  seconds ← unit
  span_from (n * seconds)

-- the span that a text is: a number, one space and a unit
unfoldable pub span_of : List ℕ → Option ℤ
span_of text = do
  space ← position (λ byte. byte == 32) text
  span_with (number_of (take space text)) (unit_of (drop (space + 1) text))

-- a span is 1 second to 366 days long
abbrev pub IsSpan : ℤ → Type 0
IsSpan span = (pos 1_000_000 ≤ℤ span) × (span ≤ℤ pos 31_622_400_000_000)

-- the number, where it is no greater than the seconds of 366 days
unfoldable pub at_most_longest : Option ℕ → Option ℕ
at_most_longest number = do
  n ← number
  if nat_le n 31_622_400 then Some n else None
