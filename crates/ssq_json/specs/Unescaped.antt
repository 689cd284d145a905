-- One byte of a quoted text, from what stands for it. So much is asked of the reader, that it finds each byte where its own escape stands: what else
-- it makes a byte of is found out when the text is quoted again.
use Rattle.std.specs.Prelude.{ℕ, ◌+◌, ◌-◌, ◌==◌, nat_lt, List, [], ◌∷◌, Option, Some, None, option_and_then, if◌then◌else◌}

-- the byte that a letter after a backslash is short for
unfoldable pub short_for : ℕ → ℕ
short_for letter =
    if letter == 98 then 8
    else (if letter == 116 then 9
    else (if letter == 110 then 10
    else (if letter == 102 then 12
    else (if letter == 114 then 13 else letter))))

abbrev pub sixteens : ℕ → ℕ
sixteens high = if high == 49 then 16 else 0

abbrev pub units : ℕ → ℕ
units low = if nat_lt low 97 then low - 48 else low - 87

-- the byte below 32 whose last two hexadecimal digits these are
unfoldable pub control : ℕ → ℕ → ℕ
control high low = sixteens high + units low

abbrev pub first_at : List ℕ → Option (ℕ × List ℕ)
first_at [] = None
first_at (first ∷ rest) = Some (first, rest)

-- after `\u`: two digits that are passed over, and two that count
unfoldable pub control_at : List ℕ → Option (ℕ × List ℕ)
control_at text =
    option_and_then (λ a. option_and_then (λ b. option_and_then (λ high. option_and_then (λ low.
    Some (control high.0 low.0, low.1)) (first_at high.1)) (first_at b.1)) (first_at a.1)) (first_at text)

-- after a backslash
unfoldable pub escaped_at : List ℕ → Option (ℕ × List ℕ)
escaped_at text = option_and_then (λ letter. if letter.0 == 117 then control_at letter.1 else Some (short_for letter.0, letter.1)) (first_at text)

-- The first byte of a text, and what follows what stands for it; none at a quote.
unfoldable pub byte_at : List ℕ → Option (ℕ × List ℕ)
byte_at text =
    option_and_then (λ first. if first.0 == 34 then None else (if first.0 == 92 then escaped_at first.1 else Some first)) (first_at text)
