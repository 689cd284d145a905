-- Decimal numbers at the front of bytes. `decimal` is std's: the digits of a number without leading zeros.
use Rattle.std.specs.Prelude.{◌≡◌, ℕ, ◌+◌, ◌*◌, ◌-◌, Bool, true, false, not, ◌==◌, ◌&&◌, nat_le, List, [], ◌∷◌}

-- the byte of a digit, '0' to '9'
abbrev pub is_digit : ℕ → Bool
is_digit byte = nat_le 48 byte && nat_le byte 57

-- All digits in front belong to one number, so no digit may follow it: "007" and "0" before "07" are none.
abbrev pub NoDigit : List ℕ → Type 0
NoDigit [] = Unit {0}
NoDigit (byte ∷ rest) = is_digit byte ≡ false

-- the number that has these digits after those of `number`
abbrev pub number_after : ℕ → List ℕ → ℕ
number_after number [] = number
number_after number (digit ∷ digits) = number_after (10 * number + (digit - 48)) digits

-- there are digits, and the first of several is not 0
abbrev pub is_plain : List ℕ → Bool
is_plain [] = false
is_plain (digit ∷ []) = true
is_plain (first ∷ second ∷ digits) = not (first == 48)
