-- The bytes of keys. Each value is spelled by a byte for its kind and by what its kind needs, so that no
-- spelling of a value begins another's.
use Rattle.std.specs.Prelude.{ℕ, suc, ◌+◌, ◌-◌, ◌^◌, ◌<◌, ℤ, pos, negsuc, if◌then◌else◌, List, [], ◌∷◌, ◌++◌, length, FitsSigned}
use Rattle.std.specs.Int.{w32, w64, to_be_bytes}
use Rattle.std.specs.List.{flat_map}
use Rattle.ssq_value.specs.declared.value.Value.{Value}
use Rattle.ssq_value.specs.declared.value.Value.TheVariants.{Null, Int, Text, Time, Truth}

-- a number of 64 bits plus 2 ^ 63, so that no sign is left
abbrev pub raised : ℤ → ℕ
raised (pos n) = 2 ^ 63 + n
raised (negsuc n) = 2 ^ 63 - suc n

-- NULL is 0; a truth value 1, and then 0 or 1; a number 2, and then eight bytes, the highest first; a time
-- 3 and likewise; a text 4, its length in four bytes, the highest first, and its bytes
abbrev pub key_of : Value → List ℕ
key_of Null = 0 ∷ []
key_of (Truth truth) = 1 ∷ (if truth then 1 else 0) ∷ []
key_of (Int number) = 2 ∷ to_be_bytes w64 (raised number)
key_of (Time time) = 3 ∷ to_be_bytes w64 (raised time)
key_of (Text text) = 4 ∷ (to_be_bytes w32 (length text) ++ text)

-- the values one after the other
unfoldable pub keys_of : List Value → List ℕ
keys_of values = flat_map key_of values

-- the length of a text is a number of four bytes
abbrev pub HasShortText : Value → Type 0
HasShortText (Text text) = length text < 2 ^ 32
HasShortText _ = Unit {0}

-- values that have a spelling: numbers and times of 64 bits, texts below 2 ^ 32 bytes
abbrev pub IsSpelled : Value → Type 0
IsSpelled Null = Unit {0}
IsSpelled (Truth truth) = Unit {0}
IsSpelled (Int number) = FitsSigned w64 number
IsSpelled (Time time) = FitsSigned w64 time
IsSpelled (Text text) = length text < 2 ^ 32
