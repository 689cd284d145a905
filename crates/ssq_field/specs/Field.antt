-- Fields at the front of bytes. A kind of field says how each of its values is spelled, which values have
-- a spelling, and what may stand after one.
use Rattle.std.specs.Prelude.{◌≡◌, ℕ, ◌^◌, ◌<◌, ℤ, List, ◌++◌, length, drop, Option, Some, FitsSigned}
use Rattle.std.specs.Int.{w128, cast_unsigned, to_be_bytes}

-- The bytes are a spelling of the value, `taken` bytes long, and then what may follow it.
pub record BeginsWith {X : Type 0} (spelled : X → List ℕ) (MayFollow : List ℕ → Type 0) (bytes : List ℕ) (value : X) (taken : ℕ) : Type 0 where
  pub parts : bytes ≡ spelled value ++ drop taken bytes
  pub len : taken ≡ length (spelled value)
  pub after : MayFollow (drop taken bytes)

-- Wherever the bytes are a spelling and then what may follow it, its value was found, and the spelling's
-- length. So nothing is found only where no front of the bytes is a spelling.
abbrev pub FindsEach : {X : Type 0} → (X → List ℕ) → (X → Type 0) → (List ℕ → Type 0) → List ℕ → Option (X × ℕ) → Type 0
FindsEach {X} spelled Fits MayFollow bytes found = (value : X) (rest : List ℕ) → Fits value → MayFollow rest → bytes ≡ spelled value ++ rest → found ≡ Some (value, length (spelled value))

-- Each value has one spelling, and no spelling before what may follow it is another's.
abbrev pub AreApart : {X : Type 0} → (X → List ℕ) → (X → Type 0) → (List ℕ → Type 0) → Type 0
AreApart {X} spelled Fits MayFollow = (left right : X) (x y : List ℕ) → Fits left → Fits right → MayFollow x → MayFollow y → spelled left ++ x ≡ spelled right ++ y → (left ≡ right) × (x ≡ y)

-- a field of fixed length may stand before any bytes
abbrev pub Anything : List ℕ → Type 0
Anything bytes = Unit {0}

abbrev pub Fits32 : ℕ → Type 0
Fits32 number = number < 2 ^ 32

abbrev pub Fits64 : ℕ → Type 0
Fits64 number = number < 2 ^ 64

abbrev pub Fits128 : ℤ → Type 0
Fits128 number = FitsSigned w128 number

-- a number of 128 bits with its sign: 2 ^ 128 is added to a number below 0
unfoldable pub twos_complement : ℤ → List ℕ
twos_complement number = to_be_bytes w128 (cast_unsigned w128 number)
