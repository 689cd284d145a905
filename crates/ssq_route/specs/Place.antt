-- The partitions of keys.
use Rattle.std.specs.Prelude.{ℕ, ◌*◌, ◌%◌, ◌^◌, List, fold, bit_xor}

-- one more byte: exclusive or with it, and then times the prime, at 64 bits
abbrev pub with_byte : ℕ → ℕ → ℕ
with_byte hash byte = (bit_xor hash byte * 1099511628211) % 2 ^ 64

-- the FNV-1a hash of 64 bits, which takes the bytes in order from the offset basis
unfoldable pub fnv_1a : List ℕ → ℕ
fnv_1a bytes = fold with_byte 14695981039346656037 bytes

-- the partition of a key, of so many
abbrev pub place_of : List ℕ → ℕ → ℕ
place_of key partitions = fnv_1a key % partitions
