-- Numbers of 4, 8 and 16 bytes, as they are put and as they are taken.
use Rattle.std.proofs.Common.{◌≡◌, ℕ, ◌+◌, ◌*◌, ◌/◌, ◌%◌, ◌^◌, ◌<◌, ◌≤◌, ℤ, pos, negsuc, List, ◌++◌, length, get_or, take, drop, refl, sym, ap, ap₂, ◌∙◌, take-append-drop, arith, inl, inr}
use Rattle.std.specs.Int.{w32, w64, w128, to_be_bytes, from_be_bytes, cast_signed, cast_unsigned}
use Rattle.std.proofs.Math.Nat as nat
use Rattle.std.proofs.lemmas.Bool.{cases_lt}
use Rattle.std.proofs.lemmas.List.{length-take, length-drop, get_or-drop, get_or-take, get_or_past, take_at}
use Rattle.std.proofs.lemmas.Nat.{be_bytes_4, be_bytes_8, from_be_bytes-to_be_bytes_8}
use Rattle.std.proofs.lemmas.Int.{of_z-to_z, to_z-of_z}
use Rattle.ssq_field.specs.Field.{BeginsWith, Anything, Fits128, twos_complement}

abbrev pub IsBytes : List ℕ → Type 0
IsBytes bytes = (i : ℕ) → get_or bytes i 0 < 256

pub IsBytes-drop : (n : ℕ) (bytes : List ℕ) → IsBytes bytes → IsBytes (drop n bytes)
IsBytes-drop n bytes h i = rw get_or-drop (h (n + i))

pub IsBytes-take : (n : ℕ) (bytes : List ℕ) → IsBytes bytes → IsBytes (take n bytes)
IsBytes-take n bytes h i =
    elim (cases_lt i n) [
      | inl lt ↦ rw (get_or-take n bytes i 0 lt) (h i)
      | inr le ↦ rw (get_or_past (take n bytes) i 0 (omega (arith, length-take n bytes))) (omega arith)
    ]

-- what is spelled by the bytes in front begins the bytes
begins : {X : Type 0} (spelled : X → List ℕ) (bytes : List ℕ) (value : X) (taken : ℕ) → taken ≤ length bytes → spelled value ≡ take taken bytes → BeginsWith spelled Anything bytes value taken
begins spelled bytes value taken room is = record {
  parts = sym (take-append-drop taken bytes) ∙ ap (λ (front : List ℕ). front ++ drop taken bytes) (sym is);
  len = sym (ap length is ∙ omega (arith, length-take taken bytes));
  after = tt;
}

pub begins_32 : (bytes chunk : List ℕ) (n : ℕ) → IsBytes bytes → 4 ≤ length bytes → chunk ≡ take 4 bytes → n ≡ from_be_bytes w32 chunk → BeginsWith (to_be_bytes w32) Anything bytes n 4
begins_32 bytes chunk n small room is value =
    begins (to_be_bytes w32) bytes n 4 room (be_bytes_4 (take 4 bytes) n (omega (arith, length-take 4 bytes)) (IsBytes-take 4 bytes small) (value ∙ ap (from_be_bytes w32) is))

pub begins_64 : (bytes chunk : List ℕ) (n : ℕ) → IsBytes bytes → 8 ≤ length bytes → chunk ≡ take 8 bytes → n ≡ from_be_bytes w64 chunk → BeginsWith (to_be_bytes w64) Anything bytes n 8
begins_64 bytes chunk n small room is value =
    begins (to_be_bytes w64) bytes n 8 room (be_bytes_8 (take 8 bytes) n (omega (arith, length-take 8 bytes)) (IsBytes-take 8 bytes small) (value ∙ ap (from_be_bytes w64) is))

-- ---- sixteen bytes are twice eight

halves : (n : ℕ) → to_be_bytes w128 n ≡ to_be_bytes w64 (n / 2 ^ 64) ++ to_be_bytes w64 (n % 2 ^ 64)
halves n =
    let high_1 : n / 18446744073709551616 / 256 ≡ n / 4722366482869645213696 = nat.div-div-eq-div-mul n 18446744073709551616 256 in
    let high_2 : n / 18446744073709551616 / 65536 ≡ n / 1208925819614629174706176 = nat.div-div-eq-div-mul n 18446744073709551616 65536 in
    let high_3 : n / 18446744073709551616 / 16777216 ≡ n / 309485009821345068724781056 = nat.div-div-eq-div-mul n 18446744073709551616 16777216 in
    let high_4 : n / 18446744073709551616 / 4294967296 ≡ n / 79228162514264337593543950336 = nat.div-div-eq-div-mul n 18446744073709551616 4294967296 in
    let high_5 : n / 18446744073709551616 / 1099511627776 ≡ n / 20282409603651670423947251286016 = nat.div-div-eq-div-mul n 18446744073709551616 1099511627776 in
    let high_6 : n / 18446744073709551616 / 281474976710656 ≡ n / 5192296858534827628530496329220096 = nat.div-div-eq-div-mul n 18446744073709551616 281474976710656 in
    let high_7 : n / 18446744073709551616 / 72057594037927936 ≡ n / 1329227995784915872903807060280344576 = nat.div-div-eq-div-mul n 18446744073709551616 72057594037927936 in
    let low_0 : n % 18446744073709551616 % 256 ≡ n % 256 = omega arith in
    let low_1 : n % 18446744073709551616 / 256 % 256 ≡ n / 256 % 256 = omega arith in
    let low_2 : n % 18446744073709551616 / 65536 % 256 ≡ n / 65536 % 256 = omega arith in
    let low_3 : n % 18446744073709551616 / 16777216 % 256 ≡ n / 16777216 % 256 = omega arith in
    let low_4 : n % 18446744073709551616 / 4294967296 % 256 ≡ n / 4294967296 % 256 = omega arith in
    let low_5 : n % 18446744073709551616 / 1099511627776 % 256 ≡ n / 1099511627776 % 256 = omega arith in
    let low_6 : n % 18446744073709551616 / 281474976710656 % 256 ≡ n / 281474976710656 % 256 = omega arith in
    let low_7 : n % 18446744073709551616 / 72057594037927936 % 256 ≡ n / 72057594037927936 % 256 = omega arith in
    simp (high_1, high_2, high_3, high_4, high_5, high_6, high_7, low_0, low_1, low_2, low_3, low_4, low_5, low_6, low_7)

-- what sixteen bytes stand for
joined : (bytes : List ℕ) → from_be_bytes w128 bytes ≡ 2 ^ 64 * from_be_bytes w64 (take 8 bytes) + from_be_bytes w64 (drop 8 bytes)
joined bytes =
    omega (arith, get_or-take 8 bytes 0 0 (omega arith), get_or-take 8 bytes 1 0 (omega arith), get_or-take 8 bytes 2 0 (omega arith), get_or-take 8 bytes 3 0 (omega arith), get_or-take 8 bytes 4 0 (omega arith), get_or-take 8 bytes 5 0 (omega arith), get_or-take 8 bytes 6 0 (omega arith), get_or-take 8 bytes 7 0 (omega arith), get_or-drop 8 bytes 0 0, get_or-drop 8 bytes 1 0, get_or-drop 8 bytes 2 0, get_or-drop 8 bytes 3 0, get_or-drop 8 bytes 4 0, get_or-drop 8 bytes 5 0, get_or-drop 8 bytes 6 0, get_or-drop 8 bytes 7 0)

-- the numbers of eight bytes are below 2 ^ 64
below_64 : (bytes : List ℕ) → IsBytes bytes → from_be_bytes w64 bytes < 2 ^ 64
below_64 bytes small = omega (arith, small 0, small 1, small 2, small 3, small 4, small 5, small 6, small 7)

pub be_bytes_16 : (bytes : List ℕ) (n : ℕ) → length bytes ≡ 16 → IsBytes bytes → n ≡ from_be_bytes w128 bytes → to_be_bytes w128 n ≡ bytes
be_bytes_16 bytes n len small is =
    let high = from_be_bytes w64 (take 8 bytes) in
    let low = from_be_bytes w64 (drop 8 bytes) in
    let parts : n ≡ 2 ^ 64 * high + low = is ∙ joined bytes in
    let fits : low < 2 ^ 64 = below_64 (drop 8 bytes) (IsBytes-drop 8 bytes small) in
    let above : n / 2 ^ 64 ≡ high = omega arith in
    let rest : n % 2 ^ 64 ≡ low = omega arith in
    halves n ∙ ap₂ (λ (h l : ℕ). to_be_bytes w64 h ++ to_be_bytes w64 l) above rest
    ∙ ap₂ (λ (front back : List ℕ). front ++ back) (be_bytes_8 (take 8 bytes) high (omega (arith, length-take 8 bytes)) (IsBytes-take 8 bytes small) refl) (be_bytes_8 (drop 8 bytes) low (omega (arith, length-drop 8 bytes)) (IsBytes-drop 8 bytes small) refl)
    ∙ take-append-drop 8 bytes

pub from_be_bytes-to_be_bytes_16 : (n : ℕ) → n < 2 ^ 128 → from_be_bytes w128 (to_be_bytes w128 n) ≡ n
from_be_bytes-to_be_bytes_16 n fits =
    let high = to_be_bytes w64 (n / 2 ^ 64) in
    let low = to_be_bytes w64 (n % 2 ^ 64) in
    let front : from_be_bytes w64 high ≡ n / 2 ^ 64 = from_be_bytes-to_be_bytes_8 (n / 2 ^ 64) (omega arith) in
    let back : from_be_bytes w64 low ≡ n % 2 ^ 64 = from_be_bytes-to_be_bytes_8 (n % 2 ^ 64) (omega arith) in
    ap (from_be_bytes w128) (halves n) ∙ joined (high ++ low) ∙ omega (arith, front, back)

pub begins_128 : (bytes chunk : List ℕ) (n : ℕ) → IsBytes bytes → 16 ≤ length bytes → chunk ≡ take 16 bytes → n ≡ from_be_bytes w128 chunk → BeginsWith twos_complement Anything bytes (cast_signed w128 n) 16
unfolding twos_complement
begins_128 bytes chunk n small room is value =
    let front : n ≡ from_be_bytes w128 (take 16 bytes) = value ∙ ap (from_be_bytes w128) is in
    let len : length (take 16 bytes) ≡ 16 = omega (arith, length-take 16 bytes) in
    let each = IsBytes-take 16 bytes small in
    let below : n < 2 ^ 128 = omega (arith, front ∙ joined (take 16 bytes), below_64 (take 8 (take 16 bytes)) (IsBytes-take 8 (take 16 bytes) each), below_64 (drop 8 (take 16 bytes)) (IsBytes-drop 8 (take 16 bytes) each)) in
    begins twos_complement bytes (cast_signed w128 n) 16 room (ap (to_be_bytes w128) (of_z-to_z w128 n below) ∙ be_bytes_16 (take 16 bytes) n len each front)

unsigned_below : (value : ℤ) → Fits128 value → cast_unsigned w128 value < 2 ^ 128
unsigned_below (pos n) fits = omega (arith, fits.sfits)
unsigned_below (negsuc n) fits = omega arith

-- a value that stands in front is the one that is taken
pub each_128 : (bytes chunk rest : List ℕ) (n : ℕ) (value : ℤ) → chunk ≡ take 16 bytes → n ≡ from_be_bytes w128 chunk → Fits128 value → bytes ≡ twos_complement value ++ rest → cast_signed w128 n ≡ value
unfolding twos_complement
each_128 bytes chunk rest n value is number fits whole =
    let spelled = to_be_bytes w128 (cast_unsigned w128 value) in
    let front : take 16 bytes ≡ spelled = ap (take 16) whole ∙ take_at spelled rest 16 refl in
    let below = unsigned_below value fits in
    let same : n ≡ cast_unsigned w128 value = number ∙ ap (from_be_bytes w128) (is ∙ front) ∙ from_be_bytes-to_be_bytes_16 (cast_unsigned w128 value) below in
    ap (cast_signed w128) same ∙ to_z-of_z w128 value fits

pub twos_complement-len : (value : ℤ) → length (twos_complement value) ≡ 16
unfolding twos_complement
twos_complement-len value = refl

pub twos_complement-is : (value : ℤ) (unsigned : ℕ) (bytes : List ℕ) → unsigned ≡ cast_unsigned w128 value → bytes ≡ to_be_bytes w128 unsigned → twos_complement value ≡ bytes
unfolding twos_complement
twos_complement-is value unsigned bytes is spelled = sym (spelled ∙ ap (to_be_bytes w128) is)
