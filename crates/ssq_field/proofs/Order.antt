-- Bytes in the order of the numbers that they spell.
use Rattle.std.proofs.Common.{◌≡◌, ℕ, ◌+◌, ◌*◌, ◌^◌, ◌<◌, ◌≤◌, List, [], ◌∷◌, ◌++◌, true, false, true≢false, length, take, drop, refl, sym, subst, ap, ap₂, ◌∙◌, take-append-drop, arith, suc, Ordering, Less, Equal, Greater}
use Rattle.std.specs.Int.{w64, from_be_bytes}
use Rattle.std.specs.Ordering.{nat_cmp, ordering_then, MatchOrdering, is_ne}
use Rattle.std.specs.Cmp.{ranks, nat_cmp_is}
use Rattle.std.specs.Cmp.Lexicographic.{slice_cmp}
use Rattle.std.proofs.Math.Nat as nat
use Rattle.std.proofs.lemmas.List.{length-take}
use Rattle.ssq_field.proofs.BigEndian.{IsBytes, IsBytes-take}

-- the number that the bytes spell, the highest in front
abbrev value : List ℕ → ℕ
value [] = 0
value (byte ∷ bytes) = byte * 256 ^ length bytes + value bytes

-- a higher byte outweighs all below it
outweighs : (unit x y a b : ℕ) → a < unit → x < y → x * unit + a < y * unit + b
outweighs unit x y a b room less =
    let most : unit * suc x ≤ unit * y = nat.mul-le-mul_left unit less in
    omega (arith, most, nat.mul_comm unit x, nat.mul_comm unit y)

below : (bytes : List ℕ) → IsBytes bytes → value bytes < 256 ^ length bytes
below [] small = omega arith
below (byte ∷ bytes) small =
    let rest : value bytes < 256 ^ length bytes = below bytes (λ i. small (suc i)) in
    let next : 256 ^ length (byte ∷ bytes) ≡ 256 ^ length bytes * 256 = nat.pow-suc 256 (length bytes) in
    omega (arith, next, nat.mul_comm 256 (256 ^ length bytes), outweighs (256 ^ length bytes) byte 256 (value bytes) 0 rest (small 0))

ordered_at : (unit x y a b : ℕ) (high low : Ordering) → a < unit → b < unit → MatchOrdering high (x < y) (x ≡ y) (y < x) → MatchOrdering low (a < b) (a ≡ b) (b < a)
    → MatchOrdering (ordering_then high low) (x * unit + a < y * unit + b) (x * unit + a ≡ y * unit + b) (y * unit + b < x * unit + a)
ordered_at unit x y a b Less low room other_room by_high by_low = outweighs unit x y a b room by_high
ordered_at unit x y a b Greater low room other_room by_high by_low = outweighs unit y x b a other_room by_high
ordered_at unit x y a b Equal Less room other_room by_high by_low = rw by_high (omega (arith, by_low))
ordered_at unit x y a b Equal Equal room other_room by_high by_low = rw (by_high, by_low) refl
ordered_at unit x y a b Equal Greater room other_room by_high by_low = rw by_high (omega (arith, by_low))

ordered : (unit x y a b : ℕ) → a < unit → b < unit → nat_cmp (x * unit + a) (y * unit + b) ≡ ordering_then (nat_cmp x y) (nat_cmp a b)
ordered unit x y a b room other_room =
    sym (nat_cmp_is (x * unit + a) (y * unit + b) (ordering_then (nat_cmp x y) (nat_cmp a b)) (ordered_at unit x y a b (nat_cmp x y) (nat_cmp a b) room other_room (ranks x y) (ranks a b)))

by_value : (a b : List ℕ) → length a ≡ length b → IsBytes a → IsBytes b → nat_cmp (value a) (value b) ≡ slice_cmp nat_cmp a b
by_value [] [] len small other = refl
by_value (x ∷ xs) (y ∷ ys) len small other =
    let same : length ys ≡ length xs = omega (arith, len) in
    let rest = by_value xs ys (sym same) (λ i. small (suc i)) (λ i. other (suc i)) in
    let room : value ys < 256 ^ length xs = subst (λ n. value ys < 256 ^ n) same (below ys (λ i. other (suc i))) in
    rw same (ordered (256 ^ length xs) x y (value xs) (value ys) (below xs (λ i. small (suc i))) room) ∙ ap (ordering_then (nat_cmp x y)) rest
by_value [] (y ∷ ys) len small other = absurd (omega (arith, len))
by_value (x ∷ xs) [] len small other = absurd (omega (arith, len))

value-is : (bytes : List ℕ) → length bytes ≡ 8 → from_be_bytes w64 bytes ≡ value bytes
value-is (a ∷ b ∷ c ∷ d ∷ e ∷ f ∷ g ∷ h ∷ []) len = omega arith
value-is (a ∷ b ∷ c ∷ d ∷ e ∷ f ∷ g ∷ h ∷ i ∷ rest) len = omega (arith, len)
value-is (a ∷ b ∷ c ∷ d ∷ e ∷ f ∷ g ∷ []) len = omega (arith, len)
value-is (a ∷ b ∷ c ∷ d ∷ e ∷ f ∷ []) len = omega (arith, len)
value-is (a ∷ b ∷ c ∷ d ∷ e ∷ []) len = omega (arith, len)
value-is (a ∷ b ∷ c ∷ d ∷ []) len = omega (arith, len)
value-is (a ∷ b ∷ c ∷ []) len = omega (arith, len)
value-is (a ∷ b ∷ []) len = omega (arith, len)
value-is (a ∷ []) len = omega (arith, len)
value-is [] len = omega (arith, len)

-- bytes in front decide, where they differ
by_fronts : (a b c d : List ℕ) → length a ≡ length b → slice_cmp nat_cmp (a ++ c) (b ++ d) ≡ ordering_then (slice_cmp nat_cmp a b) (slice_cmp nat_cmp c d)
by_fronts [] [] c d len = refl
by_fronts (x ∷ xs) (y ∷ ys) c d len =
    let rest = by_fronts xs ys c d (omega (arith, len)) in
    ap (ordering_then (nat_cmp x y)) rest ∙ elim (nat_cmp x y) as (λ o. ordering_then o (ordering_then (slice_cmp nat_cmp xs ys) (slice_cmp nat_cmp c d)) ≡ ordering_then (ordering_then o (slice_cmp nat_cmp xs ys)) (slice_cmp nat_cmp c d)) [ Less ↦ refl | Equal ↦ refl | Greater ↦ refl ]
by_fronts [] (y ∷ ys) c d len = absurd (omega (arith, len))
by_fronts (x ∷ xs) [] c d len = absurd (omega (arith, len))

pub decided : (first other : Ordering) → is_ne first ≡ true → ordering_then first other ≡ first
decided Less other differs = refl
decided Greater other differs = refl
decided Equal other differs = absurd (true≢false (sym differs))

pub undecided : (first other : Ordering) → is_ne first ≡ false → ordering_then first other ≡ other
undecided Less other same = absurd (true≢false same)
undecided Greater other same = absurd (true≢false same)
undecided Equal other same = refl

-- the first eight bytes of both, as numbers, and then the others
pub by_eight : (left right front other_front rest other_rest : List ℕ) (first : Ordering) → IsBytes left → IsBytes right → 8 ≤ length left → 8 ≤ length right
    → front ≡ take 8 left → rest ≡ drop 8 left → other_front ≡ take 8 right → other_rest ≡ drop 8 right
    → first ≡ nat_cmp (from_be_bytes w64 front) (from_be_bytes w64 other_front)
    → slice_cmp nat_cmp left right ≡ ordering_then first (slice_cmp nat_cmp rest other_rest)
by_eight left right front other_front rest other_rest first small other room other_room front_is rest_is other_front_is other_rest_is is =
    let len : length (take 8 left) ≡ 8 = omega (arith, length-take 8 left) in
    let other_len : length (take 8 right) ≡ 8 = omega (arith, length-take 8 right) in
    let fronts : first ≡ slice_cmp nat_cmp (take 8 left) (take 8 right) =
    is ∙ ap₂ (λ (a b : List ℕ). nat_cmp (from_be_bytes w64 a) (from_be_bytes w64 b)) front_is other_front_is
    ∙ ap₂ nat_cmp (value-is (take 8 left) len) (value-is (take 8 right) other_len)
    ∙ by_value (take 8 left) (take 8 right) (len ∙ sym other_len) (IsBytes-take 8 left small) (IsBytes-take 8 right other) in
    ap₂ (slice_cmp nat_cmp) (sym (take-append-drop 8 left)) (sym (take-append-drop 8 right))
    ∙ by_fronts (take 8 left) (take 8 right) (drop 8 left) (drop 8 right) (len ∙ sym other_len)
    ∙ ap₂ ordering_then (sym fronts) (ap₂ (slice_cmp nat_cmp) (sym rest_is) (sym other_rest_is))
