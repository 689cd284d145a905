-- No spelling of a value begins another's, so keys of equally many values part as their values do.
use Rattle.std.proofs.Common.{◌≡◌, ℕ, ◌^◌, ◌<◌, ℤ, pos, negsuc, true, false, List, [], ◌∷◌, ◌++◌, length, All, refl, sym, ap, ap₂, ◌∙◌, append_assoc, arith}
use Rattle.std.specs.Prelude.{FitsSigned}
use Rattle.std.specs.Int.{w32, w64, to_be_bytes, from_be_bytes}
use Rattle.std.specs.List.{flat_map, AllByRecursion}
use Rattle.std.proofs.lemmas.Nat.{from_be_bytes-to_be_bytes_4, from_be_bytes-to_be_bytes_8}
use Rattle.std.proofs.lemmas.List.Elements.{recursion_from_All}
use Rattle.ssq_value.specs.declared.value.Value.{Value}
use Rattle.ssq_value.specs.declared.value.Value.TheVariants.{Null, Int, Text, Time, Truth}
use Rattle.ssq_value.specs.Key.{raised, key_of, keys_of, IsSpelled}
use Rattle.ssq_value.proofs.Fronts.{same_fronts}

raised_below : (z : ℤ) → FitsSigned w64 z → raised z < 2 ^ 64
raised_below (pos n) fits = omega (arith, fits.sfits)
raised_below (negsuc n) fits = omega arith

raised_exact : (a b : ℤ) → FitsSigned w64 a → FitsSigned w64 b → raised a ≡ raised b → a ≡ b
raised_exact (pos m) (pos n) f g e = ap (λ k. pos k) (omega arith)
raised_exact (pos m) (negsuc n) f g e = absurd (omega arith)
raised_exact (negsuc m) (pos n) f g e = absurd (omega arith)
raised_exact (negsuc m) (negsuc n) f g e = ap (λ k. negsuc k) (omega (arith, f.sfits, g.sfits))

-- numbers of eight bytes part as their bytes do
same_numbers : (a b : ℤ) (x y : List ℕ) → FitsSigned w64 a → FitsSigned w64 b → to_be_bytes w64 (raised a) ++ x ≡ to_be_bytes w64 (raised b) ++ y → (a ≡ b) × (x ≡ y)
same_numbers a b x y f g e =
    let parts = same_fronts (to_be_bytes w64 (raised a)) (to_be_bytes w64 (raised b)) x y refl e in
    let back : raised a ≡ raised b = sym (from_be_bytes-to_be_bytes_8 (raised a) (raised_below a f)) ∙ ap (from_be_bytes w64) parts.0 ∙ from_be_bytes-to_be_bytes_8 (raised b) (raised_below b g) in
    (raised_exact a b f g back, parts.1)

same_texts : (a b x y : List ℕ) → length a < 2 ^ 32 → length b < 2 ^ 32 → (to_be_bytes w32 (length a) ++ a) ++ x ≡ (to_be_bytes w32 (length b) ++ b) ++ y → (a ≡ b) × (x ≡ y)
same_texts a b x y f g e =
    let regrouped : to_be_bytes w32 (length a) ++ (a ++ x) ≡ to_be_bytes w32 (length b) ++ (b ++ y) = sym (append_assoc (to_be_bytes w32 (length a)) a x) ∙ e ∙ append_assoc (to_be_bytes w32 (length b)) b y in
    let parts = same_fronts (to_be_bytes w32 (length a)) (to_be_bytes w32 (length b)) (a ++ x) (b ++ y) refl regrouped in
    let len : length a ≡ length b = sym (from_be_bytes-to_be_bytes_4 (length a) f) ∙ ap (from_be_bytes w32) parts.0 ∙ from_be_bytes-to_be_bytes_4 (length b) g in
    same_fronts a b x y len parts.1

tail_of : (m : ℕ) (x y : List ℕ) → m ∷ x ≡ m ∷ y → x ≡ y
tail_of m x y e = cc

second_of : (k l m n : ℕ) (x y : List ℕ) → k ∷ m ∷ x ≡ l ∷ n ∷ y → m ≡ n
second_of k l m n x y e = cc

-- a spelling stands in front of one value alone, whatever follows
same_value : (a b : Value) (x y : List ℕ) → IsSpelled a → IsSpelled b → key_of a ++ x ≡ key_of b ++ y → (a ≡ b) × (x ≡ y)
same_value Null Null x y f g e = (refl, tail_of _ _ _ e)
same_value (Truth false) (Truth false) x y f g e = (refl, tail_of _ _ _ (tail_of _ _ _ e))
same_value (Truth true) (Truth true) x y f g e = (refl, tail_of _ _ _ (tail_of _ _ _ e))
same_value (Truth false) (Truth true) x y f g e = absurd (omega (arith, second_of _ _ _ _ _ _ e))
same_value (Truth true) (Truth false) x y f g e = absurd (omega (arith, second_of _ _ _ _ _ _ e))
same_value (Int a) (Int b) x y f g e =
    let same = same_numbers a b x y f g (tail_of _ _ _ e) in
    (ap (λ n. Int n) same.0, same.1)
same_value (Time a) (Time b) x y f g e =
    let same = same_numbers a b x y f g (tail_of _ _ _ e) in
    (ap (λ n. Time n) same.0, same.1)
same_value (Text a) (Text b) x y f g e =
    let same = same_texts a b x y f g (tail_of _ _ _ e) in
    (ap (λ bytes. Text bytes) same.0, same.1)
same_value _ _ x y f g e = absurd cc

same_values : (a b : List Value) (x y : List ℕ) → length a ≡ length b → AllByRecursion IsSpelled a → AllByRecursion IsSpelled b → flat_map key_of a ++ x ≡ flat_map key_of b ++ y → (a ≡ b) × (x ≡ y)
same_values [] [] x y len f g e = (refl, e)
same_values [] (b ∷ more) x y len f g e = absurd (omega arith)
same_values (a ∷ others) [] x y len f g e = absurd (omega arith)
same_values (a ∷ others) (b ∷ more) x y len f g e =
    let rest-a = flat_map key_of others ++ x in
    let rest-b = flat_map key_of more ++ y in
    let regrouped : key_of a ++ rest-a ≡ key_of b ++ rest-b = sym (append_assoc (key_of a) (flat_map key_of others) x) ∙ e ∙ append_assoc (key_of b) (flat_map key_of more) y in
    let first = same_value a b rest-a rest-b f.0 g.0 regrouped in
    let shorter : length others ≡ length more = omega arith in
    let rest = same_values others more x y shorter f.1 g.1 first.1 in
    (ap₂ (λ (v : Value) (vs : List Value). v ∷ vs) first.0 rest.0, rest.1)

pub same_keys : (a b : List Value) (x y : List ℕ) → length a ≡ length b → All IsSpelled a → All IsSpelled b → keys_of a ++ x ≡ keys_of b ++ y → (a ≡ b) × (x ≡ y)
unfolding keys_of
same_keys a b x y len f g e = same_values a b x y len (recursion_from_All IsSpelled a f) (recursion_from_All IsSpelled b g) e
