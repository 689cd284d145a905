-- Totals in front of bytes.
use Rattle.std.proofs.Common.{◌≡◌, ◌<◌, ◌^◌, ◌++◌, ℕ, ℤ, [], ◌∷◌, List, refl, ap, sym, ◌∙◌, append_assoc, append-nil}
use Rattle.std.specs.Prelude.{FitsSigned}
use Rattle.std.specs.Int.{w64, w128, to_be_bytes}
use Rattle.ssq_field.specs.Field.{twos_complement}
use Rattle.ssq_value.specs.declared.value.Value.{Value}
use Rattle.ssq_value.specs.Key.{key_of, keys_of}
use Rattle.ssq_shape.specs.declared.bound.Function.TheVariants as function
use Rattle.ssq_meaning.specs.declared.total.Total.{Total}
use Rattle.ssq_meaning.specs.declared.total.Total.TheVariants as total
use Rattle.ssq_meaning.specs.Totals.{total_bytes}
use Rattle.ssq_agg.specs.Readable.{IsTotalOf}

-- a sum after the number of its values
pub sum_bytes : (count : ℕ) (sum : ℤ) → to_be_bytes w64 count ++ twos_complement sum ≡ total_bytes (total.Sum count sum)
unfolding twos_complement
sum_bytes count sum = refl

pub sum_found : (bytes behind rest : List ℕ) (count : ℕ) (sum : ℤ) → bytes ≡ to_be_bytes w64 count ++ behind → behind ≡ twos_complement sum ++ rest → bytes ≡ total_bytes (total.Sum count sum) ++ rest
sum_found bytes behind rest count sum first second =
    first ∙ ap (λ l. to_be_bytes w64 count ++ l) second
    ∙ sym (append_assoc (to_be_bytes w64 count) (twos_complement sum) rest)
    ∙ ap (λ l. l ++ rest) (sum_bytes count sum)

-- what is found in front is the count
abbrev pub FindsCount : (bytes : List ℕ) → ℕ → List ℕ → Type 0
FindsCount bytes count behind = (n : ℕ) (rest : List ℕ) → n < 2 ^ 64 → bytes ≡ to_be_bytes w64 n ++ rest → (count ≡ n) × (behind ≡ rest)

sum_behind : (bytes rest : List ℕ) (count : ℕ) (sum : ℤ) → bytes ≡ total_bytes (total.Sum count sum) ++ rest → bytes ≡ to_be_bytes w64 count ++ (twos_complement sum ++ rest)
sum_behind bytes rest count sum is =
    is ∙ ap (λ l. l ++ rest) (sym (sum_bytes count sum)) ∙ append_assoc (to_be_bytes w64 count) (twos_complement sum) rest

pub sum_each : (bytes behind last : List ℕ) (count : ℕ) (sum : ℤ) → FindsCount bytes count behind
    → ((z : ℤ) (rest : List ℕ) → FitsSigned w128 z → behind ≡ twos_complement z ++ rest → (sum ≡ z) × (last ≡ rest))
    → (own : Total) (rest : List ℕ) → IsTotalOf function.Sum own → bytes ≡ total_bytes own ++ rest → (total.Sum count sum ≡ own) × (last ≡ rest)
sum_each bytes behind last count sum counts sums (total.Sum n z) rest fits is =
    let first = counts n (twos_complement z ++ rest) fits.0 (sum_behind bytes rest n z is) in
    let second = sums z rest fits.1 first.1 in
    ((λ i. total.Sum (first.0 i) (second.0 i)), second.1)
sum_each bytes behind last count sum counts sums (total.Count n) rest fits is = absurd fits
sum_each bytes behind last count sum counts sums (total.Least least) rest fits is = absurd fits
sum_each bytes behind last count sum counts sums (total.Greatest greatest) rest fits is = absurd fits

pub no_sum : (bytes behind : List ℕ) (count : ℕ) → FindsCount bytes count behind → ((z : ℤ) (rest : List ℕ) → FitsSigned w128 z → behind ≡ twos_complement z ++ rest → ⊥)
    → (own : Total) (rest : List ℕ) → IsTotalOf function.Sum own → bytes ≡ total_bytes own ++ rest → ⊥
no_sum bytes behind count counts sums (total.Sum n z) rest fits is =
    sums z rest fits.1 (counts n (twos_complement z ++ rest) fits.0 (sum_behind bytes rest n z is)).1
no_sum bytes behind count counts sums (total.Count n) rest fits is = fits
no_sum bytes behind count counts sums (total.Least least) rest fits is = fits
no_sum bytes behind count counts sums (total.Greatest greatest) rest fits is = fits

-- the key of one value is the value's
pub key_of_one : (value : Value) → keys_of (value ∷ []) ≡ key_of value
unfolding keys_of
key_of_one value = append-nil (key_of value)
