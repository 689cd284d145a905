-- The texts of times in front of other bytes.
use Rattle.std.proofs.Common.{◌≡◌, ◌≢◌, ℕ, ◌+◌, ◌/◌, ◌%◌, ◌≤◌, ◌==◌, ◌⊎◌, inl, inr, Bool, true, false, if◌then◌else◌, ℤ, List, [], ◌∷◌, ◌++◌, length, get_or, Option, Some, None, codes, refl, ap, ◌∙◌, arith, length-append}
use Rattle.std.specs.Prelude.{nat_lt}
use Rattle.ssq_time.specs.Time.{stamp_text, parts_text, second_text, two_digits, stamp_of, day_at_head, two_at, digit_of}

-- After the seconds stands `Z`, and then 20 bytes are the text, or a point, and then 27 are.
abbrev HasLength : List ℕ → List ℕ → Type 0
HasLength text rest = ((get_or (text ++ rest) 19 0 ≡ 90) × (length text ≡ 20)) ⊎ ((get_or (text ++ rest) 19 0 ≡ 46) × (length text ≡ 27))

parts_len : (year month day second micro : ℕ) (whole : Bool) (rest : List ℕ) →
    HasLength (second_text year month day second ++ (if whole then [] else 46 ∷ two_digits (micro / 10000) ++ two_digits (micro / 100 % 100) ++ two_digits (micro % 100)) ++ 90 ∷ []) rest
parts_len year month day second micro true rest = inl (refl, refl)
parts_len year month day second micro false rest = inr (refl, refl)

parts_text_len : (year month day second micro : ℕ) (rest : List ℕ) → HasLength (parts_text year month day second micro) rest
unfolding parts_text
parts_text_len year month day second micro rest = parts_len year month day second micro (micro == 0) rest

stamp_len_is : (t : ℤ) (rest : List ℕ) → HasLength (stamp_text t) rest
unfolding stamp_text
stamp_len_is t rest = parts_text_len _ _ _ _ _ rest

pub with_z : (t : ℤ) (text rest : List ℕ) → text ≡ stamp_text t ++ rest → get_or text 19 0 ≡ 90 → length (stamp_text t) ≡ 20
with_z t text rest is z =
    elim (stamp_len_is t rest) [
      | inl short ↦ short.1
      | inr long ↦ absurd (omega (arith, ap (λ (ts : List ℕ). get_or ts 19 0) is, z, long.0))
    ]

pub without_z : (t : ℤ) (text rest : List ℕ) → text ≡ stamp_text t ++ rest → get_or text 19 0 ≢ 90 → length (stamp_text t) ≡ 27
without_z t text rest is other =
    elim (stamp_len_is t rest) [
      | inl short ↦ absurd (other (ap (λ (ts : List ℕ). get_or ts 19 0) is ∙ short.0))
      | inr long ↦ long.1
    ]

-- no text of a time stands in front of fewer than 20 bytes
pub too_short : (t : ℤ) (text rest : List ℕ) → text ≡ stamp_text t ++ rest → length text ≤ 19 → ⊥
too_short t text rest is few =
    let len : length text ≡ length (stamp_text t) + length rest = ap length is ∙ length-append (stamp_text t) rest in
    elim (stamp_len_is t rest) [
      | inl short ↦ omega (arith, len, short.1, few)
      | inr long ↦ omega (arith, len, long.1, few)
    ]

-- ---- `none` is no time's text

either_none : (b : Bool) → (if b then None else None) ≡ (let none : Option ℤ = None in none)
either_none true = refl
either_none false = refl

word_is_none : (rest : List ℕ) → stamp_of (110 ∷ rest) ≡ None
unfolding stamp_of day_at_head two_at digit_of
word_is_none rest = either_none (nat_lt (length (110 ∷ rest)) 20)

empty_is_none : (t : ℤ) → stamp_of [] ≡ Some t → ⊥
unfolding stamp_of
empty_is_none t found = absurd cc

pub no_stamp : (stamp after rest : List ℕ) (t : ℤ) → stamp ++ after ≡ codes "none" ++ rest → stamp_of stamp ≡ Some t → ⊥
no_stamp [] after rest t is found = empty_is_none t found
no_stamp (byte ∷ stamp) after rest t is found =
    let n : byte ≡ 110 = ap (λ (ts : List ℕ). get_or ts 0 0) is in
    let none : stamp_of (byte ∷ stamp) ≡ None = ap (λ b. stamp_of (b ∷ stamp)) n ∙ word_is_none stamp in
    absurd cc
