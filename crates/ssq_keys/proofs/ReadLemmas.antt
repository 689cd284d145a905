-- A key that is read value by value.
use Rattle.std.proofs.Common.{◌≡◌, ◌<◌, ℕ, suc, List, [], ◌∷◌, ◌++◌, Option, Some, None, All, length, refl, sym, ap, subst, ◌∙◌, append_assoc, append-nil, arith}
use Rattle.std.specs.Prelude.{IfSome, IsSomeAnd}
use Rattle.std.specs.List.{flat_map}
use Rattle.std.proofs.lemmas.Grind.{flat_map-append}
use Rattle.std.proofs.lemmas.List.Elements.{All-head, All-tail}
use Rattle.ssq_value.specs.declared.value.Value.{Value}
use Rattle.ssq_value.specs.Key.{key_of, keys_of}
use Rattle.ssq_shape.specs.Fit.{IsFit}

-- what is left of a key, so many values, where these were read and these bytes follow
pub record IsLeft (key so_far : List Value) (rest : List ℕ) (count : ℕ) : Type 0 where
  pub left : List Value
  pub parts : key ≡ so_far ++ left
  pub fit : All IsFit left
  pub many : length left ≡ count
  pub bytes : rest ≡ keys_of left

-- each key of so many values that a state can hold, which the bytes spell, goes on so
abbrev pub EachIsLeft : (bytes : List ℕ) (many : ℕ) (so_far : List Value) (rest : List ℕ) (count : ℕ) → Type 0
EachIsLeft bytes many so_far rest count = (key : List Value) → All IsFit key → length key ≡ many → keys_of key ≡ bytes → IsLeft key so_far rest count

pub begins : (bytes : List ℕ) (many : ℕ) (so_far : List Value) (count : ℕ) → count ≡ many → so_far ≡ [] → EachIsLeft bytes many so_far bytes count
begins bytes many so_far count all none key fit len is = record {
  left = key;
  parts = ap (λ (l : List Value). l ++ key) (sym none);
  fit = fit;
  many = len ∙ sym all;
  bytes = sym is;
}

module _ (key so_far : List Value) (rest behind : List ℕ) (value : Value) where
  by : (left : List Value) (count : ℕ) → key ≡ so_far ++ left → All IsFit left → length left ≡ suc count → rest ≡ keys_of left
      → ((v : Value) (r : List ℕ) → IsFit v → rest ≡ key_of v ++ r → (value ≡ v) × (behind ≡ r)) → IsLeft key (so_far ++ value ∷ []) behind count
  unfolding keys_of
  by [] count parts fit many bytes each = absurd (omega (arith, many))
  by (v ∷ left) count parts fit many bytes each =
      let same = each v (keys_of left) (All-head IsFit v left fit) bytes in
      record {
        left = left;
        parts = parts ∙ ap (λ x. so_far ++ x ∷ left) (sym same.0) ∙ sym (append_assoc so_far (value ∷ []) left);
        fit = All-tail IsFit v left fit;
        many = omega (arith, many);
        bytes = same.1;
      }

no_value : (left : List Value) (rest : List ℕ) → All IsFit left → 0 < length left → rest ≡ keys_of left → ((v : Value) (r : List ℕ) → IsFit v → rest ≡ key_of v ++ r → ⊥) → ⊥
unfolding keys_of
no_value [] rest fit some bytes each = omega (arith, some)
no_value (v ∷ left) rest fit some bytes each = each v (keys_of left) (All-head IsFit v left fit) bytes

-- one value more was read
pub goes_on : (bytes : List ℕ) (many : ℕ) (so_far pushed : List Value) (rest behind : List ℕ) (value : Value) (count next : ℕ) → count ≡ suc next → pushed ≡ so_far ++ value ∷ []
    → ((v : Value) (r : List ℕ) → IsFit v → rest ≡ key_of v ++ r → (value ≡ v) × (behind ≡ r))
    → EachIsLeft bytes many so_far rest count → EachIsLeft bytes many pushed behind next
goes_on bytes many so_far pushed rest behind value count next one_less push each was key fit len is =
    let left = was key fit len is in
    subst (λ l. IsLeft key l behind next) (sym push) (by key so_far rest behind value left.left next left.parts left.fit (left.many ∙ one_less) left.bytes each)

-- where no value is in front there is no such key
pub nothing_in_front : (bytes : List ℕ) (many : ℕ) (so_far : List Value) (rest : List ℕ) (count : ℕ) → 0 < count
    → ((v : Value) (r : List ℕ) → IsFit v → rest ≡ key_of v ++ r → ⊥)
    → EachIsLeft bytes many so_far rest count → (key : List Value) → All IsFit key → length key ≡ many → keys_of key ≡ bytes → ⊥
nothing_in_front bytes many so_far rest count some each was key fit len is =
    let left = was key fit len is in
    let more : 0 < length left.left = omega (arith, some, left.many) in
    no_value left.left rest left.fit more left.bytes each

nothing_left : (key so_far left : List Value) (rest : List ℕ) → key ≡ so_far ++ left → length left ≡ 0 → rest ≡ keys_of left → (key ≡ so_far) × (rest ≡ [])
unfolding keys_of
nothing_left key so_far [] rest parts none bytes = (parts ∙ append-nil so_far, bytes)
nothing_left key so_far (v ∷ left) rest parts none bytes = absurd (omega (arith, none))

-- where all values were read, they are the key, and nothing follows
pub all_read : (bytes : List ℕ) (many : ℕ) (so_far : List Value) (rest : List ℕ) (count : ℕ) → count ≡ 0 → EachIsLeft bytes many so_far rest count
    → (key : List Value) → All IsFit key → length key ≡ many → keys_of key ≡ bytes → (key ≡ so_far) × (rest ≡ [])
all_read bytes many so_far rest count none was key fit len is =
    let left = was key fit len is in
    nothing_left key so_far left.left rest left.parts (left.many ∙ none) left.bytes

pub nothing_read : (bytes : List ℕ) (so_far : List Value) → so_far ≡ [] → keys_of so_far ++ bytes ≡ bytes
unfolding keys_of
nothing_read bytes so_far none = ap (λ l. keys_of l ++ bytes) none

pub one_more_read : (bytes : List ℕ) (so_far pushed : List Value) (rest behind : List ℕ) (value : Value) → pushed ≡ so_far ++ value ∷ [] → rest ≡ key_of value ++ behind → keys_of so_far ++ rest ≡ bytes → keys_of pushed ++ behind ≡ bytes
unfolding keys_of
one_more_read bytes so_far pushed rest behind value push front was =
    ap (λ l. flat_map key_of l ++ behind) push
    ∙ ap (λ l. l ++ behind) (flat_map-append key_of so_far (value ∷ []))
    ∙ append_assoc (flat_map key_of so_far) (key_of value ++ []) behind
    ∙ ap (λ l. flat_map key_of so_far ++ (l ++ behind)) (append-nil (key_of value))
    ∙ ap (λ l. flat_map key_of so_far ++ l) (sym front)
    ∙ was

-- ---- what an option has

pub some_has : {A : Type 0} (P : A → Type 0) (o : Option A) (x : A) → o ≡ Some x → IfSome o P → P x
some_has P o x is has = subst (λ o. IfSome o P) is has

pub some_and_has : {A : Type 0} (P : A → Type 0) (o : Option A) (x : A) → o ≡ Some x → IsSomeAnd o P → P x
some_and_has P o x is has = subst (λ o. IsSomeAnd o P) is has

pub none_has : {A : Type 0} (P : A → Type 0) (o : Option A) → ((x : A) → o ≡ Some x → ⊥) → IsSomeAnd o P → ⊥
none_has P None none has = has
none_has P (Some x) none has = none x refl
