-- The time at a place of a key that is read value by value.
use Rattle.std.proofs.Common.{◌≡◌, ◌<◌, ◌+◌, ◌-◌, ℕ, ℤ, zero, suc, List, [], ◌∷◌, ◌++◌, Option, None, All, length, refl, sym, ap, ◌∙◌, arith}
use Rattle.std.proofs.lemmas.List.{length-append}
use Rattle.std.proofs.lemmas.List.Elements.{All-nil, All-push}
use Rattle.ssq_value.specs.declared.value.Value.{Value}
use Rattle.ssq_value.specs.Key.{key_of, keys_of}
use Rattle.ssq_shape.specs.Evaluation.{cell_at, time_in}
use Rattle.ssq_shape.specs.Fit.{IsFit}
use Rattle.ssq_keys.proofs.ReadLemmas.{EachIsLeft, begins, goes_on, nothing_read, one_more_read}

-- So many values were read, and these bytes follow: the time is that at the place among the values that were read.
pub record IsReadTo (bytes : List ℕ) (many place : ℕ) (at : ℕ) (rest : List ℕ) (time : Option ℤ) : Type 0 where
  pub so_far : List Value
  pub read : keys_of so_far ++ rest ≡ bytes
  pub fit : All IsFit so_far
  pub len : length so_far ≡ at
  pub is : time ≡ time_in (cell_at so_far place)
  pub each : EachIsLeft bytes many so_far rest (many - at)

pub read_begins : (bytes : List ℕ) (many place : ℕ) (time : Option ℤ) → time ≡ None → IsReadTo bytes many place 0 bytes time
read_begins bytes many place time none = record {
  so_far = [];
  read = nothing_read bytes [] refl;
  fit = All-nil IsFit;
  len = refl;
  is = none;
  each = begins bytes many [] (many - 0) (omega arith) refl;
}

last_cell : (so_far : List Value) (value : Value) → cell_at (so_far ++ value ∷ []) (length so_far) ≡ value
last_cell [] value = refl
last_cell (v ∷ so_far) value = last_cell so_far value

other_cell : (so_far : List Value) (value : Value) (place : ℕ) → (place ≡ length so_far → ⊥) → cell_at (so_far ++ value ∷ []) place ≡ cell_at so_far place
other_cell [] value zero apart = absurd (apart refl)
other_cell [] value (suc place) apart = refl
other_cell (v ∷ so_far) value zero apart = refl
other_cell (v ∷ so_far) value (suc place) apart = other_cell so_far value place (λ same. apart (ap suc same))

module _ (bytes : List ℕ) (many place at : ℕ) (rest behind : List ℕ) (value : Value) (time next : Option ℤ) (below : at < many) (front : rest ≡ key_of value ++ behind) (fits : IsFit value)
    (each : (v : Value) (r : List ℕ) → IsFit v → rest ≡ key_of v ++ r → (value ≡ v) × (behind ≡ r)) where
  on : (was : IsReadTo bytes many place at rest time) → next ≡ time_in (cell_at (was.so_far ++ value ∷ []) place) → IsReadTo bytes many place (at + 1) behind next
  on was is = record {
    so_far = was.so_far ++ value ∷ [];
    read = one_more_read bytes was.so_far (was.so_far ++ value ∷ []) rest behind value refl front was.read;
    fit = All-push IsFit was.so_far value was.fit fits;
    len = omega (arith, length-append was.so_far (value ∷ []), was.len);
    is = is;
    each = goes_on bytes many was.so_far (was.so_far ++ value ∷ []) rest behind value (many - at) (many - (at + 1)) (omega (arith, below)) refl each was.each;
  }

  -- the value at the place was read
  pub read_here : at ≡ place → next ≡ time_in value → IsReadTo bytes many place at rest time → IsReadTo bytes many place (at + 1) behind next
  read_here here is was = on was (is ∙ sym (ap (λ n. time_in (cell_at (was.so_far ++ value ∷ []) n)) (sym (was.len ∙ here)) ∙ ap time_in (last_cell was.so_far value)))

  -- another value was
  pub read_elsewhere : (at ≡ place → ⊥) → next ≡ time → IsReadTo bytes many place at rest time → IsReadTo bytes many place (at + 1) behind next
  read_elsewhere apart is was = on was (is ∙ was.is ∙ sym (ap time_in (other_cell was.so_far value place (λ same. apart (sym (same ∙ was.len))))))
