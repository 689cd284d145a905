-- A buffer grows by one piece after the other.
use Rattle.std.proofs.Common.{◌≡◌, ◌<◌, ◌+◌, List, ℕ, [], ◌∷◌, ◌++◌, length, take, get_or, Result, Ok, Err, refl, sym, ap, ◌∙◌, append_assoc, arith}
use Rattle.std.specs.Prelude.{if◌then◌else◌, is_ok, IsErr}
use Rattle.std.specs.List.{flat_map}
use Rattle.std.proofs.lemmas.List.{flat_map_more, take_all, take_more}
use Rattle.ssq_value.specs.declared.value.Value.{Value}
use Rattle.ssq_value.specs.Grown.{Grows}
use Rattle.ssq_value.specs.Key.{key_of, keys_of}
use Rattle.ssq_value.proofs.Fronts.{still_in_front}

-- a step failed, and kept all that there was
pub failed : {T E : Type 0} (old mid new front bytes : List ℕ) (r : Result T E) → IsErr r → mid ≡ old ++ front → new ≡ mid → Grows old new r bytes
failed old mid new front bytes (Ok done) is grown same = absurd cc
failed old mid new front bytes (Err error) is grown same = record { ok = tt; err = still_in_front old mid new front grown (ap (take (length mid)) same ∙ take_all (length mid) mid (omega arith)) }

-- one piece more
pub extended : {T E : Type 0} (old mid new front rest : List ℕ) (r : Result T E) → mid ≡ old ++ front → new ≡ (if is_ok r then mid ++ rest else mid) → Grows old new r (front ++ rest)
extended old mid new front rest (Ok done) grown more = record { ok = more ∙ ap (λ (bytes : List ℕ). bytes ++ rest) grown ∙ append_assoc old front rest; err = tt }
extended old mid new front rest (Err error) grown same = failed old mid new front (front ++ rest) (Err error) refl grown same

-- the key of one value more
pub key_more : (start : List ℕ) (values : List Value) (i : ℕ) (value : Value) → i < length values → value ≡ get_or values i value
    → (start ++ keys_of (take i values)) ++ key_of value ≡ start ++ keys_of (take (i + 1) values)
unfolding keys_of
key_more start values i value less is =
    let next : take (i + 1) values ≡ take i values ++ value ∷ [] = take_more values i value less ∙ ap (λ (v : Value). take i values ++ v ∷ []) (sym is) in
    flat_map_more key_of start (take i values) value ∙ ap (λ (vs : List Value). start ++ flat_map key_of vs) (sym next)
