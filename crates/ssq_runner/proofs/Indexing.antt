-- Indexes of stores, one after another.
use Rattle.std.proofs.Common.{◌≡◌, ◌<◌, ◌≤◌, ◌+◌, ◌++◌, ◌∙◌, ℕ, zero, suc, List, [], ◌∷◌, length, get_or, Some, refl, sym, ap, subst, arith, add-one, take}
use Rattle.std.specs.Prelude.{slice_get}
use Rattle.std.proofs.lemmas.Option.{none-some}
use Rattle.std.proofs.Math.Seq.{take-suc}
use Rattle.ssq_shape.specs.declared.bound.Bound.{Bound}
use Rattle.ssq_step.specs.Indexing.{IsIndex, Timed}
use Rattle.ssq_store.specs.declared.store.Store.{Store}
use Rattle.ssq_drive.specs.Rounds.{HaveIndexes}
use Rattle.ssq_time.proofs.Steps.{some_same}

-- of each store its own
abbrev pub AreIndexed : Bound → List Store → List (List Timed) → Type 0
AreIndexed bound [] [] = Unit {0}
AreIndexed bound [] (closing ∷ closings) = ⊥
AreIndexed bound (store ∷ stores) [] = ⊥
AreIndexed bound (store ∷ stores) (closing ∷ closings) = IsIndex bound store.state closing × AreIndexed bound stores closings

one_then : (bound : Bound) (stores : List Store) (closings : List (List Timed)) (store : Store) (closing : List Timed) → AreIndexed bound stores closings → IsIndex bound store.state closing
    → AreIndexed bound (stores ++ store ∷ []) (closings ++ closing ∷ [])
one_then bound [] [] store closing are is = (is, tt)
one_then bound [] (c ∷ closings) store closing are is = absurd are
one_then bound (s ∷ stores) [] store closing are is = absurd are
one_then bound (s ∷ stores) (c ∷ closings) store closing are is = (are.0, one_then bound stores closings store closing are.1 is)

-- and one store more
pub indexed_next : (bound : Bound) (stores : List Store) (closings : List (List Timed)) (i : ℕ) (default : Store) (closing : List Timed) → i < length stores → AreIndexed bound (take i stores) closings → IsIndex bound (get_or stores i default).state closing
    → AreIndexed bound (take (i + 1) stores) (closings ++ closing ∷ [])
indexed_next bound stores closings i default closing less are is =
    subst (λ (front : List Store). AreIndexed bound front (closings ++ closing ∷ [])) (sym (ap (λ (n : ℕ). take n stores) (add-one i) ∙ take-suc stores i default less))
    (one_then bound (take i stores) closings (get_or stores i default) closing are is)

indexed_count : (bound : Bound) (stores : List Store) (closings : List (List Timed)) → AreIndexed bound stores closings → length closings ≡ length stores
indexed_count bound [] [] are = refl
indexed_count bound [] (c ∷ closings) are = absurd are
indexed_count bound (s ∷ stores) [] are = absurd are
indexed_count bound (s ∷ stores) (c ∷ closings) are = ap suc (indexed_count bound stores closings are.1)

indexed_at : (bound : Bound) (stores : List Store) (closings : List (List Timed)) → AreIndexed bound stores closings → (p : ℕ) (store : Store) (closing : List Timed) → slice_get stores p ≡ Some store → slice_get closings p ≡ Some closing
    → IsIndex bound store.state closing
indexed_at bound [] [] are p store closing here there = absurd (none-some store here)
indexed_at bound [] (c ∷ closings) are p store closing here there = absurd are
indexed_at bound (s ∷ stores) [] are p store closing here there = absurd are
indexed_at bound (s ∷ stores) (c ∷ closings) are zero store closing here there =
    subst (λ (own : Store). IsIndex bound own.state closing) (some_same s store here) (subst (λ (own : List Timed). IsIndex bound s.state own) (some_same c closing there) are.0)
indexed_at bound (s ∷ stores) (c ∷ closings) are (suc p) store closing here there = indexed_at bound stores closings are.1 p store closing here there

take_all : (i : ℕ) (stores : List Store) → length stores ≤ i → take i stores ≡ stores
take_all zero [] le = refl
take_all zero (store ∷ stores) le = absurd (omega (arith, le))
take_all (suc i) [] le = refl
take_all (suc i) (store ∷ stores) le = ap (λ (rest : List Store). store ∷ rest) (take_all i stores (omega (arith, le)))

-- so they are, all together, what a round needs
pub indexed_all : (bound : Bound) (stores : List Store) (closings : List (List Timed)) (i : ℕ) → length stores ≤ i → AreIndexed bound (take i stores) closings → HaveIndexes bound stores closings
indexed_all bound stores closings i le are =
    let all = subst (λ (front : List Store). AreIndexed bound front closings) (take_all i stores le) are in
    record { count = indexed_count bound stores closings all; each = λ own. indexed_at bound stores closings all }
