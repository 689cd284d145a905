-- The rows with one beginning, one after the other.
use Rattle.std.proofs.Common.{◌≡◌, ◌++◌, ℕ, [], ◌∷◌, List, Bool, true, false, ap, sym, ◌∙◌, subst, filter, map}
use Rattle.std.specs.Prelude.{if◌then◌else◌}
use Rattle.std.specs.List.Sorted.{IsPermutation}
use Rattle.std.proofs.lemmas.List.Sorted.{IsPermutation-middle, IsPermutation-refl, IsPermutation-trans}
use Rattle.ssq_version.specs.State.{begins_with, front_with}
use Rattle.ssq_shape.specs.declared.bound.Bound.{Bound}
use Rattle.ssq_shape.specs.declared.bound.Joining.{Joining}
use Rattle.ssq_meaning.specs.FedRows.{FedRow}
use Rattle.ssq_meaning.specs.JoinLaws.{are_candidates}
use Rattle.ssq_step.specs.declared.shown.Shown.{Shown}
use Rattle.ssq_join.specs.Meeting.{AreOthers, IsOther, MeetsFront, MeetsNext, entry_with, with_candidate}
use Rattle.ssq_join.specs.Telling.{Meets, Pair, candidates_of}

abbrev first_of : {X : Type 0} → X → List X → X
first_of default [] = default
first_of default (x ∷ xs) = x

abbrev behind : {X : Type 0} → List X → List X
behind [] = []
behind (x ∷ xs) = xs

module _ (query : Bound) (joining : Joining) (row : FedRow) (prefix : List ℕ) where
  -- where none begins so nothing is met
  pub fronts_end : (entries : List (List ℕ × List ℕ)) (found : Shown) (met : List (List ℕ)) → front_with prefix entries ≡ [] → MeetsFront query joining row prefix entries found found met met
  fronts_end entries found met none = λ was others pairs front each meets. by was pairs others (sym front ∙ none) meets
    where
      by : (was : FedRow → Bool) (pairs : List Pair) (others : List FedRow) → map (entry_with was) others ≡ [] → Meets query joining pairs found met → MeetsNext query joining pairs row others found met
      by was pairs [] is meets = (pairs, IsPermutation-refl pairs, meets)
      by was pairs (other ∷ others) is meets = absurd cc

  pub nothing_begins : (entry : List ℕ × List ℕ) (entries rest : List (List ℕ × List ℕ)) → entries ≡ entry ∷ rest → begins_with prefix entry.0 ≡ false → front_with prefix entries ≡ []
  nothing_begins entry entries rest steps apart = ap (front_with prefix) steps ∙ ap (λ b. if b then entry ∷ front_with prefix rest else []) apart

  -- one more
  turned : (other : FedRow) (others : List FedRow) (pairs more : List Pair) → IsPermutation more (candidates_of joining row others ++ with_candidate joining row other pairs)
      → IsPermutation more (candidates_of joining row (other ∷ others) ++ pairs)
  turned other others pairs more same = by (are_candidates joining row other) same
    where
      by : (b : Bool) → IsPermutation more (candidates_of joining row others ++ (if b then (row, other) ∷ pairs else pairs))
          → IsPermutation more (map (λ (own : FedRow). (row, own)) (if b then other ∷ filter (are_candidates joining row) others else filter (are_candidates joining row) others) ++ pairs)
      by true same = IsPermutation-trans _ _ _ same (IsPermutation-middle (candidates_of joining row others) (row, other) pairs)
      by false same = same

  pub fronts_on : (entry : List ℕ × List ℕ) (entries rest : List (List ℕ × List ℕ)) (found now : Shown) (old new : List (List ℕ)) → entries ≡ entry ∷ rest → begins_with prefix entry.0 ≡ true
      → ((other : FedRow) (was : Bool) (pairs : List Pair) → IsOther query joining row other was entry.0 entry.1 → Meets query joining pairs found old → Meets query joining (with_candidate joining row other pairs) now new)
      → (last : Shown) (final : List (List ℕ)) → MeetsFront query joining row prefix rest now last new final → MeetsFront query joining row prefix entries found last old final
  fronts_on entry entries rest found now old new steps begins one last final later = λ was others pairs front each meets. by was pairs others (sym front ∙ is) each meets
    where
      is : front_with prefix entries ≡ entry ∷ front_with prefix rest
      is = ap (front_with prefix) steps ∙ ap (λ b. if b then entry ∷ front_with prefix rest else []) begins

      by : (was : FedRow → Bool) (pairs : List Pair) (others : List FedRow) → map (entry_with was) others ≡ entry ∷ front_with prefix rest → AreOthers query joining row was others
          → Meets query joining pairs found old → MeetsNext query joining pairs row others last final
      by was pairs [] same each meets = absurd cc
      by was pairs (other ∷ others) same each meets =
          let own : IsOther query joining row other (was other) entry.0 entry.1 =
          subst (λ (e : List ℕ × List ℕ). IsOther query joining row other (was other) e.0 e.1) (ap (first_of entry) same) each.0 in
          let next = later was others (with_candidate joining row other pairs) (sym (ap behind same)) each.1 (one other (was other) pairs own meets) in
          (next.0, turned other others pairs next.0 next.1, next.2)
