-- Lists that have the same elements in another order.
use Rattle.std.proofs.Common.{◌≡◌, ◌++◌, [], ◌∷◌, List, Bool, true, false, refl, ap, sym, ◌∙◌, subst, filter}
use Rattle.std.specs.Prelude.{if◌then◌else◌}
use Rattle.std.specs.List.Sorted.{IsPermutation}
use Rattle.std.proofs.lemmas.List.{append_assoc}
use Rattle.std.proofs.lemmas.List.Elements.{filter-append}
use Rattle.std.proofs.lemmas.List.Sorted.{IsPermutation-cons, IsPermutation-middle, IsPermutation-refl, IsPermutation-sym, IsPermutation-trans}
use Rattle.ssq_meaning.specs.JoinLaws.{IsReordered}

module _ {X : Type 0} where
  pub reordered_same : (xs : List X) → IsReordered xs xs
  unfolding IsReordered
  reordered_same [] = refl
  reordered_same (x ∷ xs) = ([], xs, refl, reordered_same xs)

  pub permutes : (xs ys : List X) → IsReordered xs ys → IsPermutation xs ys
  unfolding IsReordered
  permutes [] ys same = subst (IsPermutation []) (sym same) (IsPermutation-refl [])
  permutes (x ∷ xs) ys same =
      let front = same.0 in
      let back = same.1 in
      let first : IsPermutation (x ∷ xs) (x ∷ (front ++ back)) = IsPermutation-cons x xs (front ++ back) (permutes xs (front ++ back) same.3) in
      let second : IsPermutation (x ∷ (front ++ back)) (front ++ x ∷ back) = IsPermutation-sym (front ++ x ∷ back) (x ∷ (front ++ back)) (IsPermutation-middle front x back) in
      subst (IsPermutation (x ∷ xs)) (sym same.2) (IsPermutation-trans _ _ _ first second)

  pub reordered_append : (zs xs ys : List X) → IsReordered xs ys → IsReordered (xs ++ zs) (ys ++ zs)
  unfolding IsReordered
  reordered_append zs [] ys same = subst (λ (l : List X). IsReordered zs (l ++ zs)) (sym same) (reordered_same zs)
  reordered_append zs (x ∷ xs) ys same =
      let front = same.0 in
      let back = same.1 in (
        front,
        back ++ zs,
        ap (λ l. l ++ zs) same.2 ∙ append_assoc front (x ∷ back) zs,
        subst (IsReordered (xs ++ zs)) (append_assoc front back zs) (reordered_append zs xs (front ++ back) same.3),
      )

  -- an element more in both, or in neither
  kept : (b : Bool) (x : X) (xs front back : List X) → IsReordered xs (front ++ back) → IsReordered (if b then x ∷ xs else xs) (front ++ (if b then x ∷ back else back))
  unfolding IsReordered
  kept true x xs front back same = (front, back, refl, same)
  kept false x xs front back same = same

  pub reordered_filter : (p : X → Bool) (xs ys : List X) → IsReordered xs ys → IsReordered (filter p xs) (filter p ys)
  unfolding IsReordered
  reordered_filter p [] ys same = ap (filter p) same
  reordered_filter p (x ∷ xs) ys same =
      let front = same.0 in
      let back = same.1 in
      let whole : filter p ys ≡ filter p front ++ (if p x then x ∷ filter p back else filter p back) = ap (filter p) same.2 ∙ filter-append p front (x ∷ back) in
      subst (IsReordered (if p x then x ∷ filter p xs else filter p xs)) (sym whole)
      (kept (p x) x (filter p xs) (filter p front) (filter p back) (subst (IsReordered (filter p xs)) (filter-append p front back) (reordered_filter p xs (front ++ back) same.3)))
