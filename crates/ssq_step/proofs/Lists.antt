-- What holds of each item of a list, and its first items.
use Rattle.std.proofs.Common.{◌≡◌, ◌<◌, ◌+◌, ◌++◌, ℕ, zero, suc, [], ◌∷◌, List, ap, sym, ◌∙◌, take, length, get_or}
use Rattle.std.specs.List.{AllByRecursion}
use Rattle.std.proofs.lemmas.List.{take_more}
use Rattle.ssq_value.specs.declared.value.Value.{Value}
use Rattle.ssq_value.specs.declared.value.Value.TheVariants.{Null}
use Rattle.ssq_shape.specs.Evaluation.{cell_at}

-- one item more
pub one_more : {A : Type 0} (xs : List A) (at : ℕ) (x : A) → at < length xs → x ≡ get_or xs at x → take (at + 1) xs ≡ take at xs ++ x ∷ []
one_more xs at x inside is = take_more xs at x inside ∙ ap (λ y. take at xs ++ y ∷ []) (sym is)

-- of two lists one after the other
pub front_all : {A : Type 0} (P : A → Type 0) (xs ys : List A) → AllByRecursion P (xs ++ ys) → AllByRecursion P xs
front_all P [] ys all = tt
front_all P (x ∷ xs) ys all = (all.0, front_all P xs ys all.1)

pub back_all : {A : Type 0} (P : A → Type 0) (xs ys : List A) → AllByRecursion P (xs ++ ys) → AllByRecursion P ys
back_all P [] ys all = all
back_all P (x ∷ xs) ys all = back_all P xs ys all.1

-- what holds of NULL and of each value of a row holds of what stands at a place
pub cell_has : (P : Value → Type 0) → P Null → (row : List Value) (at : ℕ) → AllByRecursion P row → P (cell_at row at)
cell_has P null [] at all = null
cell_has P null (value ∷ row) zero all = all.0
cell_has P null (value ∷ row) (suc at) all = cell_has P null row at all.1
