-- Rows in another order, and what is read of them.
use Rattle.std.proofs.Common.{◌≡◌, refl, sym, ap, subst, ◌≤◌, ◌∷◌, [], List, filter, Option, Some, None, Bool, true, false, not}
use Rattle.std.specs.Prelude.{filter_map, if◌then◌else◌}
use Rattle.std.specs.List.{cons_option, list_any}
use Rattle.std.specs.List.Sorted.{IsPermutation}
use Rattle.std.proofs.lemmas.List.Sorted.{IsPermutation-append, IsPermutation-cons, IsPermutation-middle, IsPermutation-refl, IsPermutation-trans, length_permutation, list_any-IsPermutation}
use Rattle.ssq_shape.specs.declared.bound.Output.{Output}
use Rattle.ssq_meaning.specs.Group.{is_same}
use Rattle.ssq_meaning.specs.Meaning.{Values}
use Rattle.ssq_meaning.specs.Table.{is_same_group, key_cells, replaced}
use Rattle.ssq_meaning.proofs.Shuffled.{filter_same, shown_shuffled}
use Rattle.ssq_sink.specs.Sorted.{placed, sorted}
use Rattle.ssq_sink.specs.Table.{HasOnce}

-- ---- sorting permutes

placed_permutes : (below : Values → Values → Bool) (row : Values) (rows : List Values) → IsPermutation (placed below row rows) (row ∷ rows)
unfolding placed
placed_permutes below row [] = IsPermutation-refl (row ∷ [])
placed_permutes below row (next ∷ rows) = by (below next row) (placed_permutes below row rows)
  where
    by : (b : Bool) → IsPermutation (placed below row rows) (row ∷ rows) → IsPermutation (if b then next ∷ placed below row rows else row ∷ next ∷ rows) (row ∷ next ∷ rows)
    by true rest = IsPermutation-trans _ _ _ (IsPermutation-cons next (placed below row rows) (row ∷ rows) rest) (IsPermutation-middle (next ∷ []) row rows)
    by false rest = IsPermutation-refl (row ∷ next ∷ rows)

pub sorted_permutes : (below : Values → Values → Bool) (rows : List Values) → IsPermutation (sorted below rows) rows
unfolding sorted
sorted_permutes below [] = IsPermutation-refl []
sorted_permutes below (row ∷ rows) =
    IsPermutation-trans _ _ _ (placed_permutes below row (sorted below rows)) (IsPermutation-cons row (sorted below rows) rows (sorted_permutes below rows))

-- ---- tests of permuted rows

abbrev passing : (Values → Bool) → Values → Option Values
passing p row = if p row then Some row else None

filter_is : (p : Values → Bool) (rows : List Values) → filter p rows ≡ filter_map (passing p) rows
filter_is p [] = refl
filter_is p (row ∷ rows) = by (p row) (filter_is p rows)
  where
    by : (b : Bool) → filter p rows ≡ filter_map (passing p) rows → (if b then row ∷ filter p rows else filter p rows) ≡ cons_option (if b then Some row else None) (filter_map (passing p) rows)
    by true rest = ap (λ l. row ∷ l) rest
    by false rest = rest

filter_permutes : (p : Values → Bool) (xs ys : List Values) → IsPermutation xs ys → IsPermutation (filter p xs) (filter p ys)
filter_permutes p xs ys same =
    subst (λ l. IsPermutation l (filter p ys)) (sym (filter_is p xs)) (subst (IsPermutation (filter_map (passing p) xs)) (sym (filter_is p ys)) (shown_shuffled (passing p) xs ys same))

pub once_permutes : (outputs : List Output) (xs ys : List Values) → IsPermutation xs ys → HasOnce outputs ys → HasOnce outputs xs
once_permutes outputs xs ys same once key =
    let has : Values → Bool = λ row. is_same key (key_cells outputs row) in
    subst (λ n. n ≤ 1) (length_permutation (filter has xs) (filter has ys) (filter_permutes has xs ys same)) (once key)

-- rows that are replaced by others, all in another order
pub replaced_permutes : (outputs : List Output) (old old' new new' : List Values) → IsPermutation old old' → IsPermutation new new' → IsPermutation (replaced outputs old new) (replaced outputs old' new')
replaced_permutes outputs old old' new new' olds news =
    let stays : List Values → Values → Bool = λ later row. not (list_any (is_same_group outputs row) later) in
    let agree : filter (stays new) old' ≡ filter (stays new') old' =
    filter_same (stays new) (stays new') (λ row. ap not (list_any-IsPermutation (is_same_group outputs row) new new' news)) old' in
    IsPermutation-append (filter (stays new) old) (filter (stays new') old') new new' (subst (IsPermutation (filter (stays new) old)) agree (filter_permutes (stays new) old old' olds)) news
