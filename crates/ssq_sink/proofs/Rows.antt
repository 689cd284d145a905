-- The order of rows, and texts whatever the order in which the rows come.
use Rattle.std.proofs.Common.{◌≡◌, ℕ, zero, suc, ◌+◌, ◌<◌, ◌≤◌, ◌++◌, ◌∷◌, [], Bool, true, false, List, length, take, drop, get_or, slice_get, count_by, refl, sym, ap, ◌∙◌, append_assoc, append-nil, arith, Some, None}
use Rattle.std.specs.declared.cmp.Ordering.{Ordering}
use Rattle.std.specs.declared.cmp.Ordering.TheVariants.{Less, Equal, Greater}
use Rattle.std.specs.Cmp.{IsStrictWeakOrder, IsTotalOrder, back_total, on_total, then_total}
use Rattle.std.specs.Cmp.Lexicographic.{options_total}
use Rattle.std.specs.FinMap.{IsAntisymmetric}
use Rattle.std.specs.List.{flat_map}
use Rattle.std.specs.List.Sorted.{IsPermutation, IsSortedBy}
use Rattle.std.specs.Option.{option_cmp}
use Rattle.std.specs.Ordering.{is_lt, is_ne, ordering_reverse, ordering_then}
use Rattle.std.proofs.Math.ListN.{drop_of_length-le}
use Rattle.std.proofs.lemmas.Bool.{false≢true}
use Rattle.std.proofs.lemmas.List.{drop_more}
use Rattle.std.proofs.lemmas.List.Sorted.{ranks_by}
use Rattle.ssq_value.specs.declared.value.Value.{Value}
use Rattle.ssq_value.specs.Order.{value_cmp, values_cmp}
use Rattle.ssq_value.specs.OrderLaws.{value_cmp_total, value_cmp_exact, values_cmp_total, values_cmp_exact}
use Rattle.ssq_shape.specs.declared.bound.Bound.{Bound}
use Rattle.ssq_shape.specs.declared.bound.Direction.{Direction}
use Rattle.ssq_shape.specs.declared.bound.Direction.TheVariants as direction
use Rattle.ssq_shape.specs.declared.bound.SortKey.{SortKey}
use Rattle.ssq_shape.specs.Plain.{output_names}
use Rattle.ssq_json.specs.RowText.{heads_of, row_text}
use Rattle.ssq_sink.specs.Sink.{directed, key_cmp, row_cmp, is_row_below, line_with, ordered_text, sink_text}
use Rattle.ssq_sink.specs.Sorted.{sorted}
use Rattle.ssq_sink.proofs.Sorting.{sorted-SameBag, SameBag-permutation, sorted_only}

option_cmp_exact : IsAntisymmetric (option_cmp value_cmp)
option_cmp_exact None None tie = refl
option_cmp_exact None (Some right) tie = absurd cc
option_cmp_exact (Some left) None tie = absurd cc
option_cmp_exact (Some left) (Some right) tie = ap (λ value. Some value) (value_cmp_exact left right tie)

directed_total : {X : Type 0} (along : Direction) {R : X → X → Ordering} → IsTotalOrder R → IsTotalOrder (directed along R)
directed_total direction.Ascending total = total
directed_total direction.Descending total = back_total total

key_cmp_total : (key : SortKey) → IsTotalOrder (key_cmp key)
key_cmp_total key = directed_total key.direction (on_total (λ row. slice_get row key.output) (options_total value_cmp_total))

pub row_cmp_total : (order : List SortKey) → IsTotalOrder (row_cmp order)
unfolding row_cmp
row_cmp_total [] = values_cmp_total
row_cmp_total (key ∷ order) = then_total (key_cmp_total key) (row_cmp_total order)

-- where two orders tie together, the second of them ties
ties_last : (r s : Ordering) → ordering_then r s ≡ Equal → s ≡ Equal
ties_last Less s tie = absurd cc
ties_last Equal s tie = tie
ties_last Greater s tie = absurd cc

pub row_cmp_exact : (order : List SortKey) → IsAntisymmetric (row_cmp order)
unfolding row_cmp
row_cmp_exact [] left right tie = values_cmp_exact left right tie
row_cmp_exact (key ∷ order) left right tie = row_cmp_exact order left right (ties_last (key_cmp key left right) (row_cmp order left right) tie)

-- rows stand as the next key tells, and where it tells nothing, as those after it do
by_next : (order : List SortKey) (at : ℕ) (other : SortKey) (left right : List Value) (r : Ordering) → at < length order → r ≡ key_cmp (get_or order at other) left right → row_cmp (drop at order) left right ≡ ordering_then r (row_cmp (drop (at + 1) order) left right)
unfolding row_cmp
by_next order at other left right r low is =
    ap (λ keys. row_cmp keys left right) (drop_more order at other low) ∙ ap (λ r. ordering_then r (row_cmp (drop (at + 1) order) left right)) (sym is)

first_apart : (r s : Ordering) → is_ne r ≡ true → ordering_then r s ≡ r
first_apart Less s apart = refl
first_apart Equal s apart = absurd cc
first_apart Greater s apart = refl

first_tied : (r s : Ordering) → is_ne r ≡ false → ordering_then r s ≡ s
first_tied Less s tied = absurd cc
first_tied Equal s tied = refl
first_tied Greater s tied = absurd cc

pub told_apart : (order : List SortKey) (at : ℕ) (other : SortKey) (left right : List Value) (r : Ordering) → at < length order → r ≡ key_cmp (get_or order at other) left right → is_ne r ≡ true → row_cmp (drop at order) left right ≡ r
told_apart order at other left right r low is apart =
    by_next order at other left right r low is ∙ first_apart r (row_cmp (drop (at + 1) order) left right) apart

pub tied_so_far : (order : List SortKey) (at : ℕ) (other : SortKey) (left right : List Value) (r : Ordering) → at < length order → r ≡ key_cmp (get_or order at other) left right → is_ne r ≡ false → row_cmp (drop at order) left right ≡ row_cmp (drop (at + 1) order) left right
tied_so_far order at other left right r low is tied =
    by_next order at other left right r low is ∙ first_tied r (row_cmp (drop (at + 1) order) left right) tied

-- without keys the values tell
pub no_key_left : (order : List SortKey) (at : ℕ) (left right : List Value) → length order ≤ at → row_cmp (drop at order) left right ≡ values_cmp left right
unfolding row_cmp
no_key_left order at left right high = let none : drop at order ≡ [] = drop_of_length-le order high in rw none refl

module _ (order : List SortKey) where
  pub rows_order : IsStrictWeakOrder (is_row_below order)
  rows_order = ranks_by (row_cmp_total order) (λ row. row)

  rows_ties_by : (left right : List Value) (r : Ordering) → row_cmp order left right ≡ r → is_lt r ≡ false → is_row_below order right left ≡ false → left ≡ right
  rows_ties_by left right Less is up down = absurd (false≢true (sym up))
  rows_ties_by left right Equal is up down = row_cmp_exact order left right is
  rows_ties_by left right Greater is up down =
      absurd (false≢true (sym down ∙ ap is_lt ((row_cmp_total order).antisymm right left ∙ ap ordering_reverse is)))

  -- rows of which neither is below the other are equal
  rows_ties : (left right : List Value) → is_row_below order left right ≡ false → is_row_below order right left ≡ false → left ≡ right
  rows_ties left right up down = rows_ties_by left right (row_cmp order left right) refl up down

  -- what a sort of rows gives
  pub rows_sorted : (rows sort : List (List Value)) → IsPermutation rows sort → IsSortedBy (is_row_below order) sort → sort ≡ sorted (is_row_below order) rows
  rows_sorted rows sort moved up = sorted_only rows_order rows_ties rows sort moved up

pub sink_text-SameBag : (query : Bound) (left right : List (List Value)) → ((test : List Value → Bool) → count_by test left ≡ count_by test right) → sink_text query left ≡ sink_text query right
unfolding sink_text ordered_text
sink_text-SameBag query left right bag =
    ap (flat_map (λ row. row_text (output_names query) row ++ 10 ∷ [])) (sorted-SameBag (rows_order query.order) (rows_ties query.order) left right bag)

pub sink_text-permutation : (query : Bound) (left right : List (List Value)) → IsPermutation left right → sink_text query left ≡ sink_text query right
sink_text-permutation query left right moved =
    sink_text-SameBag query left right (SameBag-permutation (rows_order query.order) (rows_ties query.order) left right moved)

flat_map-next : {X Y : Type 0} (f : X → List Y) (xs : List X) (at : ℕ) (x : X) → at < length xs → x ≡ get_or xs at x → flat_map f (take (suc at) xs) ≡ flat_map f (take at xs) ++ f x
flat_map-next f [] at x low is = absurd (omega arith)
flat_map-next f (first ∷ xs) zero x low is = append-nil (f first) ∙ ap f (sym is)
flat_map-next f (first ∷ xs) (suc at) x low is = ap (λ rest. f first ++ rest) (flat_map-next f xs at x (omega arith) is) ∙ sym (append_assoc (f first) (flat_map f (take at xs)) (f x))

-- one line more
pub lines-next : (heads : List (List ℕ)) (rows : List (List Value)) (at : ℕ) (row : List Value) (start before after : List ℕ) → at < length rows → row ≡ get_or rows at row → before ≡ start ++ flat_map (line_with heads) (take at rows) → after ≡ before ++ line_with heads row → after ≡ start ++ flat_map (line_with heads) (take (at + 1) rows)
lines-next heads rows at row start before after low is so_far one =
    let next : at + 1 ≡ suc at = omega arith in
    let lines : List ℕ = flat_map (line_with heads) (take at rows) in
    rw next (one ∙ ap (λ b. b ++ line_with heads row) so_far ∙ append_assoc start lines (line_with heads row)
    ∙ ap (λ all. start ++ all) (sym (flat_map-next (line_with heads) rows at row low is)))

-- the lines of sorted rows are the text
pub lines-ordered_text : (names heads : List (List ℕ)) (order : List SortKey) (rows sort : List (List Value)) (start text : List ℕ) → heads ≡ heads_of names → sort ≡ sorted (is_row_below order) rows → start ≡ [] → text ≡ start ++ flat_map (line_with heads) sort → text ≡ ordered_text names order rows
unfolding ordered_text row_text
lines-ordered_text names heads order rows sort start text made up empty is = is ∙ rw (made, up, empty) refl
