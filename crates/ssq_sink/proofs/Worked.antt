-- Rows of two columns in their order: k of b, NULL and a, with n of 2, 2 and 1.
use Rattle.std.proofs.Common.{◌≡◌, List, [], ◌∷◌, pos, refl}
use Rattle.ssq_value.specs.declared.value.Value.{Value}
use Rattle.ssq_value.specs.declared.value.Value.TheVariants as value
use Rattle.ssq_shape.specs.declared.bound.Direction.TheVariants as direction
use Rattle.ssq_shape.specs.declared.bound.SortKey.{SortKey}
use Rattle.ssq_sink.specs.Sink.{is_row_below, row_cmp}
use Rattle.ssq_sink.specs.Sorted.{placed, sorted}
use Rattle.ssq_value.specs.Order.{value_cmp}

abbrev b : List Value
b = value.Text (98 ∷ []) ∷ value.Int (pos 2) ∷ []

abbrev none : List Value
none = value.Null ∷ value.Int (pos 2) ∷ []

abbrev a : List Value
a = value.Text (97 ∷ []) ∷ value.Int (pos 1) ∷ []

abbrev by_k : SortKey
by_k = record { output = 0; direction = direction.Descending }

abbrev by_n : SortKey
by_n = record { output = 1; direction = direction.Descending }

-- without ORDER BY: NULL first
plainly : sorted (is_row_below []) (b ∷ none ∷ a ∷ []) ≡ none ∷ a ∷ b ∷ []
unfolding row_cmp placed sorted value_cmp
plainly = refl

-- under ORDER BY n DESC: the greatest n first, and rows of one n by k
by_n_descending : sorted (is_row_below (by_n ∷ [])) (b ∷ none ∷ a ∷ []) ≡ none ∷ b ∷ a ∷ []
unfolding row_cmp placed sorted value_cmp
by_n_descending = refl

-- under ORDER BY k DESC: NULL last
by_k_descending : sorted (is_row_below (by_k ∷ [])) (b ∷ none ∷ a ∷ []) ≡ b ∷ a ∷ none ∷ []
unfolding row_cmp placed sorted value_cmp
by_k_descending = refl
