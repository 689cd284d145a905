-- The order of an epoch's rows, and the text of its sink file.
use Rattle.std.specs.Prelude.{ℕ, List, [], ◌∷◌, ◌++◌, Bool, slice_get}
use Rattle.std.specs.declared.cmp.Ordering.{Ordering}
use Rattle.std.specs.List.{flat_map}
use Rattle.std.specs.Option.{option_cmp}
use Rattle.std.specs.Ordering.{flip_args, is_lt, on, then_cmp}
use Rattle.ssq_value.specs.declared.value.Value.{Value}
use Rattle.ssq_value.specs.Order.{value_cmp, values_cmp}
use Rattle.ssq_shape.specs.declared.bound.Bound.{Bound}
use Rattle.ssq_shape.specs.declared.bound.Direction.{Direction}
use Rattle.ssq_shape.specs.declared.bound.Direction.TheVariants as direction
use Rattle.ssq_shape.specs.declared.bound.SortKey.{SortKey}
use Rattle.ssq_shape.specs.Plain.{output_names}
use Rattle.ssq_json.specs.RowText.{row_text, text_with}
use Rattle.ssq_sink.specs.Sorted.{sorted}

-- an order, and under DESC the other way round
abbrev pub directed : {X : Type 0} → Direction → (X → X → Ordering) → X → X → Ordering
directed direction.Ascending cmp = cmp
directed direction.Descending cmp = flip_args cmp

-- By the values of the key's output. So NULL comes first, and under DESC last.
abbrev pub key_cmp : SortKey → List Value → List Value → Ordering
key_cmp key = directed key.direction (on (λ row. slice_get row key.output) (option_cmp value_cmp))

-- The order of an epoch's rows: by the first key of ORDER BY on which two of them differ, or else by the first values from the left that
-- differ.
unfoldable pub row_cmp : List SortKey → List Value → List Value → Ordering
row_cmp [] = values_cmp
row_cmp (key ∷ order) = then_cmp (key_cmp key) (row_cmp order)

-- whether a row stands before another
abbrev pub is_row_below : List SortKey → List Value → List Value → Bool
is_row_below order left right = is_lt (row_cmp order left right)

-- the text of the row with these heads, and a line feed
abbrev pub line_with : List (List ℕ) → List Value → List ℕ
line_with heads row = text_with heads row ++ 10 ∷ []

-- the rows in the order of these keys, one line each; the columns have these names
unfoldable pub ordered_text : List (List ℕ) → List SortKey → List (List Value) → List ℕ
ordered_text names order rows = flat_map (λ row. row_text names row ++ 10 ∷ []) (sorted (is_row_below order) rows)

-- the rows that a query shows in an epoch: in the order of ORDER BY, under the names of SELECT
unfoldable pub sink_text : Bound → List (List Value) → List ℕ
sink_text query rows = ordered_text (output_names query) query.order rows
