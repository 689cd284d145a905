-- Totals with more rows.
use Rattle.std.proofs.Common.{◌≡◌, ◌+◌, ◌++◌, [], ◌∷◌, ℕ, pos, ◌+ℤ◌, List, Bool, true, false, refl, ap, sym, ◌∙◌, arith, length}
use Rattle.std.specs.Prelude.{fold, not, if◌then◌else◌}
use Rattle.std.proofs.lemmas.List.{append_assoc, append-nil, length-append, map-append}
use Rattle.std.proofs.lemmas.List.Elements.{filter-append}
use Rattle.std.proofs.lemmas.List.Sums.{fold-append}
use Rattle.ssq_value.specs.declared.value.Value.{Value}
use Rattle.ssq_value.specs.declared.value.Value.TheVariants as value
use Rattle.ssq_shape.specs.declared.bound.Aggregate.{Aggregate}
use Rattle.ssq_shape.specs.declared.bound.Function.{Function}
use Rattle.ssq_shape.specs.declared.bound.Function.TheVariants as function
use Rattle.ssq_shape.specs.Evaluation.{cell_at, is_null}
use Rattle.ssq_meaning.specs.declared.total.Total.TheVariants as total
use Rattle.ssq_meaning.specs.Totals.{present, summand, lesser, greater, total_of, column_of, totals_from, totals_of, counted, with_value, with_row_from, with_row}

one_more : (values : List Value) (value : Value) → length (present (values ++ value ∷ [])) ≡ counted (length (present values)) value
one_more values value =
    ap (λ l. length l) (filter-append (λ value. not (is_null value)) values (value ∷ []))
    ∙ length-append (present values) (present (value ∷ []))
    ∙ by (is_null value)
  where
    by : (b : Bool) → length (present values) + length (if not b then value ∷ [] else []) ≡ (if b then length (present values) else length (present values) + 1)
    by true = omega arith
    by false = refl

value_more : (own : Function) (values : List Value) (one : Value) → total_of own (values ++ one ∷ []) ≡ with_value (total_of own values) one
value_more function.Count values one = ap (λ count. total.Count count) (one_more values one)
value_more function.Sum values one =
    let count = one_more values one in
    let sum = fold-append (λ sum value. sum +ℤ summand value) (pos 0) values (one ∷ []) in
    λ i. total.Sum (count i) (sum i)
value_more function.Min values one = ap (λ least. total.Least least) (fold-append lesser value.Null values (one ∷ []))
value_more function.Max values one = ap (λ greatest. total.Greatest greatest) (fold-append greater value.Null values (one ∷ []))

row_more : (at : ℕ) (aggregates : List Aggregate) (rows : List (List Value)) (row : List Value)
    → totals_from at aggregates (rows ++ row ∷ []) ≡ with_row_from at (totals_from at aggregates rows) row
unfolding totals_from with_row_from
row_more at [] rows row = refl
row_more at (aggregate ∷ aggregates) rows row =
    let first = ap (total_of aggregate.function) (map-append (λ row. cell_at row at) rows (row ∷ [])) ∙ value_more aggregate.function (column_of at rows) (cell_at row at) in
    let rest = row_more (at + 1) aggregates rows row in
    λ i. first i ∷ rest i

-- the totals of more rows are those with each of these rows
pub rows_more : (aggregates : List Aggregate) (old new : List (List Value)) → totals_of aggregates (old ++ new) ≡ fold with_row (totals_of aggregates old) new
rows_more aggregates old [] = ap (totals_of aggregates) (append-nil old)
rows_more aggregates old (row ∷ new) =
    ap (totals_of aggregates) (sym (append_assoc old (row ∷ []) new))
    ∙ rows_more aggregates (old ++ row ∷ []) new
    ∙ ap (λ totals. fold with_row totals new) (row_more 0 aggregates old row)
