-- Totals of few rows fit their types.
use Rattle.std.proofs.Common.{◌≡◌, ◌<◌, ◌≤◌, ◌+◌, ◌*◌, ◌^◌, ◌++◌, ℕ, zero, suc, ℤ, pos, ◌+ℤ◌, [], ◌∷◌, Some, None, List, Option, Bool, true, false, ap, sym, ◌∙◌, subst, arith, map, filter, length, take}
use Rattle.std.specs.Prelude.{◌&&◌, unsigned_abs, not, if◌then◌else◌, fold}
use Rattle.std.specs.Int.{w128}
use Rattle.std.specs.List.{AllByRecursion}
use Rattle.std.proofs.lemmas.Int.{ints, fits_signed_from_abs}
use Rattle.std.proofs.lemmas.List.{length-append, length-map, length-take}
use Rattle.ssq_value.specs.declared.value.Value.{Value}
use Rattle.ssq_value.specs.declared.value.Value.TheVariants as value
use Rattle.ssq_shape.specs.declared.bound.Aggregate.{Aggregate}
use Rattle.ssq_shape.specs.declared.bound.Bound.{Bound}
use Rattle.ssq_shape.specs.declared.bound.Function.{Function}
use Rattle.ssq_shape.specs.declared.bound.Function.TheVariants as function
use Rattle.ssq_shape.specs.declared.bound.Grouping.{Grouping}
use Rattle.ssq_shape.specs.Evaluation.{cell_at, is_null}
use Rattle.ssq_meaning.specs.FedRows.{FedRow}
use Rattle.ssq_meaning.specs.declared.total.Total.{Total}
use Rattle.ssq_meaning.specs.Group.{is_same, has_key, members, totals_in, is_closed}
use Rattle.ssq_meaning.specs.GroupLaws.{held}
use Rattle.ssq_meaning.specs.Meaning.{Values}
use Rattle.ssq_meaning.specs.Totals.{summand, sum_of, total_of, column_of, totals_from, with_row}
use Rattle.ssq_meaning.proofs.Handing.{all_append}
use Rattle.ssq_meaning.proofs.FewRows.{passing_few}
use Rattle.ssq_step.proofs.Lists.{cell_has}
use Rattle.ssq_agg.specs.Fits.{Fits, AllFit}
use Rattle.ssq_agg.specs.Groups.{AreSteady, HasBigints, Held, IsBigint, started}
use Rattle.ssq_agg.proofs.Stepping.{held_is}

abs_add : (a b : ℤ) → unsigned_abs (a +ℤ b) ≤ unsigned_abs a + unsigned_abs b
abs_add a b = grind (arith, ints)

small : (v : Value) → IsBigint v → unsigned_abs (summand v) ≤ 2 ^ 63
small value.Null is = omega arith
small (value.Int n) is = grind (arith, ints, is)
small (value.Text t) is = omega arith
small (value.Time t) is = omega arith
small (value.Truth t) is = omega arith

sum_bound : (start : ℤ) (values : List Value) → AllByRecursion IsBigint values → unsigned_abs (fold (λ sum value. sum +ℤ summand value) start values) ≤ unsigned_abs start + length values * 2 ^ 63
sum_bound start [] all = omega arith
sum_bound start (v ∷ values) all =
    let rest = sum_bound (start +ℤ summand v) values all.1 in
    let one = abs_add start (summand v) in
    let own = small v all.0 in
    omega (arith, rest, one, own)

total_fits : (own : Function) (values : List Value) → length values < 2 ^ 64 → AllByRecursion IsBigint values → Fits (total_of own values)
total_fits function.Count values few all = let less = passing_few (λ v. not (is_null v)) values in omega (arith, few, less)
total_fits function.Sum values few all =
    let less = passing_few (λ v. not (is_null v)) values in
    let bound = sum_bound (pos 0) values all in
    (omega (arith, few, less), fits_signed_from_abs w128 (sum_of values) (omega (arith, bound, few)))
total_fits function.Min values few all = tt
total_fits function.Max values few all = tt

column_is : (at : ℕ) (rows : List (List Value)) → AllByRecursion (λ row. AllByRecursion IsBigint row) rows → AllByRecursion IsBigint (column_of at rows)
column_is at [] all = tt
column_is at (row ∷ rows) all = (cell_has IsBigint tt row at all.0, column_is at rows all.1)

totals_fit : (at : ℕ) (aggregates : List Aggregate) (rows : List (List Value)) → length rows < 2 ^ 64 → AllByRecursion (λ row. AllByRecursion IsBigint row) rows → AllFit (totals_from at aggregates rows)
unfolding totals_from
totals_fit at [] rows few all = tt
totals_fit at (aggregate ∷ aggregates) rows few all =
    let same = length-map rows (λ row. cell_at row at) in
    (total_fits aggregate.function (column_of at rows) (omega (arith, few, same)) (column_is at rows all), totals_fit (at + 1) aggregates rows few all)

members_few : (rows : List FedRow) (key : Values) → length (members rows key) ≤ length rows
members_few rows key =
    let same = length-map (filter (λ row. is_same key row.key) rows) (λ (row : FedRow). row.values) in
    let less = passing_few (λ (row : FedRow). is_same key row.key) rows in
    omega (arith, same, less)

members_are : (rows : List FedRow) (key : Values) → AllByRecursion HasBigints rows → AllByRecursion (λ row. AllByRecursion IsBigint row) (members rows key)
members_are [] key all = tt
members_are (row ∷ rows) key all = by (is_same key row.key) (members_are rows key all.1)
  where
    by : (b : Bool) → AllByRecursion (λ row. AllByRecursion IsBigint row) (members rows key)
        → AllByRecursion (λ row. AllByRecursion IsBigint row) (map (λ (row : FedRow). row.values) (if b then row ∷ filter (λ row. is_same key row.key) rows else filter (λ row. is_same key row.key) rows))
    by true rest = (all.0, rest)
    by false rest = rest

rows_fit : (grouping : Grouping) (rows : List FedRow) (key : Values) → length rows < 2 ^ 64 → AllByRecursion HasBigints rows → AllFit (totals_in grouping rows key)
rows_fit grouping rows key few all =
    let less = members_few rows key in
    totals_fit 0 grouping.aggregates (members rows key) (omega (arith, less, few)) (members_are rows key all)

some_first : (n : ℕ) (rows : List FedRow) → AllByRecursion HasBigints rows → AllByRecursion HasBigints (take n rows)
some_first zero rows all = tt
some_first (suc n) [] all = tt
some_first (suc n) (row ∷ rows) all = (all.0, some_first n rows all.1)

pub steady_rows : ((grouping : Grouping) (old new : List FedRow) (key : Values) → totals_in grouping (old ++ new) key ≡ fold with_row (totals_in grouping old key) (members new key))
    → (query : Bound) (grouping : Grouping) (own : Held) (old new : List FedRow) (before : Option ℤ) → ((key : Values) → own key ≡ held query grouping old before key)
    → length old + length new < 2 ^ 64 → AllByRecursion HasBigints old → AllByRecursion HasBigints new → AreSteady grouping.aggregates own new
steady_rows totals query grouping own old new before kept few olds news n key = by (own key) (kept key)
  where
    some : List FedRow
    some = take n new

    fewer : length some ≤ length new
    fewer = let is = length-take n new in omega (arith, is)

    by : (o : Option (List Total)) → o ≡ held query grouping old before key → AllFit (fold with_row (started grouping.aggregates o) (members (take n new) key))
    by None is = subst AllFit (totals grouping [] (take n new) key) (rows_fit grouping (take n new) key (let less = fewer in omega (arith, less, few)) (some_first n new news))
    by (Some t) is =
        let start : totals_in grouping old key ≡ t = held_is (has_key old key && not (is_closed query grouping before key)) (totals_in grouping old key) t (sym is) in
        subst AllFit (totals grouping old (take n new) key ∙ ap (λ t. fold with_row t (members (take n new) key)) start)
        (rows_fit grouping (old ++ take n new) key (let less = fewer in let both = length-append old (take n new) in omega (arith, less, both, few)) (all_append HasBigints old (take n new) olds (some_first n new news)))
