-- In an epoch each key has one row at most, where a query shows its keys.
use Rattle.std.proofs.Common.{◌≡◌, ◌∙◌, refl, sym, ap, subst, ◌+◌, ◌++◌, ◌≤◌, ◌∷◌, [], ℕ, zero, suc, List, filter, length, Option, Some, None, Result, Ok, Err, Bool, true, false, arith}
use Rattle.std.specs.Prelude.{filter_map, if◌then◌else◌, map, option_and_then}
use Rattle.std.specs.List.{AllByRecursion, cons_option}
use Rattle.std.specs.Result.{result_ok}
use Rattle.ssq_shape.specs.declared.bound.Bound.{Bound}
use Rattle.ssq_shape.specs.declared.bound.Grouping.{Grouping}
use Rattle.ssq_shape.specs.declared.bound.Shape.TheVariants.{Group}
use Rattle.ssq_shape.specs.Evaluation.{Overflow, and_then}
use Rattle.ssq_meaning.specs.FedRows.{FedRow}
use Rattle.ssq_meaning.specs.Cut.{Cuts}
use Rattle.ssq_meaning.specs.Epochs.{accepted, on_time, out, watermark, watermark_before}
use Rattle.ssq_meaning.specs.Group.{due_keys, group_items, group_row, has_key, is_closed, is_due, is_same, keys_in, passes_having, row_of_key, totals_in}
use Rattle.ssq_meaning.specs.GroupLaws.{times}
use Rattle.ssq_meaning.specs.Meaning.{Values}
use Rattle.ssq_meaning.specs.Parts.{Part}
use Rattle.ssq_meaning.specs.Table.{ShowsKeys, key_cells}
use Rattle.ssq_meaning.specs.Totals.{values_of_totals}
use Rattle.ssq_meaning.proofs.Bags.{times-cons}
use Rattle.ssq_meaning.proofs.Cells.{one_key}
use Rattle.ssq_meaning.proofs.Counted.{times_in}
use Rattle.ssq_meaning.proofs.FedTimes.{IsKeyOf, on_time_keyed}
use Rattle.ssq_meaning.proofs.GroupEpochs.{out_is}
use Rattle.ssq_meaning.proofs.Grouped.{keys_of_rows}
use Rattle.ssq_meaning.proofs.Handing.{all_append}
use Rattle.ssq_meaning.proofs.Keys.{All-by, All-distinct, same_is, same_itself, times_passing}
use Rattle.ssq_sink.specs.Table.{HasOnce}

-- what is counted is among them
counted_here : (key other : Values) (keys : List Values) → is_same key other ≡ true → times key (other ∷ keys) ≡ 1 + times key keys
counted_here key other keys same = times-cons key other keys ∙ ap (λ b. (if b then 1 else 0) + times key keys) same

counted_later : (key other : Values) (keys : List Values) → times key keys ≤ times key (other ∷ keys)
counted_later key other keys = omega (arith, times-cons key other keys)

module _ (query : Bound) (grouping : Grouping) (shows : ShowsKeys query grouping) (rows : List FedRow) where
  abbrev shown : Values → Option Values
  shown = row_of_key query grouping rows

  -- the row of a key is its items
  is_row : (key row : Values) → shown key ≡ Some row → group_items query.outputs key (values_of_totals (totals_in grouping rows key)) ≡ Ok row
  unfolding group_row
  is_row key row is = by (passes_having grouping.having key (values_of_totals (totals_in grouping rows key))) (group_items query.outputs key (values_of_totals (totals_in grouping rows key))) is
    where
      by : (passing : Result Bool Overflow) (items : Result Values Overflow)
          → option_and_then (λ row. row) (result_ok (and_then passing (λ passing. if passing then and_then items (λ (values : Values). Ok (Some values)) else Ok None))) ≡ Some row → items ≡ Ok row
      by (Ok true) (Ok other) is = let one : other ≡ row = cc in ap (λ row. Ok row) one
      by (Ok true) (Err excess) is = absurd cc
      by (Ok false) items is = absurd cc
      by (Err excess) items is = absurd cc

  abbrev has : Values → Values → Bool
  has cells row = is_same cells (key_cells query.outputs row)

  -- rows with the same cells are of one key
  one : (cells left right row other : Values) → IsKeyOf grouping.keys left → IsKeyOf grouping.keys right → shown left ≡ Some row → shown right ≡ Some other → has cells row ≡ true → has cells other ≡ true → left ≡ right
  one cells left right row other lefts rights here there own also =
      one_key grouping.keys query.outputs shows.alone shows.each left right (values_of_totals (totals_in grouping rows left)) (values_of_totals (totals_in grouping rows right)) row other lefts rights
      (is_row left row here) (is_row right other there) (sym (same_is cells (key_cells query.outputs row) own) ∙ same_is cells (key_cells query.outputs other) also)

  -- no later key has a row with the cells of this key's row
  none_later : (cells key row : Values) → IsKeyOf grouping.keys key → shown key ≡ Some row → has cells row ≡ true → (keys : List Values) → AllByRecursion (IsKeyOf grouping.keys) keys → times key keys ≡ 0
      → length (filter (has cells) (filter_map shown keys)) ≡ 0
  none_later cells key row is here own [] are none = refl
  none_later cells key row is here own (other ∷ keys) are none =
      by (none_later cells key row is here own keys are.1 (let less = counted_later key other keys in omega (arith, less, none))) (shown other) refl
    where
      by : length (filter (has cells) (filter_map shown keys)) ≡ 0 → (own : Option Values) → shown other ≡ own → length (filter (has cells) (cons_option own (filter_map shown keys))) ≡ 0
      by rest None there = rest
      by rest (Some next) there = test (has cells next) refl
        where
          test : (b : Bool) → has cells next ≡ b → length (if b then next ∷ filter (has cells) (filter_map shown keys) else filter (has cells) (filter_map shown keys)) ≡ 0
          test true also =
              let same : key ≡ other = one cells key other row next is are.0 here there own also in
              let some = counted_here key other keys (subst (λ k. is_same key k ≡ true) same (same_itself key)) in
              absurd (omega (arith, some, none))
          test false also = rest

  rows_once : (keys : List Values) → AllByRecursion (IsKeyOf grouping.keys) keys → ((key : Values) → times key keys ≤ 1) → HasOnce query.outputs (filter_map shown keys)
  rows_once [] are few cells = omega arith
  rows_once (key ∷ keys) are few cells = by (rows_once keys are.1 (λ other. let less = counted_later other key keys in let most = few other in omega (arith, less, most)) cells) (shown key) refl
    where
      by : length (filter (has cells) (filter_map shown keys)) ≤ 1 → (own : Option Values) → shown key ≡ own → length (filter (has cells) (cons_option own (filter_map shown keys))) ≤ 1
      by rest None here = rest
      by rest (Some row) here = test (has cells row) refl
        where
          test : (b : Bool) → has cells row ≡ b → length (if b then row ∷ filter (has cells) (filter_map shown keys) else filter (has cells) (filter_map shown keys)) ≤ 1
          test true own =
              let counted = counted_here key key keys (same_itself key) in
              let most = few key in
              let none = none_later cells key row are.0 here own keys are.1 (omega (arith, counted, most)) in
              omega (arith, none)
          test false own = rest

module _ (query : Bound) (grouping : Grouping) (is : query.shape ≡ Group grouping) (parts : List Part) (cuts : Cuts) where
  accepted_keyed : (e : ℕ) → AllByRecursion (λ row. IsKeyOf grouping.keys row.key) (accepted query parts cuts e)
  unfolding accepted
  accepted_keyed zero = tt
  accepted_keyed (suc e) = all_append (λ row. IsKeyOf grouping.keys row.key) (accepted query parts cuts e) (on_time query parts cuts e) (accepted_keyed e) (on_time_keyed query grouping is parts cuts e)

  one_most : (b c : Bool) → (if b then (if c then 1 else 0) else 0) ≤ 1
  one_most true true = omega arith
  one_most true false = omega arith
  one_most false c = omega arith

  pub epoch_once : ShowsKeys query grouping → (e : ℕ) → HasOnce query.outputs (out query parts cuts e)
  epoch_once shows e =
      let old = accepted query parts cuts e in
      let new = on_time query parts cuts e in
      let before = watermark_before query parts cuts e in
      let now = watermark query parts cuts e in
      let test : Values → Bool = λ key. is_due query.mode (is_closed query grouping before key) (is_closed query grouping now key) (has_key new key) in
      let keyed = All-distinct (IsKeyOf grouping.keys) (map (λ (row : FedRow). row.key) (old ++ new))
      (keys_of_rows (IsKeyOf grouping.keys) (old ++ new) (all_append (λ row. IsKeyOf grouping.keys row.key) old new (accepted_keyed e) (on_time_keyed query grouping is parts cuts e))) in
      subst (HasOnce query.outputs) (sym (out_is query grouping is parts cuts e))
      (rows_once query grouping shows (old ++ new) (due_keys query grouping old new before now) (All-by (IsKeyOf grouping.keys) test (keys_in (old ++ new)) keyed)
      (λ key.
      let counted : times key (filter test (keys_in (old ++ new))) ≡ (if test key then (if has_key (old ++ new) key then 1 else 0) else 0) =
      times_passing key test (keys_in (old ++ new)) ∙ ap (λ n. if test key then n else 0) (times_in key (old ++ new)) in
      subst (λ n. n ≤ 1) (sym counted) (one_most (test key) (has_key (old ++ new) key))))
