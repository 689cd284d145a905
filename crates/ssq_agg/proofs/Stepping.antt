-- A step gives the state and the rows of its epoch.
use Rattle.std.proofs.Common.{◌≡◌, ◌+◌, ◌++◌, ℕ, ℤ, [], ◌∷◌, Some, None, List, Option, Result, Ok, Err, Bool, true, false, refl, ap, sym, ◌∙◌, subst, arith, map, filter}
use Rattle.std.specs.Prelude.{◌&&◌, ◌||◌, not, if◌then◌else◌, is_some, is_err, fold, filter_map, option_and_then}
use Rattle.std.specs.List.{AllByRecursion, cons_option}
use Rattle.std.specs.List.Sorted.{IsPermutation}
use Rattle.std.specs.Result.{result_ok}
use Rattle.ssq_value.specs.declared.value.Value.{Value}
use Rattle.ssq_shape.specs.declared.bound.Bound.{Bound}
use Rattle.ssq_shape.specs.declared.bound.Grouping.{Grouping}
use Rattle.ssq_shape.specs.declared.bound.Mode.{Mode}
use Rattle.ssq_shape.specs.declared.bound.Mode.TheVariants as mode
use Rattle.ssq_shape.specs.Evaluation.{Overflow}
use Rattle.ssq_meaning.specs.FedRows.{FedRow}
use Rattle.ssq_meaning.specs.declared.total.Total.{Total}
use Rattle.ssq_meaning.specs.Group.{is_same, has_key, members, totals_in, group_row, row_of_key, key_overflows, closing_time, is_closed, due_keys, least_key}
use Rattle.ssq_meaning.specs.GroupLaws.{times, times_due, held_if, held, next_held, is_due_now}
use Rattle.ssq_meaning.specs.Meaning.{Values}
use Rattle.ssq_meaning.specs.Operator.{group}
use Rattle.ssq_meaning.specs.Times.{is_past}
use Rattle.ssq_meaning.specs.Totals.{with_row}
use Rattle.ssq_meaning.proofs.Bags.{times-append}
use Rattle.ssq_meaning.proofs.Coding.{any_by}
use Rattle.ssq_meaning.proofs.Keys.{times_passing}
use Rattle.ssq_agg.specs.declared.kept.Group.{Group}
use Rattle.ssq_agg.specs.Closed.{is_ended, AreClosed}
use Rattle.ssq_agg.specs.Groups.{Held, touched}
use Rattle.ssq_agg.specs.Shown.{Pair, row_if, fault_if, shown_of, shown_rows, least_fault}
use Rattle.ssq_agg.specs.Steps.{after_if, keys_of_groups, is_among, or_kept, IsShownOf, AreDue}
use Rattle.ssq_agg.proofs.Dueing.{keys_of_pairs}

-- ---- what members say

has_members : (key : Values) (rows : List FedRow) (first : List Value) (rest : List (List Value)) → members rows key ≡ first ∷ rest → has_key rows key ≡ true
has_members key [] first rest is = absurd cc
has_members key (row ∷ rows) first rest is = by (is_same key row.key) refl (has_members key rows first rest)
  where
    by : (b : Bool) → is_same key row.key ≡ b → (members rows key ≡ first ∷ rest → has_key rows key ≡ true) → (b || has_key rows key) ≡ true
    by true same other = refl
    by false same other = other (ap (λ b. map (λ (row : FedRow). row.values) (if b then row ∷ filter (λ row. is_same key row.key) rows else filter (λ row. is_same key row.key) rows)) (sym same) ∙ is)

lacks_members : (key : Values) (rows : List FedRow) → members rows key ≡ [] → has_key rows key ≡ false
lacks_members key [] is = refl
lacks_members key (row ∷ rows) is = by (is_same key row.key) refl (lacks_members key rows)
  where
    by : (b : Bool) → is_same key row.key ≡ b → (members rows key ≡ [] → has_key rows key ≡ false) → (b || has_key rows key) ≡ false
    by true same other = let no : row.values ∷ members rows key ≡ [] = ap (λ b. map (λ (row : FedRow). row.values) (if b then row ∷ filter (λ row. is_same key row.key) rows else filter (λ row. is_same key row.key) rows)) (sym same) ∙ is in absurd cc
    by false same other = other (ap (λ b. map (λ (row : FedRow). row.values) (if b then row ∷ filter (λ row. is_same key row.key) rows else filter (λ row. is_same key row.key) rows)) (sym same) ∙ is)

pub held_is : (b : Bool) (totals own : List Total) → held_if b totals ≡ Some own → totals ≡ own
held_is true totals own is = cc
held_is false totals own is = absurd cc

-- ---- the least of those that overflow

module _ (query : Bound) (grouping : Grouping) where
  onto : List Values → List Pair → List Values
  onto keys [] = keys
  onto keys (pair ∷ pairs) = onto (if is_err (shown_of query grouping pair) then pair.0 ∷ keys else keys) pairs

  fault_is : (keys : List Values) (pairs : List Pair) → least_fault query grouping (least_key keys) pairs ≡ least_key (onto keys pairs)
  unfolding onto
  fault_is keys [] = refl
  fault_is keys (pair ∷ pairs) = by (is_err (shown_of query grouping pair)) (λ keys. fault_is keys pairs)
    where
      by : (b : Bool) → ((keys : List Values) → least_fault query grouping (least_key keys) pairs ≡ least_key (onto keys pairs))
          → least_fault query grouping (fault_if b pair.0 (least_key keys)) pairs ≡ least_key (onto (if b then pair.0 ∷ keys else keys) pairs)
      by true rest = rest (pair.0 ∷ keys)
      by false rest = rest keys

module _ (query : Bound) (grouping : Grouping) (old new : List FedRow) (before now : Option ℤ) (found : Held)
    (found_is : (key : Values) → found key ≡ touched grouping.aggregates (held query grouping old before key) (members new key))
    (whole : (key : Values) → held query grouping (old ++ new) now key ≡ next_held grouping.aggregates (is_closed query grouping now key) (held query grouping old before key) (members new key))
    (ended : (key : Values) → is_closed query grouping now key ≡ true → members new key ≡ []) where
  next_is : (key : Values) → held query grouping (old ++ new) now key ≡ next_held grouping.aggregates (is_closed query grouping now key) (held query grouping old before key) (members new key)
  next_is key = whole key

  -- ---- the state

  flag : Bool → Option (List Total) → Bool
  flag b None = false
  flag b (Some totals) = b

  flag_is : (t : Option ℤ) (o : Option (List Total)) → is_ended now t o ≡ flag (is_past now t) o
  unfolding flag
  flag_is t None = refl
  flag_is t (Some totals) = refl

  state_by : (o : Option (List Total)) (rows : List (List Value)) (b : Bool) → (b ≡ true → rows ≡ []) → after_if (touched grouping.aggregates o rows) (flag b o) o ≡ next_held grouping.aggregates b o rows
  unfolding flag
  state_by None [] true none = refl
  state_by None [] false none = refl
  state_by (Some totals) [] true none = refl
  state_by (Some totals) [] false none = refl
  state_by o (row ∷ rows) true none = absurd (let no : row ∷ rows ≡ [] = none refl in cc)
  state_by None (row ∷ rows) false none = refl
  state_by (Some totals) (row ∷ rows) false none = refl

  pub state_is : (closed : List Group) → AreClosed (held query grouping old before) (closing_time query grouping) now closed → (key : Values) → after_if (found key) (is_among closed key) (held query grouping old before key) ≡ held query grouping (old ++ new) now key
  state_is closed are key =
      let among : is_among closed key ≡ flag (is_closed query grouping now key) (held query grouping old before key) =
      any_by key (keys_of_groups closed) (is_ended now (closing_time query grouping key) (held query grouping old before key)) (are.once key)
      ∙ flag_is (closing_time query grouping key) (held query grouping old before key) in
      (λ i. after_if (found_is key i) (among i) (held query grouping old before key))
      ∙ state_by (held query grouping old before key) (members new key) (is_closed query grouping now key) (ended key)
      ∙ sym (next_is key)

  -- ---- what is new of a key

  has_new : (key : Values) → has_key new key ≡ is_some (found key)
  has_new key = by (members new key) refl ∙ ap is_some (sym (found_is key))
    where
      by : (rows : List (List Value)) → members new key ≡ rows → has_key new key ≡ is_some (touched grouping.aggregates (held query grouping old before key) rows)
      by [] is = lacks_members key new is
      by (row ∷ rows) is = has_members key new row rows is

  module _ (totals : (key : Values) → totals_in grouping (old ++ new) key ≡ fold with_row (totals_in grouping old key) (members new key)) where
    old_is : (key : Values) (t : List Total) → held query grouping old before key ≡ Some t → members new key ≡ [] → totals_in grouping (old ++ new) key ≡ t
    old_is key t is none =
        totals key ∙ ap (λ rows. fold with_row (totals_in grouping old key) rows) none
        ∙ held_is (has_key old key && not (is_closed query grouping before key)) (totals_in grouping old key) t is

    none_new : (key : Values) (rows : List (List Value)) → touched grouping.aggregates (held query grouping old before key) rows ≡ None → rows ≡ []
    none_new key [] is = refl
    none_new key (row ∷ rows) is = absurd cc

    touched_next : (o : Option (List Total)) (row : List Value) (rows : List (List Value)) → next_held grouping.aggregates false o (row ∷ rows) ≡ touched grouping.aggregates o (row ∷ rows)
    touched_next None row rows = refl
    touched_next (Some totals) row rows = refl

    new_is : (key : Values) (t : List Total) → found key ≡ Some t → totals_in grouping (old ++ new) key ≡ t
    new_is key t is = by (members new key) refl (is_closed query grouping now key) refl (sym (found_is key) ∙ is)
      where
        by : (rows : List (List Value)) → members new key ≡ rows → (b : Bool) → is_closed query grouping now key ≡ b → touched grouping.aggregates (held query grouping old before key) (members new key) ≡ Some t → totals_in grouping (old ++ new) key ≡ t
        by [] none b closed there = absurd (let no : None ≡ Some t = ap (touched grouping.aggregates (held query grouping old before key)) (sym none) ∙ there in cc)
        by (row ∷ rows) some true closed there = absurd (let no : row ∷ rows ≡ [] = sym some ∙ ended key closed in cc)
        by (row ∷ rows) some false closed there =
            held_is (has_key (old ++ new) key && not (is_closed query grouping now key)) (totals_in grouping (old ++ new) key) t
            (next_is key
            ∙ (λ i. next_held grouping.aggregates (closed i) (held query grouping old before key) (some i))
            ∙ touched_next (held query grouping old before key) row rows ∙ ap (touched grouping.aggregates (held query grouping old before key)) (sym some) ∙ there)

    shown_is : (m : Mode) (key : Values) (t : List Total) → IsShownOf m (is_past now (closing_time query grouping key)) (found key) (held query grouping old before key) t → totals_in grouping (old ++ new) key ≡ t
    shown_is mode.Append key t is = old_is key t is.0 (ended key is.1)
    shown_is mode.Update key t is = new_is key t is
    shown_is mode.Complete key t is = by (found key) refl is
      where
        by : (o : Option (List Total)) → found key ≡ o → or_kept o (held query grouping old before key) ≡ Some t → totals_in grouping (old ++ new) key ≡ t
        by None none kept = old_is key t kept (none_new key (members new key) (sym (found_is key) ∙ none))
        by (Some u) there same = new_is key t (there ∙ same)

    module _ (pairs : List Pair) (are : AreDue (held query grouping old before) (closing_time query grouping) now found query.mode pairs)
        (due : (key : Values) → times_due query grouping old new before now key ≡ (if is_due_now query.mode (is_some (held query grouping old before key)) (is_closed query grouping now key) (has_key new key) then 1 else 0)) where
      same_times : (key : Values) → times key (keys_of_pairs pairs) ≡ times key (due_keys query grouping old new before now)
      same_times key =
          are.due key
          ∙ (λ i. if is_due_now query.mode (is_some (held query grouping old before key)) (is_closed query grouping now key) (sym (has_new key) i) then 1 else 0)
          ∙ sym (due key)

      cons_row : (r : Result (Option Values) Overflow) (rows : List Values) → row_if r ++ rows ≡ cons_option (option_and_then (λ row. row) (result_ok r)) rows
      cons_row (Ok None) rows = refl
      cons_row (Ok (Some row)) rows = refl
      cons_row (Err e) rows = refl

      rows_of : (some : List Pair) → AllByRecursion (λ (pair : Pair). IsShownOf query.mode (is_past now (closing_time query grouping pair.0)) (found pair.0) (held query grouping old before pair.0) pair.1) some
          → shown_rows query grouping some ≡ filter_map (row_of_key query grouping (old ++ new)) (keys_of_pairs some)
      rows_of [] all = refl
      rows_of (pair ∷ some) all =
          let same = shown_is query.mode pair.0 pair.1 all.0 in
          (λ i. row_if (group_row query grouping pair.0 (sym same i)) ++ rows_of some all.1 i)
          ∙ cons_row (group_row query grouping pair.0 (totals_in grouping (old ++ new) pair.0)) (filter_map (row_of_key query grouping (old ++ new)) (keys_of_pairs some))

      pub rows_are : ((show : Values → Option Values) (one other : List Values) → ((key : Values) → times key one ≡ times key other) → IsPermutation (filter_map show one) (filter_map show other))
          → IsPermutation (shown_rows query grouping pairs) ((group query grouping).added old new before now)
      rows_are any_order =
          subst (λ l. IsPermutation l ((group query grouping).added old new before now)) (sym (rows_of pairs are.each))
          (any_order (row_of_key query grouping (old ++ new)) (keys_of_pairs pairs) (due_keys query grouping old new before now) same_times)

      overflows : Values → Bool
      overflows = key_overflows query grouping (old ++ new)

      onto_times : (key : Values) (keys : List Values) (some : List Pair) → AllByRecursion (λ (pair : Pair). IsShownOf query.mode (is_past now (closing_time query grouping pair.0)) (found pair.0) (held query grouping old before pair.0) pair.1) some
          → times key (onto query grouping keys some) ≡ times key keys + times key (filter overflows (keys_of_pairs some))
      unfolding onto overflows
      onto_times key keys [] all = omega arith
      onto_times key keys (pair ∷ some) all =
          let same = shown_is query.mode pair.0 pair.1 all.0 in
          ap (λ t. times key (onto query grouping (if is_err (group_row query grouping pair.0 t) then pair.0 ∷ keys else keys) some)) (sym same)
          ∙ by (is_err (group_row query grouping pair.0 (totals_in grouping (old ++ new) pair.0))) (λ keys. onto_times key keys some all.1)
        where
          by : (b : Bool) → ((keys : List Values) → times key (onto query grouping keys some) ≡ times key keys + times key (filter overflows (keys_of_pairs some)))
              → times key (onto query grouping (if b then pair.0 ∷ keys else keys) some) ≡ times key keys + times key (if b then pair.0 ∷ filter overflows (keys_of_pairs some) else filter overflows (keys_of_pairs some))
          by true rest = let all = rest (pair.0 ∷ keys) in
              let left = times-append key (pair.0 ∷ []) keys in
              let right = times-append key (pair.0 ∷ []) (filter overflows (keys_of_pairs some)) in
              omega (arith, all, left, right)
          by false rest = rest keys

      pub fault_are : ((one other : List Values) → ((key : Values) → times key one ≡ times key other) → least_key one ≡ least_key other)
          → least_fault query grouping None pairs ≡ (group query grouping).fault old new before now
      unfolding overflows
      fault_are least =
          fault_is query grouping [] pairs
          ∙ least (onto query grouping [] pairs) (filter overflows (due_keys query grouping old new before now)) (λ key.
          onto_times key [] pairs are.each
          ∙ zero_add (times key (filter overflows (keys_of_pairs pairs)))
          ∙ times_passing key overflows (keys_of_pairs pairs)
          ∙ ap (λ n. if overflows key then n else 0) (same_times key)
          ∙ sym (times_passing key overflows (due_keys query grouping old new before now)))
        where
          zero_add : (n : ℕ) → 0 + n ≡ n
          zero_add n = omega arith
