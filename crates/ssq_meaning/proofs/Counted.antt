-- Each closed key is considered once, and what is kept of the others is whole.
use Rattle.std.proofs.Common.{◌≡◌, ◌+◌, ◌++◌, [], ◌∷◌, ℤ, List, Option, Some, None, Bool, true, false, refl, ap, sym, ◌∙◌, filter, map}
use Rattle.std.specs.Prelude.{◌&&◌, ◌||◌, not, if◌then◌else◌, fold}
use Rattle.std.proofs.lemmas.List.Elements.{recursion_from_All}
use Rattle.std.proofs.lemmas.List.Folds.{list_any-append}
use Rattle.std.specs.List.{AllByRecursion, list_any}
use Rattle.ssq_shape.specs.declared.bound.Bound.{Bound}
use Rattle.ssq_shape.specs.declared.bound.Grouping.{Grouping}
use Rattle.ssq_shape.specs.declared.bound.Mode.TheVariants as mode
use Rattle.ssq_meaning.specs.FedRows.{FedRow}
use Rattle.ssq_meaning.specs.Group.{is_same, keys_in, has_key, members, totals_in, is_closed, is_due, closing_time}
use Rattle.ssq_meaning.specs.GroupLaws.{Follows, times, times_due, times_closed, held_if, held, next_held}
use Rattle.ssq_meaning.specs.Meaning.{Values}
use Rattle.ssq_meaning.specs.Totals.{totals_of, with_row}
use Rattle.ssq_meaning.proofs.Adds.{rows_more}
use Rattle.ssq_meaning.proofs.Grouped.{past_stays, apart, members-append}
use Rattle.ssq_meaning.proofs.Keys.{times_passing, times_distinct}

list_any-keys : (key : Values) (rows : List FedRow) → list_any (is_same key) (map (λ row. row.key) rows) ≡ has_key rows key
list_any-keys key [] = refl
list_any-keys key (row ∷ rows) = ap (λ b. is_same key row.key || b) (list_any-keys key rows)

-- the keys of some rows are each there once
pub times_in : (key : Values) (rows : List FedRow) → times key (keys_in rows) ≡ (if has_key rows key then 1 else 0)
times_in key rows = times_distinct key (map (λ row. row.key) rows) ∙ ap (λ b. if b then 1 else 0) (list_any-keys key rows)

pub has_key-append : (old new : List FedRow) (key : Values) → has_key (old ++ new) key ≡ (has_key old key || has_key new key)
has_key-append old new key = list_any-append (λ row. is_same key row.key) old new

-- a key that is in no row
lacks : (key : Values) (rows : List FedRow) → AllByRecursion (λ row. is_same key row.key ≡ false) rows → has_key rows key ≡ false
lacks key [] none = refl
lacks key (row ∷ rows) none = ap (λ b. b || has_key rows key) none.0 ∙ lacks key rows none.1

-- what a key that is in no row has
pub no_rows : (key : Values) (rows : List FedRow) → has_key rows key ≡ false → members rows key ≡ []
no_rows key [] none = refl
no_rows key (row ∷ rows) none = by (no_rows key rows) (is_same key row.key) refl
  where
    by : (has_key rows key ≡ false → members rows key ≡ []) → (b : Bool) → is_same key row.key ≡ b
        → map (λ (row : FedRow). row.values) (if b then row ∷ filter (λ row. is_same key row.key) rows else filter (λ row. is_same key row.key) rows) ≡ []
    by rest true is = let no : true ≡ false = ap (λ b. b || has_key rows key) (sym is) ∙ none in absurd cc
    by rest false is = rest (ap (λ b. b || has_key rows key) (sym is) ∙ none)

-- and one that is in some row
some_rows : (key : Values) (rows : List FedRow) → has_key rows key ≡ true → (first : Values) × (rest : List Values) × (members rows key ≡ first ∷ rest)
some_rows key [] there = absurd cc
some_rows key (row ∷ rows) there = by (some_rows key rows) (is_same key row.key) refl
  where
    by : (has_key rows key ≡ true → (first : Values) × (rest : List Values) × (members rows key ≡ first ∷ rest)) → (b : Bool) → is_same key row.key ≡ b
        → (first : Values) × (rest : List Values) × (map (λ (row : FedRow). row.values) (if b then row ∷ filter (λ row. is_same key row.key) rows else filter (λ row. is_same key row.key) rows) ≡ first ∷ rest)
    by rest true is = (row.values, members rows key, refl)
    by rest false is = rest (ap (λ b. b || has_key rows key) (sym is) ∙ there)

module _ (query : Bound) (grouping : Grouping) (old new : List FedRow) (before now : Option ℤ) (follows : Follows query grouping new before now) (key : Values) where
  pub stays : is_closed query grouping before key ≡ true → is_closed query grouping now key ≡ true
  stays closed = past_stays before now (closing_time query grouping key) follows.rises closed

  pub ended : is_closed query grouping now key ≡ true → has_key new key ≡ false
  ended closed = lacks key new (apart query grouping now key closed new (recursion_from_All _ new follows.timely))

  -- ---- Append

  by_flags : (a b h m : Bool) → (a ≡ true → b ≡ true) → (b ≡ true → m ≡ false)
      → (if (h && a) then 1 else 0) + (if (b && not a) then (if (h || m) then 1 else 0) else 0) ≡ (if ((h || m) && b) then 1 else 0)
  by_flags true true true m stays ends = refl
  by_flags true true false true stays ends = let no : true ≡ false = ends refl in absurd cc
  by_flags true true false false stays ends = refl
  by_flags true false h m stays ends = let no : false ≡ true = stays refl in absurd cc
  by_flags false true true m stays ends = refl
  by_flags false true false true stays ends = refl
  by_flags false true false false stays ends = refl
  by_flags false false true m stays ends = refl
  by_flags false false false true stays ends = refl
  by_flags false false false false stays ends = refl

  pub considered : query.mode ≡ mode.Append
      → times_closed query grouping old before key + times_due query grouping old new before now key ≡ times_closed query grouping (old ++ new) now key
  considered append =
      let a = is_closed query grouping before key in
      let b = is_closed query grouping now key in
      let due : times_due query grouping old new before now key ≡ (if (b && not a) then (if (has_key old key || has_key new key) then 1 else 0) else 0) =
      ap (λ m. times key (filter (λ key. is_due m (is_closed query grouping before key) (is_closed query grouping now key) (has_key new key)) (keys_in (old ++ new)))) append
      ∙ times_passing key (λ key. is_closed query grouping now key && not (is_closed query grouping before key)) (keys_in (old ++ new))
      ∙ ap (λ n. if (b && not a) then n else 0) (times_in key (old ++ new))
      ∙ ap (λ h. if (b && not a) then (if h then 1 else 0) else 0) (has_key-append old new key)
      in
      ap (λ n. times_closed query grouping old before key + n) due
      ∙ by_flags a b (has_key old key) (has_key new key) stays ended
      ∙ ap (λ h. if (h && b) then 1 else 0) (sym (has_key-append old new key))

  -- ---- what is kept

  pub totals_more : totals_in grouping (old ++ new) key ≡ fold with_row (totals_in grouping old key) (members new key)
  totals_more = ap (totals_of grouping.aggregates) (members-append old new key) ∙ rows_more grouping.aggregates (members old key) (members new key)

  more_held : (h m : Bool) → has_key old key ≡ h → has_key new key ≡ m
      → held_if (h || m) (fold with_row (totals_in grouping old key) (members new key)) ≡ next_held grouping.aggregates false (held_if h (totals_in grouping old key)) (members new key)
  more_held true m is more = refl
  more_held false true is more =
      let some = some_rows key new more in
      let old_none = ap (totals_of grouping.aggregates) (no_rows key old is) in
      (λ i. Some (fold with_row (old_none i) (some.2 i)))
      ∙ ap (next_held grouping.aggregates false None) (sym some.2)
  more_held false false is more = ap (next_held grouping.aggregates false None) (sym (no_rows key new more))

  by_closed : (a b : Bool) → is_closed query grouping before key ≡ a → is_closed query grouping now key ≡ b
      → held_if (has_key (old ++ new) key && not b) (totals_in grouping (old ++ new) key) ≡ next_held grouping.aggregates b (held_if (has_key old key && not a) (totals_in grouping old key)) (members new key)
  by_closed a true was is = by (has_key (old ++ new) key)
    where
      by : (h : Bool) → held_if (h && false) (totals_in grouping (old ++ new) key) ≡ None
      by true = refl
      by false = refl
  by_closed true false was is = let no : false ≡ true = sym is ∙ stays was in absurd cc
  by_closed false false was is =
      (λ i. held_if (has_key-append old new key i && true) (totals_more i))
      ∙ ap (λ b. held_if b (fold with_row (totals_in grouping old key) (members new key))) (with_true (has_key old key || has_key new key))
      ∙ more_held (has_key old key) (has_key new key) refl refl
      ∙ ap (λ b. next_held grouping.aggregates false (held_if b (totals_in grouping old key)) (members new key)) (sym (with_true (has_key old key)))
    where
      with_true : (b : Bool) → (b && true) ≡ b
      with_true true = refl
      with_true false = refl

  pub kept_whole : held query grouping (old ++ new) now key ≡ next_held grouping.aggregates (is_closed query grouping now key) (held query grouping old before key) (members new key)
  kept_whole = by_closed (is_closed query grouping before key) (is_closed query grouping now key) refl refl
