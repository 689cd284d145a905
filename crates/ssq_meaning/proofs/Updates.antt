-- The table of groups in Update.
use Rattle.std.proofs.Common.{◌≡◌, ◌<◌, ◌+◌, ◌++◌, [], ◌∷◌, ℕ, zero, suc, ℤ, List, Option, Some, None, Result, Ok, Err, Bool, true, false, refl, ap, sym, ◌∙◌, subst, arith, filter, map, length}
use Rattle.std.specs.Prelude.{◌||◌, not, if◌then◌else◌, filter_map, is_err, option_and_then}
use Rattle.std.specs.List.{AllByRecursion, list_any, cons_option}
use Rattle.std.specs.List.Sorted.{IsPermutation}
use Rattle.std.specs.Result.{result_ok}
use Rattle.std.proofs.lemmas.List.Elements.{filter_map-append}
use Rattle.ssq_shape.specs.declared.bound.Bound.{Bound}
use Rattle.ssq_shape.specs.declared.bound.Grouping.{Grouping}
use Rattle.ssq_shape.specs.declared.bound.Mode.TheVariants as mode
use Rattle.ssq_shape.specs.declared.bound.Shape.TheVariants.{Group}
use Rattle.ssq_shape.specs.Evaluation.{Overflow, and_then}
use Rattle.ssq_meaning.specs.FedRows.{FedRow}
use Rattle.ssq_meaning.specs.Cut.{Cuts}
use Rattle.ssq_meaning.specs.Epochs.{accepted, on_time, watermark, watermark_before, out, key_fault}
use Rattle.ssq_meaning.specs.Group.{is_same, distinct, keys_in, has_key, members, totals_in, group_items, passes_having, group_row, row_of_key, key_overflows, is_closed, is_meant, is_due, due_keys, least_key}
use Rattle.ssq_meaning.specs.GroupLaws.{times, meaning_at}
use Rattle.ssq_meaning.specs.Meaning.{Values}
use Rattle.ssq_meaning.specs.Operator.{group}
use Rattle.ssq_meaning.specs.Parts.{Part}
use Rattle.ssq_meaning.specs.Table.{key_cells, is_same_group, replaced, next_table, table, ShowsKeys}
use Rattle.ssq_meaning.specs.Totals.{totals_of, values_of_totals}
use Rattle.ssq_meaning.proofs.Bags.{same_bag, times-append}
use Rattle.ssq_meaning.proofs.Cells.{one_key, cells_same}
use Rattle.ssq_meaning.proofs.Counted.{times_in, has_key-append, no_rows}
use Rattle.ssq_meaning.proofs.FedTimes.{IsKeyOf, on_time_keyed}
use Rattle.ssq_meaning.proofs.Handing.{all_append, weaker}
use Rattle.ssq_meaning.proofs.GroupEpochs.{group_is, out_is}
use Rattle.ssq_meaning.proofs.Grouped.{members-append, keys_of_rows}
use Rattle.ssq_meaning.proofs.Keys.{same_is, same_itself, All-by, All-distinct, times_passing}
use Rattle.std.proofs.lemmas.List.{append-nil}

-- ---- tests of lists

filter_all : (keys : List Values) → filter (λ key. true) keys ≡ keys
filter_all [] = refl
filter_all (key ∷ keys) = ap (λ l. key ∷ l) (filter_all keys)

none_least : (keys : List Values) → least_key keys ≡ None → keys ≡ []
none_least [] is = refl
none_least (key ∷ keys) is = absurd cc

-- what holds of a key that passes a test holds of each that is left
all_passing : (P Q : Values → Type 0) (p : Values → Bool) → ((key : Values) → P key → p key ≡ true → Q key) → (keys : List Values) → AllByRecursion P keys → AllByRecursion Q (filter p keys)
all_passing P Q p give [] all = tt
all_passing P Q p give (key ∷ keys) all = by (all_passing P Q p give keys all.1) (p key) refl
  where
    by : AllByRecursion Q (filter p keys) → (b : Bool) → p key ≡ b → AllByRecursion Q (if b then key ∷ filter p keys else filter p keys)
    by rest true is = (give key all.0 is, rest)
    by rest false is = rest

module _ (f : Values → Option Values) (p : Values → Bool) where
  -- a key whose row passes is in the list
  any_there : (key : Values) (row : Values) → f key ≡ Some row → p row ≡ true → (keys : List Values) (n : ℕ) → times key keys ≡ suc n → list_any p (filter_map f keys) ≡ true
  any_there key row is passes [] n there = absurd (omega (arith, there))
  any_there key row is passes (other ∷ keys) n there = by (any_there key row is passes keys n) (is_same key other) refl
    where
      later : (shown : Option Values) → list_any p (filter_map f keys) ≡ true → list_any p (cons_option shown (filter_map f keys)) ≡ true
      later None some = some
      later (Some y) some = ap (λ b. p y || b) some ∙ or_true (p y)
        where
          or_true : (b : Bool) → (b || true) ≡ true
          or_true true = refl
          or_true false = refl

      by : (times key keys ≡ suc n → list_any p (filter_map f keys) ≡ true) → (b : Bool) → is_same key other ≡ b → list_any p (cons_option (f other) (filter_map f keys)) ≡ true
      by rest true same =
          let shown : f other ≡ Some row = ap f (sym (same_is key other same)) ∙ is in
          ap (λ o. list_any p (cons_option o (filter_map f keys))) shown ∙ ap (λ b. b || list_any p (filter_map f keys)) passes
      by rest false same =
          later (f other) (rest (ap (λ b. length (if b then other ∷ filter (is_same key) keys else filter (is_same key) keys)) (sym same) ∙ there))

  -- no row passes
  none_there : (Q : Values → Type 0) → ((key row : Values) → Q key → f key ≡ Some row → p row ≡ false) → (keys : List Values) → AllByRecursion Q keys → list_any p (filter_map f keys) ≡ false
  none_there Q fails [] all = refl
  none_there Q fails (key ∷ keys) all = by (none_there Q fails keys all.1) (f key) refl
    where
      by : list_any p (filter_map f keys) ≡ false → (shown : Option Values) → f key ≡ shown → list_any p (cons_option shown (filter_map f keys)) ≡ false
      by rest None is = rest
      by rest (Some row) is = ap (λ b. b || list_any p (filter_map f keys)) (fails key row all.0 is) ∙ rest

-- ---- the row of a key

module _ (query : Bound) (grouping : Grouping) (shows : ShowsKeys query grouping) where
  items_in : List FedRow → Values → Result Values Overflow
  items_in rows key = group_items query.outputs key (values_of_totals (totals_in grouping rows key))

  always : {R : Type 0} (view : Result (Option Values) Overflow → R) (rows : List FedRow) (key : Values)
      → view (group_row query grouping key (totals_in grouping rows key)) ≡ view (and_then (items_in rows key) (λ values. Ok (Some values)))
  unfolding group_row items_in
  always view rows key =
      ap (λ having. view (and_then (passes_having having key (values_of_totals (totals_in grouping rows key))) (λ passing.
      if passing then and_then (group_items query.outputs key (values_of_totals (totals_in grouping rows key))) (λ values. Ok (Some values)) else Ok None))) shows.all

  fine_row : (rows : List FedRow) (key : Values) → key_overflows query grouping rows key ≡ false → (row : Values) × (items_in rows key ≡ Ok row)
  fine_row rows key fine = by (items_in rows key) (sym (always is_err rows key) ∙ fine)
    where
      by : (r : Result Values Overflow) → is_err (and_then r (λ (values : Values). Ok (Some values))) ≡ false → (row : Values) × (r ≡ Ok row)
      by (Ok row) is = (row, refl)
      by (Err e) is = absurd cc

  row_is : (rows : List FedRow) (key row : Values) → items_in rows key ≡ Ok row → row_of_key query grouping rows key ≡ Some row
  row_is rows key row is =
      always (λ r. option_and_then (λ row. row) (result_ok r)) rows key
      ∙ ap (λ r. option_and_then (λ row. row) (result_ok (and_then r (λ values. Ok (Some values))))) is

  is_row : (rows : List FedRow) (key row : Values) → row_of_key query grouping rows key ≡ Some row → items_in rows key ≡ Ok row
  is_row rows key row is = by (items_in rows key) (sym (always (λ r. option_and_then (λ row. row) (result_ok r)) rows key) ∙ is)
    where
      by : (r : Result Values Overflow) → option_and_then (λ row. row) (result_ok (and_then r (λ (values : Values). Ok (Some values)))) ≡ Some row → r ≡ Ok row
      by (Ok other) is = let one : other ≡ row = cc in ap (λ row. Ok row) one
      by (Err e) is = absurd cc

  -- ---- one epoch

  -- the rows are those of these keys, each key of the accepted rows once, and none of them overflows
  record IsTable (rows : List Values) (all : List FedRow) : Type 0 where
    keys : List Values
    is : rows ≡ filter_map (row_of_key query grouping all) keys
    each : (key : Values) → times key keys ≡ times key (keys_in all)
    are_keys : AllByRecursion (IsKeyOf grouping.keys) keys
    keyed : AllByRecursion (λ row. IsKeyOf grouping.keys row.key) all
    there : AllByRecursion (λ key. has_key all key ≡ true) keys
    fine : (key : Values) → has_key all key ≡ true → key_overflows query grouping all key ≡ false

  module _ (old new : List FedRow) (before now : Option ℤ) (rows : List Values) (table : IsTable rows old) (update : query.mode ≡ mode.Update)
      (keyed : AllByRecursion (λ row. IsKeyOf grouping.keys row.key) new) (faultless : (group query grouping).fault old new before now ≡ None) where
    abbrev all : List FedRow
    all = old ++ new

    abbrev newer : List Values
    newer = filter (has_key new) (keys_in all)

    abbrev shown : Values → Option Values
    shown = row_of_key query grouping all

    same_members : (key : Values) → has_key new key ≡ false → members all key ≡ members old key
    same_members key untouched = members-append old new key ∙ ap (λ more. members old key ++ more) (no_rows key new untouched) ∙ append-nil (members old key)

    same_shown : (key : Values) → has_key new key ≡ false → shown key ≡ row_of_key query grouping old key
    same_shown key untouched =
        ap (λ (rows : List Values). option_and_then (λ row. row) (result_ok (group_row query grouping key (totals_of grouping.aggregates rows)))) (same_members key untouched)

    same_fine : (key : Values) → has_key new key ≡ false → key_overflows query grouping all key ≡ key_overflows query grouping old key
    same_fine key untouched =
        ap (λ (rows : List Values). is_err (group_row query grouping key (totals_of grouping.aggregates rows))) (same_members key untouched)

    or_true : (b : Bool) → (b || true) ≡ true
    or_true true = refl
    or_true false = refl

    or_false : (b : Bool) → (b || false) ≡ b
    or_false true = refl
    or_false false = refl

    has_newer : (key : Values) → has_key new key ≡ true → has_key all key ≡ true
    has_newer key there = has_key-append old new key ∙ ap (λ b. has_key old key || b) there ∙ or_true (has_key old key)

    has_older : (key : Values) → has_key old key ≡ true → has_key all key ≡ true
    has_older key there = has_key-append old new key ∙ ap (λ b. b || has_key new key) there

    has_only_older : (key : Values) → has_key new key ≡ false → has_key all key ≡ has_key old key
    has_only_older key untouched = has_key-append old new key ∙ ap (λ b. has_key old key || b) untouched ∙ or_false (has_key old key)

    once_newer : (key : Values) → has_key new key ≡ true → times key newer ≡ 1
    once_newer key touched =
        times_passing key (has_key new) (keys_in all)
        ∙ ap (λ b. if b then times key (keys_in all) else 0) touched
        ∙ times_in key all ∙ ap (λ b. if b then 1 else 0) (has_newer key touched)

    due_is : due_keys query grouping old new before now ≡ newer
    due_is = ap (λ m. filter (λ key. is_due m (is_closed query grouping before key) (is_closed query grouping now key) (has_key new key)) (keys_in all)) update

    due_fine : (key : Values) → has_key new key ≡ true → key_overflows query grouping all key ≡ false
    due_fine key touched = by (key_overflows query grouping all key) refl
      where
        none : filter (key_overflows query grouping all) newer ≡ []
        none = ap (filter (key_overflows query grouping all)) (sym due_is) ∙ none_least (filter (key_overflows query grouping all) (due_keys query grouping old new before now)) faultless

        by : (b : Bool) → key_overflows query grouping all key ≡ b → key_overflows query grouping all key ≡ false
        by true is =
            let one : times key (filter (key_overflows query grouping all) newer) ≡ 1 =
            times_passing key (key_overflows query grouping all) newer ∙ ap (λ b. if b then times key newer else 0) is ∙ once_newer key touched in
            let no : 0 ≡ 1 = ap (times key) (sym none) ∙ one in
            absurd (omega (arith, no))
        by false is = is

    keyed_all : AllByRecursion (λ row. IsKeyOf grouping.keys row.key) all
    keyed_all = all_append (λ row. IsKeyOf grouping.keys row.key) old new table.keyed keyed

    newer_are : AllByRecursion (λ key. IsKeyOf grouping.keys key × (has_key new key ≡ true)) newer
    newer_are = all_passing (IsKeyOf grouping.keys) (λ key. IsKeyOf grouping.keys key × (has_key new key ≡ true)) (has_key new) (λ key is touched. (is, touched)) (keys_in all)
        (All-distinct (IsKeyOf grouping.keys) (map (λ (row : FedRow). row.key) all) (keys_of_rows (IsKeyOf grouping.keys) all keyed_all))

    -- a row of the table has a newer row of its key exactly where the key has a new row
    any_is : (key row : Values) → IsKeyOf grouping.keys key → items_in old key ≡ Ok row → (b : Bool) → has_key new key ≡ b
        → list_any (is_same_group query.outputs row) (filter_map shown newer) ≡ b
    unfolding items_in
    any_is key row is_key is true touched =
        let own = fine_row all key (due_fine key touched) in
        let same : key_cells query.outputs row ≡ key_cells query.outputs own.0 =
        cells_same grouping.keys key (values_of_totals (totals_in grouping old key)) (values_of_totals (totals_in grouping all key)) query.outputs row own.0 shows.alone is own.1 in
        any_there shown (is_same_group query.outputs row) key own.0 (row_is all key own.0 own.1)
        (subst (λ cells. is_same (key_cells query.outputs row) cells ≡ true) same (same_itself (key_cells query.outputs row))) newer 0 (once_newer key touched)
    any_is key row is_key is false untouched =
        none_there shown (is_same_group query.outputs row) (λ key. IsKeyOf grouping.keys key × (has_key new key ≡ true)) fails newer newer_are
      where
        fails : (other own : Values) → IsKeyOf grouping.keys other × (has_key new other ≡ true) → shown other ≡ Some own → is_same_group query.outputs row own ≡ false
        fails other own are there = by (is_same_group query.outputs row own) refl
          where
            by : (b : Bool) → is_same_group query.outputs row own ≡ b → is_same_group query.outputs row own ≡ false
            by true same =
                let one : key ≡ other = one_key grouping.keys query.outputs shows.alone shows.each key other (values_of_totals (totals_in grouping old key)) (values_of_totals (totals_in grouping all other))
                row own is_key are.0 is (is_row all other own there) (same_is (key_cells query.outputs row) (key_cells query.outputs own) same) in
                let no : false ≡ true = sym untouched ∙ ap (has_key new) one ∙ are.1 in
                absurd cc
            by false same = same

    untouched_rows : (keys : List Values) → AllByRecursion (IsKeyOf grouping.keys) keys → AllByRecursion (λ key. has_key old key ≡ true) keys
        → filter (λ row. not (list_any (is_same_group query.outputs row) (filter_map shown newer))) (filter_map (row_of_key query grouping old) keys)
        ≡ filter_map shown (filter (λ key. not (has_key new key)) keys)
    untouched_rows [] are there = refl
    untouched_rows (key ∷ keys) are there =
        ap (λ o. filter stays (cons_option o (filter_map (row_of_key query grouping old) keys))) row_shown
        ∙ by (untouched_rows keys are.1 there.1) (has_key new key) refl
      where
        stays : Values → Bool
        stays row = not (list_any (is_same_group query.outputs row) (filter_map shown newer))

        own : (row : Values) × (items_in old key ≡ Ok row)
        own = fine_row old key (table.fine key there.0)

        row_shown : row_of_key query grouping old key ≡ Some own.0
        row_shown = row_is old key own.0 own.1

        by : filter stays (filter_map (row_of_key query grouping old) keys) ≡ filter_map shown (filter (λ key. not (has_key new key)) keys) → (b : Bool) → has_key new key ≡ b
            → (if stays own.0 then own.0 ∷ filter stays (filter_map (row_of_key query grouping old) keys) else filter stays (filter_map (row_of_key query grouping old) keys))
            ≡ filter_map shown (if not b then key ∷ filter (λ key. not (has_key new key)) keys else filter (λ key. not (has_key new key)) keys)
        by rest true is =
            ap (λ b. if not b then own.0 ∷ filter stays (filter_map (row_of_key query grouping old) keys) else filter stays (filter_map (row_of_key query grouping old) keys)) (any_is key own.0 are.0 own.1 true is)
            ∙ rest
        by rest false is =
            ap (λ b. if not b then own.0 ∷ filter stays (filter_map (row_of_key query grouping old) keys) else filter stays (filter_map (row_of_key query grouping old) keys)) (any_is key own.0 are.0 own.1 false is)
            ∙ (λ i. cons_option (sym (same_shown key is ∙ row_shown) i) (rest i))

    each_once : (key : Values) → times key (filter (λ key. not (has_key new key)) table.keys ++ newer) ≡ times key (keys_in all)
    each_once key =
        times-append key (filter (λ key. not (has_key new key)) table.keys) newer
        ∙ (λ i. times_passing key (λ key. not (has_key new key)) table.keys i + times_passing key (has_key new) (keys_in all) i)
        ∙ by (has_key new key) refl
      where
        by : (b : Bool) → has_key new key ≡ b → (if not b then times key table.keys else 0) + (if b then times key (keys_in all) else 0) ≡ times key (keys_in all)
        by true is = omega arith
        by false is =
            let same : times key table.keys ≡ times key (keys_in all) =
            table.each key ∙ times_in key old ∙ ap (λ b. if b then 1 else 0) (sym (has_only_older key is)) ∙ sym (times_in key all) in
            omega (arith, same)

    next_fine : (key : Values) → has_key all key ≡ true → key_overflows query grouping all key ≡ false
    next_fine key there = by (has_key new key) refl
      where
        by : (b : Bool) → has_key new key ≡ b → key_overflows query grouping all key ≡ false
        by true is = due_fine key is
        by false is = same_fine key is ∙ table.fine key (sym (has_only_older key is) ∙ there)

    next_is : replaced query.outputs rows (filter_map shown (due_keys query grouping old new before now)) ≡ filter_map shown (filter (λ key. not (has_key new key)) table.keys ++ newer)
    next_is =
        ap (λ keys. replaced query.outputs rows (filter_map shown keys)) due_is
        ∙ ap (λ rows. replaced query.outputs rows (filter_map shown newer)) table.is
        ∙ ap (λ rest. rest ++ filter_map shown newer) (untouched_rows table.keys table.are_keys table.there)
        ∙ sym (filter_map-append shown (filter (λ key. not (has_key new key)) table.keys) newer)

    next_epoch : IsTable (replaced query.outputs rows ((group query grouping).added old new before now)) all
    next_epoch = record {
      keys = filter (λ key. not (has_key new key)) table.keys ++ newer;
      is = next_is;
      each = each_once;
      are_keys = all_append (IsKeyOf grouping.keys) (filter (λ key. not (has_key new key)) table.keys) newer
          (All-by (IsKeyOf grouping.keys) (λ key. not (has_key new key)) table.keys table.are_keys)
          (weaker (λ key. IsKeyOf grouping.keys key × (has_key new key ≡ true)) (IsKeyOf grouping.keys) (λ key own. own.0) newer newer_are);
      keyed = keyed_all;
      there = all_append (λ key. has_key all key ≡ true) (filter (λ key. not (has_key new key)) table.keys) newer
          (All-by (λ key. has_key all key ≡ true) (λ key. not (has_key new key)) table.keys (weaker (λ key. has_key old key ≡ true) (λ key. has_key all key ≡ true) has_older table.keys table.there))
          (weaker (λ key. IsKeyOf grouping.keys key × (has_key new key ≡ true)) (λ key. has_key all key ≡ true) (λ key own. has_newer key own.1) newer newer_are);
      fine = next_fine;
    }

  -- ---- all epochs

  module _ (is : query.shape ≡ Group grouping) (parts : List Part) (cuts : Cuts) (update : query.mode ≡ mode.Update) where
    table_at : (n : ℕ) → ((e : ℕ) → e < n → key_fault query parts cuts e ≡ None) → IsTable (table query parts cuts n) (accepted query parts cuts n)
    unfolding table accepted distinct
    table_at zero faultless = record {
      keys = [];
      is = refl;
      each = λ key. refl;
      are_keys = tt;
      keyed = tt;
      there = tt;
      fine = λ key there. absurd cc;
    }
    table_at (suc n) faultless =
        let old = accepted query parts cuts n in
        let new = on_time query parts cuts n in
        let before = watermark_before query parts cuts n in
        let now = watermark query parts cuts n in
        let rows = table query parts cuts n in
        let own : (group query grouping).fault old new before now ≡ None = ap (λ operator. operator.fault old new before now) (sym (group_is query grouping is parts cuts)) ∙ faultless n (omega arith) in
        let next = next_epoch old new before now rows (table_at n (λ e less. faultless e (omega (arith, less)))) update (on_time_keyed query grouping is parts cuts n) own in
        let same : next_table query.shape query.mode query.outputs rows (out query parts cuts n) ≡ replaced query.outputs rows ((group query grouping).added old new before now) =
        λ i. next_table (is i) (update i) query.outputs rows (out_is query grouping is parts cuts n i) in
        subst (λ rows. IsTable rows (old ++ new)) (sym same) next

    pub epochs_update : (n : ℕ) → ((e : ℕ) → e < n → key_fault query parts cuts e ≡ None) → IsPermutation (table query parts cuts n) (meaning_at query grouping parts cuts n)
    epochs_update n faultless =
        let all = accepted query parts cuts n in
        let now = watermark_before query parts cuts n in
        let own = table_at n faultless in
        let meant_is : meaning_at query grouping parts cuts n ≡ filter_map (row_of_key query grouping all) (keys_in all) =
        ap (λ m. filter_map (row_of_key query grouping all) (filter (λ key. is_meant m (is_closed query grouping now key)) (keys_in all))) update
        ∙ ap (filter_map (row_of_key query grouping all)) (filter_all (keys_in all)) in
        subst (λ l. IsPermutation l (meaning_at query grouping parts cuts n)) (sym own.is)
        (subst (IsPermutation (filter_map (row_of_key query grouping all) own.keys)) (sym meant_is) (same_bag (row_of_key query grouping all) own.keys (keys_in all) own.each))

pub tables_update : (query : Bound) (grouping : Grouping) → query.shape ≡ Group grouping → (parts : List Part) (cuts : Cuts) → query.mode ≡ mode.Update → ShowsKeys query grouping
    → (n : ℕ) → ((e : ℕ) → e < n → key_fault query parts cuts e ≡ None) → IsPermutation (table query parts cuts n) (meaning_at query grouping parts cuts n)
tables_update query grouping is parts cuts update shows n faultless = epochs_update query grouping shows is parts cuts update n faultless
