-- The groups that are shown are those that are due.
use Rattle.std.proofs.Common.{◌≡◌, ◌+◌, ◌++◌, ℕ, ℤ, [], ◌∷◌, Some, None, List, Option, Bool, true, false, refl, ap, sym, ◌∙◌, subst, arith, map, filter, length}
use Rattle.std.specs.Prelude.{◌&&◌, ◌||◌, not, All, if◌then◌else◌, is_some, is_err}
use Rattle.std.specs.List.{AllByRecursion, IsDistinct}
use Rattle.std.specs.Map.{lookup}
use Rattle.std.proofs.lemmas.List.{append_assoc, map-append}
use Rattle.std.proofs.lemmas.List.Elements.{recursion_from_All}
use Rattle.std.proofs.lemmas.List.Sums.{fold-append}
use Rattle.ssq_shape.specs.declared.bound.Bound.{Bound}
use Rattle.ssq_shape.specs.declared.bound.Grouping.{Grouping}
use Rattle.ssq_shape.specs.declared.bound.Mode.{Mode}
use Rattle.ssq_shape.specs.declared.bound.Mode.TheVariants as mode
use Rattle.ssq_meaning.specs.declared.total.Total.{Total}
use Rattle.ssq_meaning.specs.Group.{is_same}
use Rattle.ssq_meaning.specs.GroupLaws.{times}
use Rattle.ssq_meaning.specs.Meaning.{Values}
use Rattle.ssq_meaning.specs.Times.{is_past}
use Rattle.ssq_meaning.proofs.Bags.{times-append}
use Rattle.ssq_meaning.proofs.Handing.{all_append}
use Rattle.ssq_meaning.proofs.Keys.{same_is, times_passing}
use Rattle.ssq_agg.specs.declared.kept.Group.{Group}
use Rattle.ssq_step.specs.declared.shown.Shown.{Shown}
use Rattle.ssq_agg.specs.Closed.{is_ended, AreClosed, AreAll}
use Rattle.ssq_agg.specs.Groups.{Held}
use Rattle.ssq_agg.specs.Shown.{Pair, Shows, shown_rows, least_fault, row_if, shown_of, fault_if, pairs_of, others_of}
use Rattle.ssq_agg.specs.Steps.{AreDue, ShowsDue, keys_of_groups, or_kept}

abbrev pub keys_of_pairs : List Pair → List Values
keys_of_pairs pairs = map (λ (pair : Pair). pair.0) pairs

pairs_keys : (groups : List Group) → keys_of_pairs (pairs_of groups) ≡ keys_of_groups groups
pairs_keys [] = refl
pairs_keys (group ∷ groups) = ap (λ l. group.key ∷ l) (pairs_keys groups)

-- ---- the entries of a map

apart : (key : Values) (keys : List Values) → AllByRecursion (λ y. is_same key y ≡ false) keys → times key keys ≡ 0
apart key [] all = refl
apart key (y ∷ keys) all = ap (λ b. length (if b then y ∷ filter (is_same key) keys else filter (is_same key) keys)) all.0 ∙ apart key keys all.1

-- each key of a map is there once
entries_once : (key : Values) (entries : List Pair) → IsDistinct is_same (keys_of_pairs entries)
    → times key (keys_of_pairs entries) ≡ (if is_some (lookup (is_same key) entries) then 1 else 0)
unfolding IsDistinct
entries_once key [] distinct = refl
entries_once key (entry ∷ entries) distinct = by (is_same key entry.0) refl (entries_once key entries distinct.1)
  where
    by : (b : Bool) → is_same key entry.0 ≡ b → times key (keys_of_pairs entries) ≡ (if is_some (lookup (is_same key) entries) then 1 else 0)
        → length (if b then entry.0 ∷ filter (is_same key) (keys_of_pairs entries) else filter (is_same key) (keys_of_pairs entries))
        ≡ (if is_some (if b then Some entry.1 else lookup (is_same key) entries) then 1 else 0)
    by true same rest =
        let none : times key (keys_of_pairs entries) ≡ 0 = ap (λ k. times k (keys_of_pairs entries)) (same_is key entry.0 same) ∙ apart entry.0 (keys_of_pairs entries) distinct.0 in
        omega (arith, none)
    by false other rest = rest

-- ---- those that were not touched

others_keys : (found : Held) (groups : List Group) → keys_of_groups (others_of found groups) ≡ filter (λ key. not (is_some (found key))) (keys_of_groups groups)
others_keys found [] = refl
others_keys found (group ∷ groups) = by (not (is_some (found group.key))) (others_keys found groups)
  where
    by : (b : Bool) → keys_of_groups (others_of found groups) ≡ filter (λ key. not (is_some (found key))) (keys_of_groups groups)
        → keys_of_groups (if b then group ∷ others_of found groups else others_of found groups)
        ≡ (if b then group.key ∷ filter (λ key. not (is_some (found key))) (keys_of_groups groups) else filter (λ key. not (is_some (found key))) (keys_of_groups groups))
    by true rest = ap (λ l. group.key ∷ l) rest
    by false rest = rest

module _ (query : Bound) (grouping : Grouping) (own : Held) (time : Values → Option ℤ) (now : Option ℤ) (found : Held) where
  made : (m : Mode) → query.mode ≡ m → (pairs : List Pair) → AreDue own time now found m pairs → (nothing shown : Shown) → nothing.rows.items ≡ [] → nothing.fault ≡ None
      → Shows query grouping pairs nothing shown → ShowsDue query grouping own time now found shown
  made m is pairs are nothing shown no_rows no_fault shows = record {
    pairs = pairs;
    are = subst (λ m. AreDue own time now found m pairs) (sym is) are;
    rows = shows.rows ∙ ap (λ l. l ++ shown_rows query grouping pairs) no_rows;
    fault = shows.fault ∙ ap (λ own. least_fault query grouping own pairs) no_fault;
  }

  -- ---- Append

  pub ended_is : (time : Option ℤ) (own : Option (List Total)) → is_ended now time own ≡ (is_some own && is_past now time)
  ended_is time None = refl
  ended_is time (Some totals) = refl

  groups_each : (P : Values → List Total → Type 0) (groups : List Group) → AllByRecursion (λ (group : Group). P group.key group.totals) groups → AllByRecursion (λ (pair : Pair). P pair.0 pair.1) (pairs_of groups)
  groups_each P [] all = tt
  groups_each P (group ∷ groups) all = (all.0, groups_each P groups all.1)

  past_of : (time : Option ℤ) (was : Option (List Total)) → is_ended now time was ≡ true → is_past now time ≡ true
  past_of time None is = absurd cc
  past_of time (Some totals) is = is

  closed_each : (groups : List Group) → AllByRecursion (λ (group : Group). (own group.key ≡ Some group.totals) × (is_ended now (time group.key) (own group.key) ≡ true)) groups
      → AllByRecursion (λ (group : Group). (own group.key ≡ Some group.totals) × (is_past now (time group.key) ≡ true)) groups
  closed_each [] all = tt
  closed_each (group ∷ groups) all = ((all.0.0, past_of (time group.key) (own group.key) all.0.1), closed_each groups all.1)

  pub append_due : query.mode ≡ mode.Append → (closed : List Group) → AreClosed own time now closed → (nothing shown : Shown) → nothing.rows.items ≡ [] → nothing.fault ≡ None
      → Shows query grouping (pairs_of closed) nothing shown → ShowsDue query grouping own time now found shown
  append_due is closed are nothing shown no_rows no_fault shows =
      made mode.Append is (pairs_of closed) (record {
        due = λ key. ap (times key) (pairs_keys closed) ∙ are.once key ∙ ap (λ b. if b then 1 else 0) (ended_is (time key) (own key));
        each = groups_each (λ key totals. (own key ≡ Some totals) × (is_past now (time key) ≡ true)) closed (closed_each closed are.each);
      }) nothing shown no_rows no_fault shows

  -- ---- Update

  pub update_due : query.mode ≡ mode.Update → (entries : List Pair) → IsDistinct is_same (keys_of_pairs entries) → ((key : Values) → found key ≡ lookup (is_same key) entries)
      → All (λ (pair : Pair). found pair.0 ≡ Some pair.1) entries → (nothing shown : Shown) → nothing.rows.items ≡ [] → nothing.fault ≡ None
      → Shows query grouping entries nothing shown → ShowsDue query grouping own time now found shown
  update_due is entries distinct finds all nothing shown no_rows no_fault shows =
      made mode.Update is entries (record {
        due = λ key. entries_once key entries distinct ∙ ap (λ o. if is_some o then 1 else 0) (sym (finds key));
        each = recursion_from_All (λ (pair : Pair). found pair.0 ≡ Some pair.1) entries all;
      }) nothing shown no_rows no_fault shows

  -- ---- Complete

  either_once : (was is : Option (List Total)) → ◌≡◌ {A = ℕ} ((if is_some is then 1 else 0) + (if not (is_some is) then (if is_some was then 1 else 0) else 0)) (if (is_some was || is_some is) then 1 else 0)
  either_once None None = refl
  either_once None (Some t) = refl
  either_once (Some t) None = refl
  either_once (Some t) (Some u) = refl

  or_found : (totals : List Total) (is was : Option (List Total)) → is ≡ Some totals → or_kept is was ≡ Some totals
  or_found totals is was there = ap (λ o. or_kept o was) there

  or_was : (totals : List Total) (is was : Option (List Total)) → not (is_some is) ≡ true → was ≡ Some totals → or_kept is was ≡ Some totals
  or_was totals None was none there = there
  or_was totals (Some other) was none there = absurd cc

  entries_each : (entries : List Pair) → AllByRecursion (λ (pair : Pair). found pair.0 ≡ Some pair.1) entries → AllByRecursion (λ (pair : Pair). or_kept (found pair.0) (own pair.0) ≡ Some pair.1) entries
  entries_each [] all = tt
  entries_each (pair ∷ entries) all = (or_found pair.1 (found pair.0) (own pair.0) all.0, entries_each entries all.1)

  others_each : (groups : List Group) → AllByRecursion (λ (group : Group). (own group.key ≡ Some group.totals) × (is_some (own group.key) ≡ true)) groups
      → AllByRecursion (λ (pair : Pair). or_kept (found pair.0) (own pair.0) ≡ Some pair.1) (pairs_of (others_of found groups))
  others_each [] all = tt
  others_each (group ∷ groups) all = by (not (is_some (found group.key))) refl (others_each groups all.1)
    where
      by : (b : Bool) → not (is_some (found group.key)) ≡ b → AllByRecursion (λ (pair : Pair). or_kept (found pair.0) (own pair.0) ≡ Some pair.1) (pairs_of (others_of found groups))
          → AllByRecursion (λ (pair : Pair). or_kept (found pair.0) (own pair.0) ≡ Some pair.1) (pairs_of (if b then group ∷ others_of found groups else others_of found groups))
      by true none rest = (or_was group.totals (found group.key) (own group.key) none all.0.0, rest)
      by false there rest = rest

  flat_append : (one other : List Pair) → shown_rows query grouping (one ++ other) ≡ shown_rows query grouping one ++ shown_rows query grouping other
  flat_append [] other = refl
  flat_append (pair ∷ one) other = ap (λ l. row_if (shown_of query grouping pair) ++ l) (flat_append one other) ∙ sym (append_assoc (row_if (shown_of query grouping pair)) (shown_rows query grouping one) (shown_rows query grouping other))

  both_shown : (one other : List Pair) (before between after : Shown) → Shows query grouping one before between → Shows query grouping other between after → Shows query grouping (one ++ other) before after
  both_shown one other before between after first second = record {
    rows =
        second.rows ∙ ap (λ l. l ++ shown_rows query grouping other) first.rows
        ∙ append_assoc before.rows.items (shown_rows query grouping one) (shown_rows query grouping other)
        ∙ ap (λ l. before.rows.items ++ l) (sym (flat_append one other));
    fault =
        second.fault ∙ ap (λ own. least_fault query grouping own other) first.fault
        ∙ sym (fold-append (λ own pair. fault_if (is_err (shown_of query grouping pair)) pair.0 own) before.fault one other);
  }

  pub complete_due : query.mode ≡ mode.Complete → (entries : List Pair) → IsDistinct is_same (keys_of_pairs entries) → ((key : Values) → found key ≡ lookup (is_same key) entries)
      → All (λ (pair : Pair). found pair.0 ≡ Some pair.1) entries → (all others : List Group) → AreAll own all → others ≡ others_of found all
      → (nothing between shown : Shown) → nothing.rows.items ≡ [] → nothing.fault ≡ None
      → Shows query grouping entries nothing between → Shows query grouping (pairs_of others) between shown → ShowsDue query grouping own time now found shown
  complete_due is entries distinct finds each all others are left nothing between shown no_rows no_fault first second =
      made mode.Complete is (entries ++ pairs_of (others_of found all)) (record {
        due = λ key.
            ap (times key) (map-append (λ (pair : Pair). pair.0) entries (pairs_of (others_of found all)))
            ∙ times-append key (keys_of_pairs entries) (keys_of_pairs (pairs_of (others_of found all)))
            ∙ (λ i. (entries_once key entries distinct ∙ ap (λ o. if is_some o then 1 else 0) (sym (finds key))) i
            + (ap (times key) (pairs_keys (others_of found all) ∙ others_keys found all) ∙ times_passing key (λ key. not (is_some (found key))) (keys_of_groups all)
            ∙ ap (λ n. if not (is_some (found key)) then n else 0) (are.once key)) i)
            ∙ either_once (own key) (found key);
        each = all_append (λ (pair : Pair). or_kept (found pair.0) (own pair.0) ≡ Some pair.1) entries (pairs_of (others_of found all))
            (entries_each entries (recursion_from_All (λ (pair : Pair). found pair.0 ≡ Some pair.1) entries each)) (others_each all are.each);
      }) nothing shown no_rows no_fault
      (both_shown entries (pairs_of (others_of found all)) nothing between shown first (subst (λ l. Shows query grouping (pairs_of l) between shown) left second))
