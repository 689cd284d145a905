-- What is read from a state, and what comes of it, a state can hold.
use Rattle.std.proofs.Common.{◌≡◌, ℕ, [], ◌∷◌, Some, None, List, Option, Bool, true, false, All, refl, sym, subst, ◌∙◌}
use Rattle.std.specs.Prelude.{if◌then◌else◌, IfSome, option_map, option_to_list}
use Rattle.std.specs.HashMap.{HashMap, get}
use Rattle.std.specs.List.{AllByRecursion}
use Rattle.std.proofs.lemmas.List.Elements.{All-weaker, All-from_recursion, All-append, All-nil, All-cons}
use Rattle.ssq_value.specs.Key.{keys_of}
use Rattle.ssq_version.specs.State.{State, value_at}
use Rattle.ssq_shape.specs.declared.bound.Aggregate.{Aggregate}
use Rattle.ssq_shape.specs.declared.bound.Function.{Function}
use Rattle.ssq_shape.specs.declared.bound.Function.TheVariants as function
use Rattle.ssq_shape.specs.declared.bound.Grouping.{Grouping}
use Rattle.ssq_meaning.specs.declared.total.Total.{Total}
use Rattle.ssq_meaning.specs.declared.total.Total.TheVariants as total
use Rattle.ssq_meaning.specs.Fit.{IsFit}
use Rattle.ssq_meaning.specs.Group.{is_same}
use Rattle.ssq_meaning.specs.Meaning.{Values}
use Rattle.ssq_meaning.specs.Totals.{totals_bytes}
use Rattle.ssq_meaning.proofs.Keys.{same_is}
use Rattle.ssq_agg.specs.declared.kept.Group.{Group}
use Rattle.ssq_agg.specs.Groups.{Held}
use Rattle.ssq_agg.specs.Holding.{Entry, AreRead, Holds, IsGroupOf, IsReadAt}
use Rattle.ssq_agg.specs.Readable.{AreFit, AreFitAt, AreFitGroups, AreTotalsOf, IsFitGroup, IsFitTotal, IsKey, IsReadableGroup, IsTotalOf}

-- ---- what can be read back fits

total_fits : (f : Function) (own : Total) → IsTotalOf f own → IsFitTotal own
total_fits f (total.Count count) is = tt
total_fits f (total.Sum count sum) is = tt
total_fits function.Min (total.Least least) is = is
total_fits function.Max (total.Greatest greatest) is = is
total_fits function.Count (total.Least least) is = absurd is
total_fits function.Sum (total.Least least) is = absurd is
total_fits function.Max (total.Least least) is = absurd is
total_fits function.Count (total.Greatest greatest) is = absurd is
total_fits function.Sum (total.Greatest greatest) is = absurd is
total_fits function.Min (total.Greatest greatest) is = absurd is

each_fits : (aggregates : List Aggregate) (totals : List Total) → AreTotalsOf aggregates totals → AllByRecursion IsFitTotal totals
each_fits [] [] are = tt
each_fits [] (own ∷ totals) are = absurd are
each_fits (aggregate ∷ aggregates) [] are = tt
each_fits (aggregate ∷ aggregates) (own ∷ totals) are = (total_fits aggregate.function own are.0, each_fits aggregates totals are.1)

pub totals_fit : (aggregates : List Aggregate) (totals : List Total) → AreTotalsOf aggregates totals → All IsFitTotal totals
totals_fit aggregates totals are = All-from_recursion IsFitTotal totals (each_fits aggregates totals are)

pub group_fits : (grouping : Grouping) (key : Values) (totals : List Total) → IsReadableGroup grouping key totals → IsFitGroup key totals
group_fits grouping key totals is = record { key_fits = is.key_is.values; totals_fit = totals_fit grouping.aggregates totals is.totals_are }

-- ---- the totals of a key

pub found_fits : (aggregates : List Aggregate) (state : State) (key : List ℕ) (totals : List Total) → IsReadAt aggregates state key (Some totals) → All IsFitTotal totals
found_fits aggregates state key totals is = totals_fit aggregates totals is.some.0

pub found_is : (grouping : Grouping) (state : State) (own : Held) (key : Values) (found : Option (List Total)) → Holds grouping state own → IsKey grouping key
    → IsReadAt grouping.aggregates state (keys_of key) found → found ≡ own key
found_is grouping state own key found holds is_key is = by (own key) refl (holds.found key is_key)
  where
    none : (o : Option (List Total)) → value_at state (keys_of key) ≡ None → IfSome o (λ totals. AreTotalsOf grouping.aggregates totals × (value_at state (keys_of key) ≡ Some (totals_bytes totals))) → o ≡ None
    none None absent some = refl
    none (Some totals) absent some = let no : None ≡ Some (totals_bytes totals) = sym absent ∙ some.1 in absurd cc

    by : (o : Option (List Total)) → own key ≡ o → value_at state (keys_of key) ≡ option_map totals_bytes o → found ≡ o
    by None held there = none found there is.some
    by (Some totals) held there = is.each totals (holds.readable key totals held).totals_are there

-- ---- groups through a change of one

pub fit_after : (before after : Held) (key : Values) (totals : List Total) → ((q : Values) → after q ≡ (if is_same key q then Some totals else before q))
    → All IsFit key → All IsFitTotal totals → AreFitAt before → AreFitAt after
fit_after before after key totals is key_is totals_are was q own there = by (is_same key q) refl (sym (is q) ∙ there)
  where
    by : (b : Bool) → is_same key q ≡ b → (if b then Some totals else before q) ≡ Some own → IsFitGroup q own
    by true same has =
        let one : totals ≡ own = cc in
        record { key_fits = subst (All IsFit) (same_is key q same) key_is; totals_fit = subst (All IsFitTotal) one totals_are }
    by false other has = was q own has

-- ---- groups that were read

pub read_fit : (grouping : Grouping) (entries : List Entry) (groups : List Group) → AreRead grouping entries groups → AreFit groups
read_fit grouping [] groups are = subst AreFit (sym are) (All-nil (λ (group : Group). IsFitGroup group.key group.totals))
read_fit grouping (entry ∷ entries) groups are =
    subst AreFit (sym are.2) (All-append (λ (group : Group). IsFitGroup group.key group.totals) (option_to_list are.0) are.1 (by are.0 are.3.some) (read_fit grouping entries are.1 are.4))
  where
    by : (found : Option Group) → IfSome found (IsGroupOf grouping entry) → AreFit (option_to_list found)
    by None some = All-nil (λ (group : Group). IsFitGroup group.key group.totals)
    by (Some group) some =
        All-cons (λ (group : Group). IsFitGroup group.key group.totals) group [] (group_fits grouping group.key group.totals some.readable) (All-nil (λ (group : Group). IsFitGroup group.key group.totals))

-- ---- the entries of a map of groups

pub entries_fit : {S : Type 0} (groups : HashMap Values (List Total) S) → AreFitGroups groups → All (λ entry. get is_same groups entry.0 ≡ Some entry.1) groups.entries → All (λ entry. IsFitGroup entry.0 entry.1) groups.entries
entries_fit groups fit found = All-weaker (λ (entry : Values × List Total). get is_same groups entry.0 ≡ Some entry.1) (λ entry. IsFitGroup entry.0 entry.1) (λ entry is. fit entry.0 entry.1 is) groups.entries found
