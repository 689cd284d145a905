-- Groups from epoch to epoch: what is closed stays closed, and gets no more rows.
use Rattle.std.proofs.Common.{◌≡◌, ◌++◌, [], ◌∷◌, ℤ, List, Option, Some, None, Bool, true, false, refl, ap, sym, ◌∙◌, subst, arith, filter, map}
use Rattle.std.specs.Prelude.{◌&&◌, not, filter_map, if◌then◌else◌, option_and_then}
use Rattle.std.proofs.lemmas.Int.{ints}
use Rattle.std.proofs.lemmas.List.{append-nil, map-append}
use Rattle.std.proofs.lemmas.List.Elements.{filter-append, recursion_from_All}
use Rattle.std.specs.List.{AllByRecursion}
use Rattle.std.specs.Result.{result_ok}
use Rattle.std.specs.List.Sorted.{IsPermutation}
use Rattle.ssq_shape.specs.declared.bound.Bound.{Bound}
use Rattle.ssq_shape.specs.declared.bound.Grouping.{Grouping}
use Rattle.ssq_shape.specs.declared.bound.Mode.TheVariants as mode
use Rattle.ssq_meaning.specs.FedRows.{FedRow}
use Rattle.ssq_meaning.specs.Group.{is_same, distinct, keys_in, has_key, members, group_row, row_of_key, is_closed, is_meant, meant, is_due, closing_time}
use Rattle.ssq_meaning.specs.GroupLaws.{Follows}
use Rattle.ssq_meaning.specs.Meaning.{Values}
use Rattle.ssq_meaning.specs.Operator.{group}
use Rattle.ssq_meaning.specs.Times.{AtMost, is_past}
use Rattle.ssq_meaning.specs.Totals.{totals_of}
use Rattle.ssq_meaning.proofs.Keys.{same_is, map_agrees, map_split, more_fail}

-- what is past stays past
pub past_stays : (before now time : Option ℤ) → AtMost before now → is_past before time ≡ true → is_past now time ≡ true
past_stays None now time rises past = absurd cc
past_stays (Some w) None time rises past = absurd rises
past_stays (Some w) (Some v) None rises past = absurd cc
past_stays (Some w) (Some v) (Some t) rises past = grind (arith, ints, rises, past)

-- ---- keys without new rows

no_members : (key : Values) (new : List FedRow) → AllByRecursion (λ row. is_same key row.key ≡ false) new → members new key ≡ []
no_members key [] none = refl
no_members key (row ∷ new) none =
    ap (λ b. map (λ (row : FedRow). row.values) (if b then row ∷ filter (λ row. is_same key row.key) new else filter (λ row. is_same key row.key) new)) none.0
    ∙ no_members key new none.1

pub members-append : (old new : List FedRow) (key : Values) → members (old ++ new) key ≡ members old key ++ members new key
members-append old new key =
    ap (map (λ (row : FedRow). row.values)) (filter-append (λ row. is_same key row.key) old new)
    ∙ map-append (λ (row : FedRow). row.values) (filter (λ row. is_same key row.key) old) (filter (λ row. is_same key row.key) new)

pub keys_of_rows : (P : Values → Type 0) (rows : List FedRow) → AllByRecursion (λ row. P row.key) rows → AllByRecursion P (map (λ row. row.key) rows)
keys_of_rows P [] all = tt
keys_of_rows P (row ∷ rows) all = (all.0, keys_of_rows P rows all.1)

module _ (query : Bound) (grouping : Grouping) where
  -- a closed key is that of no row that is not late
  pub apart : (now : Option ℤ) (key : Values) → is_closed query grouping now key ≡ true → (new : List FedRow)
      → AllByRecursion (λ row. is_closed query grouping now row.key ≡ false) new → AllByRecursion (λ row. is_same key row.key ≡ false) new
  apart now key closed [] timely = tt
  apart now key closed (row ∷ new) timely = (by (is_same key row.key) refl, apart now key closed new timely.1)
    where
      by : (b : Bool) → is_same key row.key ≡ b → is_same key row.key ≡ false
      by false is = is
      by true is =
          let one : key ≡ row.key = same_is key row.key is in
          let no : true ≡ false = sym closed ∙ ap (is_closed query grouping now) one ∙ timely.0 in
          absurd cc

  pub no_more_members : (old new : List FedRow) (now : Option ℤ) (key : Values) → is_closed query grouping now key ≡ true
      → AllByRecursion (λ row. is_closed query grouping now row.key ≡ false) new → members (old ++ new) key ≡ members old key
  no_more_members old new now key closed timely =
      members-append old new key
      ∙ ap (λ more. members old key ++ more) (no_members key new (apart now key closed new timely))
      ∙ append-nil (members old key)

  -- among keys that are closed, those of more rows are those of the rows before
  pub same_keys : (p : Values → Bool) (old new : List FedRow) → AllByRecursion (λ row. p row.key ≡ false) new → filter p (keys_in (old ++ new)) ≡ filter p (keys_in old)
  same_keys p old new none =
      ap (λ keys. filter p (distinct keys)) (map-append (λ (row : FedRow). row.key) old new)
      ∙ more_fail p (map (λ row. row.key) new) (keys_of_rows (λ key. p key ≡ false) new none) (map (λ row. row.key) old)

  -- ---- Append

  module _ (old new : List FedRow) (before now : Option ℤ) (append : query.mode ≡ mode.Append) (follows : Follows query grouping new before now) where
    timely : AllByRecursion (λ row. is_closed query grouping now row.key ≡ false) new
    timely = recursion_from_All _ new follows.timely

    stays : (key : Values) → is_closed query grouping before key ≡ true → is_closed query grouping now key ≡ true
    stays key = past_stays before now (closing_time query grouping key) follows.rises

    closing : Values → Bool
    closing key = is_closed query grouping now key && not (is_closed query grouping before key)

    and_false : (rows : List FedRow) → AllByRecursion (λ row. is_closed query grouping now row.key ≡ false) rows → AllByRecursion (λ row. closing row.key ≡ false) rows
    unfolding closing
    and_false [] none = tt
    and_false (row ∷ rows) none = (ap (λ b. b && not (is_closed query grouping before row.key)) none.0, and_false rows none.1)

    shows : Values → Option Values
    shows = row_of_key query grouping (old ++ new)

    same_row : (key : Values) → is_closed query grouping before key ≡ true → row_of_key query grouping old key ≡ shows key
    unfolding shows
    same_row key closed =
        ap (λ (rows : List Values). option_and_then (λ row. row) (result_ok (group_row query grouping key (totals_of grouping.aggregates rows))))
        (sym (no_more_members old new now key (stays key closed) timely))

    first : meant query grouping old before ≡ filter_map shows (filter (is_closed query grouping before) (keys_in old))
    unfolding shows
    first =
        ap (λ m. filter_map (row_of_key query grouping old) (filter (λ key. is_meant m (is_closed query grouping before key)) (keys_in old))) append
        ∙ map_agrees (is_closed query grouping before) (row_of_key query grouping old) shows same_row (keys_in old)

    second : (group query grouping).added old new before now ≡ filter_map shows (filter closing (keys_in old))
    unfolding shows closing
    second =
        ap (λ m. filter_map shows (filter (λ key. is_due m (is_closed query grouping before key) (is_closed query grouping now key) (has_key new key)) (keys_in (old ++ new)))) append
        ∙ ap (filter_map shows) (same_keys closing old new (and_false new timely))

    both : meant query grouping (old ++ new) now ≡ filter_map shows (filter (is_closed query grouping now) (keys_in old))
    unfolding shows
    both =
        ap (λ m. filter_map shows (filter (λ key. is_meant m (is_closed query grouping now key)) (keys_in (old ++ new)))) append
        ∙ ap (filter_map shows) (same_keys (is_closed query grouping now) old new timely)

    pub appended : IsPermutation (meant query grouping old before ++ (group query grouping).added old new before now) (meant query grouping (old ++ new) now)
    unfolding closing
    appended =
        subst (λ l. IsPermutation (meant query grouping old before ++ (group query grouping).added old new before now) l) (sym both)
        (subst (λ l. IsPermutation l (filter_map shows (filter (is_closed query grouping now) (keys_in old)))) (λ i. sym first i ++ sym second i)
        (map_split shows (is_closed query grouping before) (is_closed query grouping now) stays (keys_in old)))
