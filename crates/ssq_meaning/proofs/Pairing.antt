-- What an epoch considers adds up to what all rows mean.
use Rattle.std.proofs.Common.{◌≡◌, ◌++◌, ℤ, List, Option, Bool, true, false, refl, ap, sym, ◌∙◌, subst, filter, map}
use Rattle.std.specs.Prelude.{◌&&◌, ◌||◌, not}
use Rattle.std.specs.List.{AllByRecursion}
use Rattle.std.specs.List.Sorted.{IsPermutation}
use Rattle.std.proofs.lemmas.List.{append_assoc, append-nil, map-append}
use Rattle.std.proofs.lemmas.List.Concat.{flat_map-append}
use Rattle.std.proofs.lemmas.List.Elements.{filter-append, filter_map-append, recursion_from_All}
use Rattle.std.proofs.lemmas.List.Folds.{list_any-append}
use Rattle.std.proofs.lemmas.List.Sorted.{IsPermutation-append, IsPermutation-append_left, IsPermutation-map, IsPermutation-trans}
use mathlib.Core.Bool.{or-false}
use Rattle.ssq_shape.specs.declared.bound.Bound.{Bound}
use Rattle.ssq_shape.specs.declared.bound.Joining.{Joining}
use Rattle.ssq_meaning.specs.FedRows.{FedRow}
use Rattle.ssq_meaning.specs.Join.{alone_of, considered, due_rows, has_partner, is_alone, is_candidate, is_due, is_left, is_outer_side, is_over, is_partner, meant, meant_of, pair_of, pairs_of, pairs_with, row_of, rows_alone}
use Rattle.ssq_meaning.specs.JoinLaws.{Follows, IsBounded}
use Rattle.ssq_meaning.specs.Operator.{join}
use Rattle.ssq_meaning.specs.Times.{is_past}
use Rattle.ssq_meaning.proofs.Handing.{weaker}
use Rattle.ssq_meaning.proofs.Keys.{none_pass}
use Rattle.ssq_meaning.proofs.Nearby.{new_open, no_partner, over_stays, was_open}
use Rattle.ssq_meaning.proofs.Shuffled.{filter_same, flat_both, middle, shown_shuffled, split_by}

-- ---- pairs

module _ (query : Bound) (joining : Joining) where
  pub with-append : (left : FedRow) (xs ys : List FedRow) → pairs_with query joining left (xs ++ ys) ≡ pairs_with query joining left xs ++ pairs_with query joining left ys
  with-append left xs ys =
      ap (map (pair_of query joining left)) (filter-append (is_candidate joining left) xs ys)
      ∙ map-append (pair_of query joining left) (filter (is_candidate joining left) xs) (filter (is_candidate joining left) ys)

  pub lefts-append : (xs ys rights : List FedRow) → pairs_of query joining (xs ++ ys) rights ≡ pairs_of query joining xs rights ++ pairs_of query joining ys rights
  lefts-append xs ys rights = flat_map-append (λ left. pairs_with query joining left rights) xs ys

  pub rights-append : (lefts xs ys : List FedRow) → IsPermutation (pairs_of query joining lefts xs ++ pairs_of query joining lefts ys) (pairs_of query joining lefts (xs ++ ys))
  rights-append lefts xs ys =
      flat_both (λ left. pairs_with query joining left xs) (λ left. pairs_with query joining left ys) (λ left. pairs_with query joining left (xs ++ ys)) (λ left. with-append left xs ys) lefts

  -- those of the rows before, and those whose later row is new
  pub pairs_all : (old new : List FedRow)
      → IsPermutation (pairs_of query joining old old ++ (pairs_of query joining old new ++ pairs_of query joining new (old ++ new))) (pairs_of query joining (old ++ new) (old ++ new))
  pairs_all old new =
      subst (λ l. IsPermutation l (pairs_of query joining (old ++ new) (old ++ new))) (append_assoc (pairs_of query joining old old) (pairs_of query joining old new) (pairs_of query joining new (old ++ new)))
      (subst (IsPermutation ((pairs_of query joining old old ++ pairs_of query joining old new) ++ pairs_of query joining new (old ++ new))) (sym (lefts-append old new (old ++ new)))
      (IsPermutation-append_left (pairs_of query joining new (old ++ new)) (pairs_of query joining old old ++ pairs_of query joining old new) (pairs_of query joining old (old ++ new)) (rights-append old old new)))

-- ---- rows alone

module _ (joining : Joining) (old new : List FedRow) (before now : Option ℤ) (follows : Follows new before now) where
  pub timely : AllByRecursion (λ (row : FedRow). is_past now row.time ≡ false) new
  timely = recursion_from_All _ new follows.timely

  -- a row that is over has no new partner
  pub same_partner : (row : FedRow) → is_over joining now row ≡ true → has_partner joining (old ++ new) row ≡ has_partner joining old row
  same_partner row over =
      list_any-append (is_partner joining row) old new
      ∙ ap (λ b. has_partner joining old row || b) (no_partner joining now row over new timely)
      ∙ or-false (has_partner joining old row)

  module _ (bounded : IsBounded joining) where
    pub are_open : AllByRecursion (λ (row : FedRow). is_over joining now row ≡ false) new
    are_open = weaker (λ (row : FedRow). is_past now row.time ≡ false) (λ (row : FedRow). is_over joining now row ≡ false) (λ row. new_open joining before now follows.rises bounded row) new timely

    pub were_open : AllByRecursion (λ (row : FedRow). is_over joining before row ≡ false) new
    were_open = weaker (λ (row : FedRow). is_over joining now row ≡ false) (λ (row : FedRow). is_over joining before row ≡ false) (was_open joining before now follows.rises) new are_open

    abbrev was_alone : FedRow → Bool
    was_alone row = is_over joining before row && is_alone joining (old ++ new) row

    same_alone : (row : FedRow) → was_alone row ≡ (is_over joining before row && is_alone joining old row)
    same_alone row = by (is_over joining before row) refl
      where
        by : (b : Bool) → is_over joining before row ≡ b → (b && is_alone joining (old ++ new) row) ≡ (b && is_alone joining old row)
        by true over = ap (λ b. is_outer_side joining.kind (is_left row.stream) && not b) (same_partner row (over_stays joining before now follows.rises row over))
        by false over = refl

    were_alone : filter was_alone (old ++ new) ≡ rows_alone joining old before
    were_alone =
        filter-append was_alone old new
        ∙ (λ i. filter_same was_alone (λ row. is_over joining before row && is_alone joining old row) same_alone old i
        ++ none_pass was_alone new (weaker (λ (row : FedRow). is_over joining before row ≡ false) (λ row. was_alone row ≡ false) (λ row opens. ap (λ b. b && is_alone joining (old ++ new) row) opens) new were_open) i)
        ∙ append-nil (rows_alone joining old before)

    either_way : (row : FedRow) → (is_over joining now row && is_alone joining (old ++ new) row) ≡ (was_alone row || (is_due joining before now row && is_alone joining (old ++ new) row))
    either_way row = by (is_over joining before row) (is_over joining now row) (is_alone joining (old ++ new) row) (over_stays joining before now follows.rises row)
      where
        by : (b n a : Bool) → (b ≡ true → n ≡ true) → (n && a) ≡ ((b && a) || ((n && not b) && a))
        by true true true stays = refl
        by true true false stays = refl
        by true false a stays = let no : false ≡ true = stays refl in absurd cc
        by false true a stays = refl
        by false false a stays = refl

    never_both : (row : FedRow) → (was_alone row && (is_due joining before now row && is_alone joining (old ++ new) row)) ≡ false
    never_both row = by (is_over joining before row) (is_over joining now row) (is_alone joining (old ++ new) row)
      where
        by : (b n a : Bool) → ((b && a) && ((n && not b) && a)) ≡ false
        by true true true = refl
        by true true false = refl
        by true false true = refl
        by true false false = refl
        by false n a = refl

    -- those that were alone before, and those that an epoch considers, are those that are alone now
    pub alone_all : IsPermutation (rows_alone joining old before ++ due_rows joining (old ++ new) before now) (rows_alone joining (old ++ new) now)
    alone_all =
        subst (λ l. IsPermutation (l ++ due_rows joining (old ++ new) before now) (rows_alone joining (old ++ new) now)) were_alone
        (split_by was_alone (λ row. is_due joining before now row && is_alone joining (old ++ new) row) (λ row. is_over joining now row && is_alone joining (old ++ new) row) either_way never_both (old ++ new))

    -- what the rows before meant, and what an epoch considers, is what all rows mean
    pub considered_all : (query : Bound) → IsPermutation (meant_of query joining old before ++ considered query joining old new before now) (meant_of query joining (old ++ new) now)
    considered_all query =
        let pairs = pairs_of query joining old old in
        let more = pairs_of query joining old new ++ pairs_of query joining new (old ++ new) in
        let alone = map (alone_of query) (rows_alone joining old before) in
        let due = map (alone_of query) (due_rows joining (old ++ new) before now) in
        let all = map (alone_of query) (rows_alone joining (old ++ new) now) in
        let rows : IsPermutation (alone ++ due) all =
        subst (λ l. IsPermutation l all) (map-append (alone_of query) (rows_alone joining old before) (due_rows joining (old ++ new) before now))
        (IsPermutation-map (alone_of query) (rows_alone joining old before ++ due_rows joining (old ++ new) before now) (rows_alone joining (old ++ new) now) alone_all) in
        let joined : IsPermutation ((pairs ++ more) ++ (alone ++ due)) (meant_of query joining (old ++ new) now) =
        IsPermutation-append (pairs ++ more) (pairs_of query joining (old ++ new) (old ++ new)) (alone ++ due) all (pairs_all query joining old new) rows in
        IsPermutation-trans _ _ _ (middle pairs alone more due) joined

    pub shown_all : (query : Bound) → IsPermutation (meant query joining old before ++ (join query joining).added old new before now) (meant query joining (old ++ new) now)
    shown_all query =
        subst (λ l. IsPermutation l (meant query joining (old ++ new) now)) (filter_map-append row_of (meant_of query joining old before) (considered query joining old new before now))
        (shown_shuffled row_of (meant_of query joining old before ++ considered query joining old new before now) (meant_of query joining (old ++ new) now) (considered_all query))
