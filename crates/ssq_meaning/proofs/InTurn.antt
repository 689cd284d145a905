-- What an epoch considers, by what is kept: its rows in turn, each with the rows before it, and the rows that are over.
use Rattle.std.proofs.Common.{◌≡◌, ◌++◌, [], ◌∷◌, ℤ, List, Option, Bool, true, false, refl, ap, sym, ◌∙◌, subst, filter, map}
use Rattle.std.specs.Prelude.{◌&&◌, ◌||◌, All, not, if◌then◌else◌}
use Rattle.std.specs.List.{AllByRecursion}
use Rattle.std.specs.List.Sorted.{IsPermutation}
use Rattle.std.proofs.lemmas.List.{append_assoc, append-nil}
use Rattle.std.proofs.lemmas.List.Elements.{All-from_recursion, filter-append}
use Rattle.std.proofs.lemmas.List.Folds.{list_any-append}
use Rattle.std.proofs.lemmas.List.Sorted.{IsPermutation-append, IsPermutation-append_left, IsPermutation-append_right, IsPermutation-map, IsPermutation-refl, IsPermutation-sym, IsPermutation-trans}
use mathlib.Core.Bool.{or-false}
use Rattle.ssq_shape.specs.declared.bound.Bound.{Bound}
use Rattle.ssq_shape.specs.declared.bound.Joining.{Joining}
use Rattle.ssq_meaning.specs.FedRows.{FedRow}
use Rattle.ssq_meaning.specs.Group.{least_key}
use Rattle.ssq_meaning.specs.Join.{alone_of, considered, due_rows, faulty_among, faulty_key, has_partner, have_equal_keys, is_alone, is_candidate, is_due, is_left, is_near, is_on, is_outer_side, is_over, is_partner, open_rows, pair_of, pairs_of, pairs_with, row_of, shown_among}
use Rattle.ssq_meaning.specs.JoinLaws.{Follows, IsBounded, IsReordered, are_candidates, considered_by, pair_by, pairs_by, pairs_in_turn}
use Rattle.ssq_meaning.specs.Meaning.{is_true_answer}
use Rattle.ssq_meaning.specs.Operator.{join}
use Rattle.ssq_meaning.specs.Times.{is_past}
use Rattle.ssq_meaning.proofs.Handing.{weaker}
use Rattle.ssq_meaning.proofs.JoinEpochs.{all_found, candidate_opens, found_within}
use Rattle.ssq_meaning.proofs.Keys.{none_pass}
use Rattle.ssq_meaning.proofs.Nearby.{was_open}
use Rattle.ssq_meaning.proofs.Pairing.{are_open, lefts-append, rights-append, same_partner, timely, with-append}
use Rattle.ssq_meaning.proofs.PairsParted.{any_there}
use Rattle.ssq_meaning.proofs.Reordered.{permutes, reordered_append, reordered_filter}
use Rattle.ssq_meaning.proofs.Shuffled.{filter_same, least_shuffled, middle, shown_shuffled}
use Rattle.ssq_meaning.proofs.Together.{filter_both}

-- ---- one row and those before it

module _ (query : Bound) (joining : Joining) (row : FedRow) where
  -- no row is right of a right one, and none left of a left one
  none_of_right : is_left row.stream ≡ false → (other : FedRow) → is_candidate joining row other ≡ false
  none_of_right right other = ap (λ side. (side && not (is_left other.stream)) && (have_equal_keys row other && is_near joining.bound row.time other.time)) right

  none_of_left : is_left row.stream ≡ true → (other : FedRow) → is_candidate joining other row ≡ false
  none_of_left left other =
      ap (λ side. (is_left other.stream && not side) && (have_equal_keys other row && is_near joining.bound other.time row.time)) left
      ∙ by (is_left other.stream)
    where
      by : (b : Bool) → ((b && false) && (have_equal_keys other row && is_near joining.bound other.time row.time)) ≡ false
      by true = refl
      by false = refl

  none_with_itself : is_candidate joining row row ≡ false
  none_with_itself = by (is_left row.stream)
    where
      by : (b : Bool) → ((b && not b) && (have_equal_keys row row && is_near joining.bound row.time row.time)) ≡ false
      by true = refl
      by false = refl

  all_apart : (others : List FedRow) → (p : FedRow → Bool) → ((other : FedRow) → p other ≡ false) → filter p others ≡ []
  all_apart [] p apart = refl
  all_apart (other ∷ others) p apart = ap (λ b. if b then other ∷ filter p others else filter p others) (apart other) ∙ all_apart others p apart

  -- a left row is the left one of each of its candidates
  no_lefts : ((other : FedRow) → is_candidate joining other row ≡ false) → (others : List FedRow) → pairs_of query joining others (row ∷ []) ≡ []
  no_lefts apart [] = refl
  no_lefts apart (other ∷ others) =
      ap (λ b. map (pair_of query joining other) (if b then row ∷ [] else []) ++ pairs_of query joining others (row ∷ [])) (apart other) ∙ no_lefts apart others

  -- a right row is the right one
  as_right : (others : List FedRow) → map (pair_by query joining false row) (filter (λ other. is_candidate joining other row) others) ≡ pairs_of query joining others (row ∷ [])
  as_right [] = refl
  as_right (other ∷ others) = by (is_candidate joining other row) (as_right others)
    where
      by : (b : Bool) → map (pair_by query joining false row) (filter (λ other. is_candidate joining other row) others) ≡ pairs_of query joining others (row ∷ [])
          → map (pair_by query joining false row) (if b then other ∷ filter (λ other. is_candidate joining other row) others else filter (λ other. is_candidate joining other row) others)
          ≡ map (pair_of query joining other) (if b then row ∷ [] else []) ++ pairs_of query joining others (row ∷ [])
      by true rest = ap (λ l. pair_of query joining other row ∷ l) rest
      by false rest = rest

  pairs_either : (others : List FedRow) → pairs_by query joining row others ≡ pairs_of query joining others (row ∷ []) ++ pairs_with query joining row others
  pairs_either others = by (is_left row.stream) refl
    where
      by : (b : Bool) → is_left row.stream ≡ b
          → map (pair_by query joining b row) (filter (are_candidates joining row) others) ≡ pairs_of query joining others (row ∷ []) ++ pairs_with query joining row others
      by true left =
          ap (map (pair_of query joining row))
          (filter_same (are_candidates joining row) (is_candidate joining row) (λ other. ap (λ b. is_candidate joining row other || b) (none_of_left left other) ∙ or-false (is_candidate joining row other)) others)
          ∙ ap (λ l. l ++ pairs_with query joining row others) (sym (no_lefts (none_of_left left) others))
      by false right =
          ap (map (pair_by query joining false row))
          (filter_same (are_candidates joining row) (λ other. is_candidate joining other row) (λ other. ap (λ b. b || is_candidate joining other row) (none_of_right right other)) others)
          ∙ as_right others
          ∙ sym (append-nil (pairs_of query joining others (row ∷ [])))
          ∙ ap (λ l. pairs_of query joining others (row ∷ []) ++ map (pair_of query joining row) l) (sym (all_apart others (is_candidate joining row) (none_of_right right)))

-- ---- all rows in turn

regroup : {X : Type 0} (a w b c d : List X) → IsPermutation ((a ++ w) ++ ((b ++ c) ++ d)) ((a ++ b) ++ ((w ++ c) ++ d))
regroup a w b c d =
    subst (λ l. IsPermutation l ((a ++ b) ++ ((w ++ c) ++ d))) (append_assoc (a ++ w) (b ++ c) d)
    (subst (IsPermutation (((a ++ w) ++ (b ++ c)) ++ d)) (append_assoc (a ++ b) (w ++ c) d)
    (IsPermutation-append_left d ((a ++ w) ++ (b ++ c)) ((a ++ b) ++ (w ++ c)) (middle a w b c)))

module _ (query : Bound) (joining : Joining) where
  no_rights : (lefts : List FedRow) → pairs_of query joining lefts [] ≡ []
  no_rights [] = refl
  no_rights (left ∷ lefts) = no_rights lefts

  -- in turn these are the candidates whose later row is one of them
  turn_is : (old new : List FedRow) → IsPermutation (pairs_in_turn query joining old new) (pairs_of query joining old new ++ pairs_of query joining new (old ++ new))
  unfolding pairs_in_turn
  turn_is old [] = subst (λ l. IsPermutation [] (l ++ [])) (sym (no_rights old)) (IsPermutation-refl [])
  turn_is old (row ∷ rows) =
      let a = pairs_of query joining old (row ∷ []) in
      let w = pairs_with query joining row old in
      let b = pairs_of query joining old rows in
      let c = pairs_with query joining row rows in
      let d = pairs_of query joining rows (old ++ row ∷ rows) in
      let longer : (old ++ row ∷ []) ++ rows ≡ old ++ row ∷ rows = append_assoc old (row ∷ []) rows in
      let first : pairs_of query joining (old ++ row ∷ []) rows ≡ b ++ c = lefts-append query joining old (row ∷ []) rows ∙ ap (λ l. b ++ l) (append-nil c) in
      let rest : IsPermutation (pairs_in_turn query joining (old ++ row ∷ []) rows) ((b ++ c) ++ d) =
      subst (IsPermutation (pairs_in_turn query joining (old ++ row ∷ []) rows)) (λ i. first i ++ pairs_of query joining rows (longer i)) (turn_is (old ++ row ∷ []) rows) in
      let mine : pairs_with query joining row (old ++ row ∷ rows) ≡ w ++ c =
      with-append query joining row old (row ∷ rows)
      ∙ ap (λ b. w ++ map (pair_of query joining row) (if b then row ∷ filter (is_candidate joining row) rows else filter (is_candidate joining row) rows)) (none_with_itself query joining row) in
      let right : IsPermutation ((a ++ b) ++ ((w ++ c) ++ d)) (pairs_of query joining old (row ∷ rows) ++ (pairs_with query joining row (old ++ row ∷ rows) ++ d)) =
      subst (λ l. IsPermutation ((a ++ b) ++ ((w ++ c) ++ d)) (pairs_of query joining old (row ∷ rows) ++ (l ++ d))) (sym mine)
      (IsPermutation-append_left ((w ++ c) ++ d) (a ++ b) (pairs_of query joining old (row ∷ rows)) (rights-append query joining old (row ∷ []) rows)) in
      let left : IsPermutation (pairs_by query joining row old ++ pairs_in_turn query joining (old ++ row ∷ []) rows) ((a ++ w) ++ ((b ++ c) ++ d)) =
      subst (λ l. IsPermutation (pairs_by query joining row old ++ pairs_in_turn query joining (old ++ row ∷ []) rows) (l ++ ((b ++ c) ++ d))) (pairs_either query joining row old)
      (IsPermutation-append_right (pairs_by query joining row old) (pairs_in_turn query joining (old ++ row ∷ []) rows) ((b ++ c) ++ d) rest) in
      IsPermutation-trans _ _ _ left (IsPermutation-trans _ _ _ (regroup a w b c d) right)

  -- rows before in another order
  turn_in_order : (rows first second : List FedRow) → IsReordered first second → IsPermutation (pairs_in_turn query joining second rows) (pairs_in_turn query joining first rows)
  unfolding pairs_in_turn
  turn_in_order [] first second same = IsPermutation-refl []
  turn_in_order (row ∷ rows) first second same =
      let test = are_candidates joining row in
      let pair = pair_by query joining (is_left row.stream) row in
      let here : IsPermutation (map pair (filter test second)) (map pair (filter test first)) =
      IsPermutation-sym _ _ (IsPermutation-map pair (filter test first) (filter test second) (permutes (filter test first) (filter test second) (reordered_filter test first second same))) in
      IsPermutation-append (map pair (filter test second)) (map pair (filter test first)) _ _ here
      (turn_in_order rows (first ++ row ∷ []) (second ++ row ∷ []) (reordered_append (row ∷ []) first second same))

-- ---- by what is kept

partner_meets : (joining : Joining) (row other : FedRow) → is_partner joining row other ≡ true → are_candidates joining row other ≡ true
partner_meets joining row other is =
    by (is_candidate joining row other) (is_candidate joining other row) (is_true_answer (is_on joining row other)) (is_true_answer (is_on joining other row)) is
  where
    by : (a b x y : Bool) → ((a && x) || (b && y)) ≡ true → (a || b) ≡ true
    by true b x y is = refl
    by false true x y is = refl
    by false false x y is = absurd cc

all_pass : {X : Type 0} (p : X → Bool) (xs : List X) → AllByRecursion (λ x. p x ≡ false) xs → filter (λ x. not (p x)) xs ≡ xs
all_pass p [] none = refl
all_pass p (x ∷ xs) none = ap (λ b. if not b then x ∷ filter (λ x. not (p x)) xs else filter (λ x. not (p x)) xs) none.0 ∙ ap (λ l. x ∷ l) (all_pass p xs none.1)

module _ (joining : Joining) (old new : List FedRow) (before now : Option ℤ) (follows : Follows new before now) where
  abbrev held : List FedRow
  held = open_rows joining old before

  -- a new row has its partners of before among the rows that are kept
  met_held : (row : FedRow) → is_past now row.time ≡ false → has_partner joining old row ≡ has_partner joining held row
  met_held row on_time =
      sym (any_there (is_partner joining row) (λ (other : FedRow). not (is_over joining before other))
      (λ other partner. ap not (was_open joining before now follows.rises other (candidate_opens joining now row other on_time (partner_meets joining row other partner)))) old)

  pub new_met : All (λ (row : FedRow). has_partner joining old row ≡ has_partner joining held row) new
  new_met = All-from_recursion _ new (weaker (λ (row : FedRow). is_past now row.time ≡ false) (λ (row : FedRow). has_partner joining old row ≡ has_partner joining held row) met_held new (timely joining old new before now follows))

  same_turn : (query : Bound) (rows more : List FedRow) → AllByRecursion (λ (row : FedRow). is_past now row.time ≡ false) rows
      → pairs_in_turn query joining (held ++ more) rows ≡ pairs_in_turn query joining (old ++ more) rows
  unfolding pairs_in_turn
  same_turn query [] more all = refl
  same_turn query (row ∷ rows) more all =
      let found = all_found joining old new before now follows row all.0 in
      let here : filter (are_candidates joining row) (held ++ more) ≡ filter (are_candidates joining row) (old ++ more) =
      filter-append (are_candidates joining row) held more ∙ ap (λ l. l ++ filter (are_candidates joining row) more) found ∙ sym (filter-append (are_candidates joining row) old more) in
      let rest : pairs_in_turn query joining ((held ++ more) ++ row ∷ []) rows ≡ pairs_in_turn query joining ((old ++ more) ++ row ∷ []) rows =
      ap (λ l. pairs_in_turn query joining l rows) (append_assoc held more (row ∷ []))
      ∙ same_turn query rows (more ++ row ∷ []) all.1
      ∙ ap (λ l. pairs_in_turn query joining l rows) (sym (append_assoc old more (row ∷ []))) in
      λ i. map (pair_by query joining (is_left row.stream) row) (here i) ++ rest i

  kept_turn : (query : Bound) → pairs_in_turn query joining held new ≡ pairs_in_turn query joining old new
  kept_turn query =
      ap (λ l. pairs_in_turn query joining l new) (sym (append-nil held))
      ∙ same_turn query new [] (timely joining old new before now follows)
      ∙ ap (λ l. pairs_in_turn query joining l new) (append-nil old)

  module _ (bounded : IsBounded joining) where
    abbrev is_considered : FedRow → Bool
    is_considered row = is_due joining before now row && is_alone joining (old ++ new) row

    no_new : filter is_considered new ≡ []
    no_new =
        none_pass is_considered new
        (weaker (λ (row : FedRow). is_over joining now row ≡ false) (λ row. is_considered row ≡ false)
        (λ row opens. ap (λ b. (b && not (is_over joining before row)) && is_alone joining (old ++ new) row) opens) new (are_open joining old new before now follows bounded))

    same_due : (row : FedRow) → (not (is_over joining before row) && (is_over joining now row && is_alone joining old row)) ≡ is_considered row
    same_due row = by (is_over joining before row) (is_over joining now row) refl
      where
        by : (b n : Bool) → is_over joining now row ≡ n → (not b && (n && is_alone joining old row)) ≡ ((n && not b) && is_alone joining (old ++ new) row)
        by true true over = refl
        by true false over = refl
        by false true over = ap (λ b. is_outer_side joining.kind (is_left row.stream) && not b) (sym (same_partner joining old new before now follows row over))
        by false false over = refl

    due_kept : filter (λ row. is_over joining now row && is_alone joining old row) held ≡ due_rows joining (old ++ new) before now
    due_kept =
        filter_both (λ row. is_over joining now row && is_alone joining old row) (λ row. not (is_over joining before row)) is_considered same_due old
        ∙ sym (append-nil (filter is_considered old))
        ∙ ap (λ l. filter is_considered old ++ l) (sym no_new)
        ∙ sym (filter-append is_considered old new)

    considered_kept : (query : Bound) → IsPermutation (considered_by query joining old held new now) (considered query joining old new before now)
    considered_kept query =
        let turn : IsPermutation (pairs_in_turn query joining held new) (pairs_of query joining old new ++ pairs_of query joining new (old ++ new)) =
        subst (λ l. IsPermutation l (pairs_of query joining old new ++ pairs_of query joining new (old ++ new))) (sym (kept_turn query)) (turn_is query joining old new) in
        subst (λ rows. IsPermutation (considered_by query joining old held new now) ((pairs_of query joining old new ++ pairs_of query joining new (old ++ new)) ++ map (alone_of query) rows)) due_kept
        (IsPermutation-append_left (map (alone_of query) (filter (λ row. is_over joining now row && is_alone joining old row) held)) (pairs_in_turn query joining held new)
        (pairs_of query joining old new ++ pairs_of query joining new (old ++ new)) turn)

    module _ (query : Bound) (ordered : List FedRow) (same : IsReordered held ordered) where
      considered_in_order : IsPermutation (considered_by query joining old ordered new now) (considered query joining old new before now)
      considered_in_order =
          let test : FedRow → Bool = λ row. is_over joining now row && is_alone joining old row in
          let alone : IsPermutation (map (alone_of query) (filter test ordered)) (map (alone_of query) (filter test held)) =
          IsPermutation-sym _ _ (IsPermutation-map (alone_of query) (filter test held) (filter test ordered) (permutes (filter test held) (filter test ordered) (reordered_filter test held ordered same))) in
          IsPermutation-trans _ _ _ (IsPermutation-append (pairs_in_turn query joining ordered new) (pairs_in_turn query joining held new) _ _ (turn_in_order query joining new held ordered same) alone) (considered_kept query)

      pub shown_by_kept : IsPermutation (shown_among (considered_by query joining old ordered new now)) ((join query joining).added old new before now)
      shown_by_kept = shown_shuffled row_of (considered_by query joining old ordered new now) (considered query joining old new before now) considered_in_order

      pub fault_by_kept : least_key (faulty_among (considered_by query joining old ordered new now)) ≡ (join query joining).fault old new before now
      fault_by_kept = least_shuffled faulty_key (considered_by query joining old ordered new now) (considered query joining old new before now) considered_in_order

    -- ---- what is kept next

    pub rows_kept : open_rows joining (old ++ new) now ≡ filter (λ row. not (is_over joining now row)) held ++ new
    rows_kept =
        filter-append (λ (row : FedRow). not (is_over joining now row)) old new
        ∙ (λ i. sym (found_within (λ (row : FedRow). not (is_over joining now row)) (λ (row : FedRow). not (is_over joining before row)) stays old) i
        ++ all_pass (is_over joining now) new (are_open joining old new before now follows bounded) i)
      where
        stays : (row : FedRow) → not (is_over joining now row) ≡ true → not (is_over joining before row) ≡ true
        stays row opens = by (is_over joining now row) refl opens
          where
            by : (b : Bool) → is_over joining now row ≡ b → not b ≡ true → not (is_over joining before row) ≡ true
            by true over is = absurd cc
            by false is opens = ap not (was_open joining before now follows.rises row is)

pub all_met : (joining : Joining) (old new : List FedRow) (row : FedRow) → has_partner joining (old ++ new) row ≡ (has_partner joining old row || has_partner joining new row)
all_met joining old new row = list_any-append (is_partner joining row) old new
