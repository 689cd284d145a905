-- The rows of an epoch, taken in turn.
use Rattle.std.proofs.Common.{◌≡◌, ◌++◌, [], ◌∷◌, List, Some, None, Bool, true, false, refl, ap, sym, ◌∙◌, subst, filter, map}
use Rattle.std.specs.Prelude.{if◌then◌else◌}
use Rattle.std.specs.declared.cmp.Ordering.{Ordering}
use Rattle.std.specs.declared.cmp.Ordering.TheVariants.{Less, Equal, Greater}
use Rattle.std.specs.BTreeMap.{insert_entry}
use Rattle.std.specs.List.Sorted.{IsPermutation}
use Rattle.std.specs.Ordering.{is_eq, match_ordering}
use Rattle.std.proofs.lemmas.List.{append_assoc, append-nil, map-append}
use Rattle.std.proofs.lemmas.List.Elements.{filter-append}
use Rattle.std.proofs.lemmas.List.Sorted.{IsPermutation-append_comm, IsPermutation-append_left, IsPermutation-append_right, IsPermutation-cons, IsPermutation-map, IsPermutation-middle, IsPermutation-sym, IsPermutation-to_front, IsPermutation-trans}
use Rattle.ssq_version.specs.State.{by_bytes}
use Rattle.ssq_shape.specs.declared.bound.Bound.{Bound}
use Rattle.ssq_shape.specs.declared.bound.Joining.{Joining}
use Rattle.ssq_meaning.specs.FedRows.{FedRow}
use Rattle.ssq_meaning.specs.Join.{is_left, row_key, row_value}
use Rattle.ssq_meaning.specs.JoinLaws.{are_candidates, pair_by, pairs_in_turn}
use Rattle.ssq_join.specs.Changing.{find_row}
use Rattle.ssq_join.specs.Meeting.{entry_with}
use Rattle.ssq_join.specs.Telling.{Pair, candidates_of, considered_of}
use Rattle.ssq_join.specs.Turning.{AreSameRows, turns}
use Rattle.ssq_join.proofs.Earlier.{candidates_append}

-- one row more
pub turns_on : (joining : Joining) (row : FedRow) (earlier rows : List FedRow) → turns joining earlier (rows ++ row ∷ []) ≡ turns joining earlier rows ++ candidates_of joining row (earlier ++ rows)
turns_on joining row earlier [] = append-nil (candidates_of joining row earlier) ∙ ap (candidates_of joining row) (sym (append-nil earlier))
turns_on joining row earlier (one ∷ rows) =
    ap (λ l. candidates_of joining one earlier ++ l) (turns_on joining row (earlier ++ one ∷ []) rows ∙ ap (λ l. turns joining (earlier ++ one ∷ []) rows ++ candidates_of joining row l) (append_assoc earlier (one ∷ []) rows))
    ∙ sym (append_assoc (candidates_of joining one earlier) (turns joining (earlier ++ one ∷ []) rows) (candidates_of joining row (earlier ++ one ∷ rows)))

-- what these candidates are
considered_by_row : (query : Bound) (joining : Joining) (row : FedRow) (others : List FedRow) → map (considered_of query joining) (map (λ (other : FedRow). (row, other)) others) ≡ map (pair_by query joining (is_left row.stream) row) others
considered_by_row query joining row [] = refl
considered_by_row query joining row (other ∷ others) = ap (λ l. pair_by query joining (is_left row.stream) row other ∷ l) (considered_by_row query joining row others)

pub turns_are : (query : Bound) (joining : Joining) (earlier rows : List FedRow) → map (considered_of query joining) (turns joining earlier rows) ≡ pairs_in_turn query joining earlier rows
unfolding pairs_in_turn
turns_are query joining earlier [] = refl
turns_are query joining earlier (row ∷ rows) =
    map-append (considered_of query joining) (candidates_of joining row earlier) (turns joining (earlier ++ row ∷ []) rows)
    ∙ (λ i. considered_by_row query joining row (filter (are_candidates joining row) earlier) i ++ turns_are query joining (earlier ++ row ∷ []) rows i)

-- the rows before a row, in any order
pub candidates_same : (joining : Joining) (row : FedRow) (held xs ys : List FedRow) → AreSameRows xs ys → IsPermutation (candidates_of joining row (held ++ xs)) (candidates_of joining row (held ++ ys))
candidates_same joining row held xs ys same =
    subst (λ (l : List Pair). IsPermutation l (candidates_of joining row (held ++ ys))) (sym (candidates_append joining row held xs))
    (subst (λ (l : List Pair). IsPermutation (candidates_of joining row held ++ candidates_of joining row xs) l) (sym (candidates_append joining row held ys))
    (IsPermutation-append_right (candidates_of joining row held) (candidates_of joining row xs) (candidates_of joining row ys)
    (IsPermutation-map (λ (other : FedRow). (row, other)) (filter (are_candidates joining row) xs) (filter (are_candidates joining row) ys) (same (are_candidates joining row)))))

-- after those of the rows before come those of one more
pub turns_more : (joining : Joining) (row : FedRow) (held rows ordered : List FedRow) (pairs more : List Pair) → AreSameRows ordered rows → IsPermutation pairs (turns joining held rows)
    → IsPermutation more (candidates_of joining row (held ++ ordered) ++ pairs) → IsPermutation more (turns joining held (rows ++ row ∷ []))
turns_more joining row held rows ordered pairs more same taken next =
    let old = candidates_of joining row (held ++ ordered) in
    let own = candidates_of joining row (held ++ rows) in
    let first : IsPermutation (old ++ pairs) (pairs ++ old) = IsPermutation-append_comm old pairs in
    let second : IsPermutation (pairs ++ old) (pairs ++ own) = IsPermutation-append_right pairs old own (candidates_same joining row held ordered rows same) in
    let third : IsPermutation (pairs ++ own) (turns joining held rows ++ own) = IsPermutation-append_left own pairs (turns joining held rows) taken in
    subst (IsPermutation more) (sym (turns_on joining row held rows)) (IsPermutation-trans _ _ _ next (IsPermutation-trans _ _ _ first (IsPermutation-trans _ _ _ second third)))

-- a row more, wherever it stands
pub same_more : (row : FedRow) (front back rows : List FedRow) → AreSameRows (front ++ back) rows → AreSameRows (front ++ row ∷ back) (rows ++ row ∷ [])
same_more row front back rows same test = by (subst (λ (l : List FedRow). IsPermutation l (filter test rows)) (filter-append test front back) (same test))
  where
    by_front : (b : Bool) → IsPermutation (filter test front ++ filter test back) (filter test rows)
        → IsPermutation (filter test front ++ (if b then row ∷ filter test back else filter test back)) (filter test rows ++ (if b then row ∷ [] else []))
    by_front true own =
        IsPermutation-trans _ _ _ (IsPermutation-middle (filter test front) row (filter test back))
        (IsPermutation-trans _ _ _ (IsPermutation-cons row (filter test front ++ filter test back) (filter test rows) own)
        (IsPermutation-sym (filter test rows ++ row ∷ []) (row ∷ filter test rows) (IsPermutation-to_front (filter test rows) row)))
    by_front false own = subst (IsPermutation (filter test front ++ filter test back)) (sym (append-nil (filter test rows))) own

    by : IsPermutation (filter test front ++ filter test back) (filter test rows) → IsPermutation (filter test (front ++ row ∷ back)) (filter test (rows ++ row ∷ []))
    by own =
        subst (λ (l : List FedRow). IsPermutation l (filter test (rows ++ row ∷ []))) (sym (filter-append test front (row ∷ back)))
        (subst (λ (l : List FedRow). IsPermutation (filter test front ++ filter test (row ∷ back)) l) (sym (filter-append test rows (row ∷ []))) (by_front (test row) own))

-- where the entry of a row is put whose bytes are new
pub put_row : (met : FedRow → Bool) (row : FedRow) (rows : List FedRow) → find_row (row_key row) rows ≡ None
    → (front : List FedRow) × (back : List FedRow) × (insert_entry by_bytes (map (entry_with met) rows) (row_key row) (row_value (met row) row) ≡ map (entry_with met) (front ++ row ∷ back)) × (rows ≡ front ++ back)
put_row met row [] none = ([], [], refl, refl)
put_row met row (other ∷ rows) none = by (by_bytes (row_key row) (row_key other)) none (put_row met row rows)
  where
    by : (r : Ordering) → (if is_eq r then Some other else find_row (row_key row) rows) ≡ None
        → (find_row (row_key row) rows ≡ None
        → (front : List FedRow) × (back : List FedRow) × (insert_entry by_bytes (map (entry_with met) rows) (row_key row) (row_value (met row) row) ≡ map (entry_with met) (front ++ row ∷ back)) × (rows ≡ front ++ back))
        → (front : List FedRow) × (back : List FedRow)
        × (match_ordering r (entry_with met row ∷ entry_with met other ∷ map (entry_with met) rows) ((row_key other, row_value (met row) row) ∷ map (entry_with met) rows)
        (entry_with met other ∷ insert_entry by_bytes (map (entry_with met) rows) (row_key row) (row_value (met row) row))
        ≡ map (entry_with met) (front ++ row ∷ back))
        × (other ∷ rows ≡ front ++ back)
    by Less none rest = ([], other ∷ rows, refl, refl)
    by Equal none rest = absurd cc
    by Greater none rest = let found = rest none in (other ∷ found.0, found.1, ap (λ l. entry_with met other ∷ l) found.2, ap (λ l. other ∷ l) found.3)
