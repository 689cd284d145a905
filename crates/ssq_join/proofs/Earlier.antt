-- A new row and all rows before it.
use Rattle.std.proofs.Common.{◌≡◌, ◌++◌, ℕ, [], ◌∷◌, List, Bool, true, false, refl, ap, sym, ◌∙◌, subst, filter, map}
use Rattle.std.specs.Prelude.{◌&&◌, ◌||◌, if◌then◌else◌, not}
use Rattle.std.specs.List.{list_any}
use Rattle.std.specs.List.Sorted.{IsPermutation}
use Rattle.std.specs.Ordering.{eq_by_cmp}
use Rattle.std.proofs.lemmas.List.{append_assoc, map-append}
use Rattle.std.proofs.lemmas.List.Elements.{filter-append}
use Rattle.std.proofs.lemmas.List.Sorted.{IsPermutation-append_comm, IsPermutation-append_left, IsPermutation-append_right, IsPermutation-refl, IsPermutation-trans}
use Rattle.ssq_value.specs.declared.value.Value.{Value}
use Rattle.ssq_value.specs.declared.value.Value.TheVariants as cell
use Rattle.ssq_value.specs.Order.{value_cmp}
use Rattle.ssq_version.specs.State.{Ascends, State, all_with, from_key, front_with}
use Rattle.ssq_shape.specs.declared.bound.Bound.{Bound}
use Rattle.ssq_shape.specs.declared.bound.Joining.{Joining}
use Rattle.ssq_shape.specs.Evaluation.{is_null}
use Rattle.ssq_meaning.specs.FedRows.{FedRow}
use Rattle.ssq_meaning.specs.Group.{is_same}
use Rattle.ssq_meaning.specs.Join.{is_left, is_near}
use Rattle.ssq_meaning.specs.JoinLaws.{are_candidates}
use Rattle.ssq_meaning.proofs.Coding.{AreApart as KeysAreApart}
use Rattle.ssq_meaning.proofs.Keys.{same_is}
use Rattle.ssq_step.specs.declared.shown.Shown.{Shown}
use Rattle.ssq_join.specs.Meeting.{AreKept, MeetsFront, MeetsNext}
use Rattle.ssq_join.specs.Steps.{IsKept}
use Rattle.ssq_join.specs.Telling.{Meets, Pair, candidates_of}
use Rattle.ssq_join.specs.Turning.{MeetsEarlier, unmet}
use Rattle.ssq_join.proofs.Across.{all_begin, are_others, begins, prefix, same_candidates}

-- ---- a key with NULL

-- a value is NULL where the order of values does not tell it from NULL
pub null_by_order : (value : Value) → eq_by_cmp value_cmp value cell.Null ≡ is_null value
unfolding value_cmp
null_by_order cell.Null = refl
null_by_order (cell.Int number) = refl
null_by_order (cell.Text text) = refl
null_by_order (cell.Time time) = refl
null_by_order (cell.Truth truth) = refl

null_meets : (joining : Joining) (row other : FedRow) → list_any is_null row.key ≡ true → are_candidates joining row other ≡ false
null_meets joining row other has = by (is_left row.stream) (is_left other.stream) (is_same row.key other.key) (is_same other.key row.key) (list_any is_null row.key) (list_any is_null other.key) has theirs
  where
    theirs : is_same other.key row.key ≡ true → list_any is_null other.key ≡ true
    theirs same = ap (list_any is_null) (same_is other.key row.key same) ∙ has

    by : (r o s t m n : Bool) → m ≡ true → (t ≡ true → n ≡ true)
        → (((r && not o) && ((s && not m) && is_near joining.bound row.time other.time)) || ((o && not r) && ((t && not n) && is_near joining.bound other.time row.time))) ≡ false
    by true true s t m n has theirs = refl
    by false false s t m n has theirs = refl
    by true false s t true n has theirs = by_same s
      where
        by_same : (s : Bool) → (((s && false) && is_near joining.bound row.time other.time) || false) ≡ false
        by_same true = refl
        by_same false = refl
    by true false s t false n has theirs = absurd cc
    by false true s true m true has theirs = refl
    by false true s true m false has theirs = let no : false ≡ true = theirs refl in absurd cc
    by false true s false m n has theirs = refl

pub none_with_null : (joining : Joining) (row : FedRow) (others : List FedRow) → list_any is_null row.key ≡ true → candidates_of joining row others ≡ []
none_with_null joining row [] has = refl
none_with_null joining row (other ∷ others) has =
    ap (λ b. map (λ (own : FedRow). (row, own)) (if b then other ∷ filter (are_candidates joining row) others else filter (are_candidates joining row) others)) (null_meets joining row other has)
    ∙ none_with_null joining row others has

pub null_next : (query : Bound) (joining : Joining) (row : FedRow) (others : List FedRow) (pairs : List Pair) (found : Shown) (met : List (List ℕ)) → list_any is_null row.key ≡ true
    → Meets query joining pairs found met → MeetsNext query joining pairs row others found met
null_next query joining row others pairs found met has meets =
    (pairs, subst (λ (l : List Pair). IsPermutation pairs (l ++ pairs)) (sym (none_with_null joining row others has)) (IsPermutation-refl pairs), meets)

-- ---- those that are kept, then those of the epoch

pub candidates_append : (joining : Joining) (row : FedRow) (xs ys : List FedRow) → candidates_of joining row (xs ++ ys) ≡ candidates_of joining row xs ++ candidates_of joining row ys
candidates_append joining row xs ys = ap (map (λ (own : FedRow). (row, own))) (filter-append (are_candidates joining row) xs ys) ∙ map-append (λ (own : FedRow). (row, own)) (filter (are_candidates joining row) xs) (filter (are_candidates joining row) ys)

in_front : (a b pairs more all : List Pair) → IsPermutation more (a ++ pairs) → IsPermutation all (b ++ more) → IsPermutation all ((a ++ b) ++ pairs)
in_front a b pairs more all one two =
    let first : IsPermutation (b ++ more) (b ++ (a ++ pairs)) = IsPermutation-append_right b more (a ++ pairs) one in
    let turned : IsPermutation ((b ++ a) ++ pairs) ((a ++ b) ++ pairs) = IsPermutation-append_left pairs (b ++ a) (a ++ b) (IsPermutation-append_comm b a) in
    IsPermutation-trans _ _ _ two (IsPermutation-trans _ _ _ first (subst (λ (l : List Pair). IsPermutation l ((a ++ b) ++ pairs)) (append_assoc b a pairs) turned))

module _ (apart : KeysAreApart) (stand : (beginning : List ℕ) (state : State) → Ascends state → front_with beginning (from_key beginning state) ≡ all_with beginning state)
    (query : Bound) (joining : Joining) (row : FedRow) (own : IsKept query joining row) (none : list_any is_null row.key ≡ false) where
  one_by_one : (was : FedRow → Bool) (rows : List FedRow) (state : State) → AreKept query joining was rows state → Ascends state → (found now : Shown) (old new : List (List ℕ)) (pairs : List Pair)
      → MeetsFront query joining row (prefix row) (from_key (prefix row) state) found now old new
      → Meets query joining pairs found old → MeetsNext query joining pairs row rows now new
  one_by_one was rows state kept ascends found now old new pairs front meets =
      let next = front was (filter (begins row) rows) pairs
      (stand (prefix row) state ascends ∙ ap (all_with (prefix row)) kept.listed ∙ all_begin (prefix row) was rows)
      (are_others apart query joining row own none was rows kept.each) meets in
      (next.0, subst (λ (l : List Pair). IsPermutation next.0 (l ++ pairs)) (same_candidates apart query joining row own none rows kept.each) next.1, next.2)

  pub next_both : (was fresh_met : FedRow → Bool) (held earlier : List FedRow) (state fresh : State) → AreKept query joining was held state → Ascends state → AreKept query joining fresh_met earlier fresh → Ascends fresh
      → (found between now : Shown) (old middle new : List (List ℕ)) (pairs : List Pair)
      → MeetsFront query joining row (prefix row) (from_key (prefix row) state) found between old middle
      → MeetsFront query joining row (prefix row) (from_key (prefix row) fresh) between now middle new
      → Meets query joining pairs found old → MeetsNext query joining pairs row (held ++ earlier) now new
  next_both was fresh_met held earlier state fresh kept ascends kept_new ascends_new found between now old middle new pairs first second meets =
      let one = one_by_one was held state kept ascends found between old middle pairs first meets in
      let two = one_by_one fresh_met earlier fresh kept_new ascends_new between now middle new one.0 second one.2 in (
        two.0,
        subst (λ (l : List Pair). IsPermutation two.0 (l ++ pairs)) (sym (candidates_append joining row held earlier))
            (in_front (candidates_of joining row held) (candidates_of joining row earlier) pairs one.0 two.0 one.1 two.1),
        two.2,
      )

-- the same, of the entries that are gone through
pub earlier_of : (apart : KeysAreApart) (stand : (beginning : List ℕ) (state : State) → Ascends state → front_with beginning (from_key beginning state) ≡ all_with beginning state) (query : Bound) (joining : Joining) (row : FedRow)
    → list_any is_null row.key ≡ false → (beginning : List ℕ) → beginning ≡ prefix row → (state fresh kept_entries new_entries : State) → Ascends state → Ascends fresh → kept_entries ≡ from_key beginning state
    → new_entries ≡ from_key beginning fresh → (found between now : Shown) (old middle new : List (List ℕ)) → MeetsFront query joining row beginning kept_entries found between old middle
    → MeetsFront query joining row beginning new_entries between now middle new → MeetsEarlier query joining row state fresh found now old new
earlier_of apart stand query joining row none beginning is state fresh kept_entries new_entries ascends ascends_new entries entries_new found between now old middle new first second was held earlier pairs own kept kept_new meets =
    next_both apart stand query joining row own none was unmet held earlier state fresh kept ascends kept_new ascends_new found between now old middle new pairs
    (subst (λ (b : List ℕ). MeetsFront query joining row b (from_key b state) found between old middle) is (subst (λ (es : State). MeetsFront query joining row beginning es found between old middle) entries first))
    (subst (λ (b : List ℕ). MeetsFront query joining row b (from_key b fresh) between now middle new) is (subst (λ (es : State). MeetsFront query joining row beginning es between now middle new) entries_new second)) meets

pub earlier_null : (query : Bound) (joining : Joining) (row : FedRow) → list_any is_null row.key ≡ true → (state fresh : State) (found : Shown) (met : List (List ℕ)) → MeetsEarlier query joining row state fresh found found met met
earlier_null query joining row has state fresh found met was held earlier pairs own kept kept_new meets = null_next query joining row (held ++ earlier) pairs found met has meets
