-- What is judged of a new row and one of the other side.
use Rattle.std.proofs.Common.{◌≡◌, ◌++◌, ℕ, [], ◌∷◌, List, Bool, true, false, refl, ap, sym, ◌∙◌, subst}
use Rattle.std.specs.Prelude.{◌&&◌, ◌||◌, All, not, if◌then◌else◌}
use Rattle.std.specs.BTreeMap.{is_at}
use Rattle.std.specs.List.{list_any}
use Rattle.std.proofs.lemmas.List.Elements.{All-append}
use mathlib.Core.Bool.{or-false}
use Rattle.ssq_value.specs.declared.value.Value.{Value}
use Rattle.ssq_version.specs.State.{by_bytes}
use Rattle.ssq_shape.specs.declared.bound.Bound.{Bound}
use Rattle.ssq_shape.specs.declared.bound.Joining.{Joining}
use Rattle.ssq_shape.specs.Evaluation.{is_null}
use Rattle.ssq_step.specs.declared.shown.Shown.{Shown}
use Rattle.ssq_step.specs.Rows.{IsKeptRow, stream_of}
use Rattle.ssq_meaning.specs.FedRows.{FedRow}
use Rattle.ssq_meaning.specs.Fit.{IsFit}
use Rattle.ssq_meaning.specs.Group.{is_same}
use Rattle.ssq_meaning.specs.Join.{Considered, is_candidate, is_left, is_near, is_partner, join_time, row_key}
use Rattle.ssq_meaning.specs.JoinLaws.{are_candidates, pair_by}
use Rattle.ssq_meaning.proofs.Keys.{same_itself}
use Rattle.ssq_join.specs.Judging.{is_met, judged_row}
use Rattle.ssq_join.specs.Meeting.{IsOther, are_near, joined, with_candidate}
use Rattle.ssq_join.specs.Telling.{Meets, Pair, Tells, among, considered_of}
use Rattle.ssq_join.proofs.Meeting.{meets_more}

-- two rows whose values are fit are joined to one whose values are
pub joined_fit : (left : Bool) (own other : List Value) → All IsFit own → All IsFit other → All IsFit (joined left own other)
joined_fit true own other is others = All-append IsFit other own others is
joined_fit false own other is others = All-append IsFit own other is others

-- a left row and a right one with the same key, which has no NULL
record Faces (joining : Joining) (left right : FedRow) : Type 0 where
  pub is_left_row : is_left left.stream ≡ true
  pub is_right_row : is_left right.stream ≡ false
  pub same : is_same left.key right.key ≡ true
  pub none : list_any is_null left.key ≡ false

one_way : (joining : Joining) (left right : FedRow) → Faces joining left right → is_candidate joining left right ≡ is_near joining.bound left.time right.time
one_way joining left right faces = λ i. (faces.is_left_row i && not (faces.is_right_row i)) && ((faces.same i && not (faces.none i)) && is_near joining.bound left.time right.time)

other_way : (joining : Joining) (left right : FedRow) → Faces joining left right → is_candidate joining right left ≡ false
other_way joining left right faces = λ i. (faces.is_right_row i && not (faces.is_left_row i)) && ((is_same right.key left.key && not (list_any is_null right.key)) && is_near joining.bound right.time left.time)

-- what is judged of them is what they are
from_left : (query : Bound) (joining : Joining) (left right : FedRow) → Faces joining left right → (met : Bool) → is_near joining.bound left.time right.time ≡ true → met ≡ is_met joining (left.values ++ right.values)
    → (are_candidates joining left right ≡ true) × (record { key = left.key; row = judged_row query joining (left.values ++ right.values) } ≡ considered_of query joining (left, right)) × (is_partner joining left right ≡ met)
from_left query joining left right faces met near is =
    let here : is_candidate joining left right ≡ true = one_way joining left right faces ∙ near in
    let not_there : is_candidate joining right left ≡ false = other_way joining left right faces in (
      (λ i. here i || not_there i),
      ap (λ b. pair_by query joining b left right) (sym faces.is_left_row),
      (λ i. (here i && is_met joining (left.values ++ right.values)) || (not_there i && is_met joining (right.values ++ left.values))) ∙ or-false (is_met joining (left.values ++ right.values)) ∙ sym is,
    )

from_right : (query : Bound) (joining : Joining) (left right : FedRow) → Faces joining left right → right.key ≡ left.key → (met : Bool) → is_near joining.bound left.time right.time ≡ true
    → met ≡ is_met joining (left.values ++ right.values)
    → (are_candidates joining right left ≡ true) × (record { key = right.key; row = judged_row query joining (left.values ++ right.values) } ≡ considered_of query joining (right, left)) × (is_partner joining right left ≡ met)
from_right query joining left right faces equal met near is =
    let there : is_candidate joining left right ≡ true = one_way joining left right faces ∙ near in
    let not_here : is_candidate joining right left ≡ false = other_way joining left right faces in
    let own : record { key = right.key; row = judged_row query joining (left.values ++ right.values) } ≡ pair_by query joining false right left =
    λ i. record { key = equal i; row = judged_row query joining (left.values ++ right.values) } in (
      (λ i. not_here i || there i),
      own ∙ ap (λ b. pair_by query joining b right left) (sym faces.is_right_row),
      (λ i. (not_here i && is_met joining (right.values ++ left.values)) || (there i && is_met joining (left.values ++ right.values))) ∙ sym is,
    )

-- ---- a new row, and one of the other side that is kept

module _ (query : Bound) (joining : Joining) (row other : FedRow) (was : Bool) (key value : List ℕ) (is : IsOther query joining row other was key value) where
  same_keys : is_same row.key other.key ≡ true
  same_keys = ap (is_same row.key) (sym is.same) ∙ same_itself row.key

  back_keys : is_same other.key row.key ≡ true
  back_keys = ap (λ k. is_same k row.key) (sym is.same) ∙ same_itself row.key

  faces_from_left : is_left other.stream ≡ false → Faces joining row other
  faces_from_left right = record { is_left_row = own (is_left row.stream) (sym is.side ∙ right); is_right_row = right; same = same_keys; none = is.none }
    where
      own : (b : Bool) → not b ≡ false → b ≡ true
      own true not_b = refl
      own false not_b = absurd cc

  faces_from_right : is_left other.stream ≡ true → Faces joining other row
  faces_from_right left = record { is_left_row = left; is_right_row = own (is_left row.stream) (sym is.side ∙ left); same = back_keys; none = ap (list_any is_null) (sym is.same) ∙ is.none }
    where
      own : (b : Bool) → not b ≡ true → b ≡ false
      own true not_b = absurd cc
      own false not_b = refl

  -- its event time is its time
  pub event_is_time : join_time joining.bound (stream_of (is_left other.stream)) other.values ≡ other.time
  event_is_time = sym (is.own.own.time ∙ ap (λ s. join_time joining.bound s other.values) is.own.stream)

  near_from_left : Faces joining row other → is_near joining.bound row.time other.time ≡ are_near joining row other.time
  near_from_left faces = ap (λ b. if b then is_near joining.bound row.time other.time else is_near joining.bound other.time row.time) (sym faces.is_left_row)

  near_from_right : Faces joining other row → is_near joining.bound other.time row.time ≡ are_near joining row other.time
  near_from_right faces = ap (λ b. if b then is_near joining.bound row.time other.time else is_near joining.bound other.time row.time) (sym faces.is_right_row)

  -- it is a row that is kept so
  pub is_kept_row : IsKeptRow query (is_left other.stream) other.values was key value
  is_kept_row = record {
    bytes = record { rest = rest_of (row_key other); side = is.at; spelled = is.kept };
    fit = is.own.fit.values;
    many = is.own.many;
  } where
    rest_of : List ℕ → List ℕ
    rest_of [] = []
    rest_of (x ∷ xs) = xs

  -- it is no candidate where the two do not meet the bound
  pub none_judged : are_near joining row other.time ≡ false → are_candidates joining row other ≡ false
  none_judged far = by (is_left other.stream) refl
    where
      by : (left : Bool) → is_left other.stream ≡ left → are_candidates joining row other ≡ false
      by true left = let faces = faces_from_right left in λ i. other_way joining other row faces i || (one_way joining other row faces ∙ near_from_right faces ∙ far) i
      by false right = let faces = faces_from_left right in λ i. (one_way joining row other faces ∙ near_from_left faces ∙ far) i || other_way joining row other faces i

  judged_pair : (left : Bool) → left ≡ is_left other.stream → are_near joining row other.time ≡ true → (met : Bool) → met ≡ is_met joining (joined left row.values other.values)
      → (are_candidates joining row other ≡ true) × (record { key = row.key; row = judged_row query joining (joined left row.values other.values) } ≡ considered_of query joining (row, other)) × (is_partner joining row other ≡ met)
  judged_pair true left near met is_so = let faces = faces_from_right (sym left) in from_right query joining other row faces is.same met (near_from_right faces ∙ near) is_so
  judged_pair false right near met is_so = let faces = faces_from_left (sym right) in from_left query joining row other faces met (near_from_left faces ∙ near) is_so

  pub none_met : (pairs : List Pair) (found : Shown) (met : List (List ℕ)) → are_candidates joining row other ≡ false → Meets query joining pairs found met → Meets query joining (with_candidate joining row other pairs) found met
  none_met pairs found met far meets = subst (λ b. Meets query joining (if b then (row, other) ∷ pairs else pairs) found met) (sym far) meets

  pub one_met : (left : Bool) → left ≡ is_left other.stream → are_near joining row other.time ≡ true → (met : Bool) → met ≡ is_met joining (joined left row.values other.values)
      → (pairs : List Pair) (found now : Shown) (before after : List (List ℕ))
      → ((all : List Considered) → Tells found all → Tells now (record { key = row.key; row = judged_row query joining (joined left row.values other.values) } ∷ all))
      → ((bytes : List ℕ) → among after bytes ≡ (if met then (is_at (by_bytes bytes) (row_key row) || (is_at (by_bytes bytes) key || among before bytes)) else among before bytes))
      → Meets query joining pairs found before → Meets query joining (with_candidate joining row other pairs) now after
  one_met left on near met is_so pairs found now before after told knows meets =
      let all = judged_pair left on near met is_so in
      subst (λ b. Meets query joining (if b then (row, other) ∷ pairs else pairs) now after) (sym all.0)
      (meets_more query joining row other pairs found now before after (judged_row query joining (joined left row.values other.values)) met told all.1 all.2
      (subst (λ (k : List ℕ). (bytes : List ℕ) → among after bytes ≡ (if met then (is_at (by_bytes bytes) (row_key row) || (is_at (by_bytes bytes) k || among before bytes)) else among before bytes)) is.at knows)
      meets)
