-- A row that is over has no partner among rows that are not late.
use Rattle.std.proofs.Common.{◌≡◌, ◌+ℤ◌, int_le, [], ◌∷◌, ℤ, List, Option, Some, None, Bool, true, false, refl, ap, sym, ◌∙◌, arith}
use Rattle.std.specs.Prelude.{◌&&◌, ◌||◌, not, IfSome}
use Rattle.std.specs.List.{AllByRecursion}
use Rattle.std.proofs.lemmas.Int.{ints}
use Rattle.std.proofs.lemmas.Bool.{and_parts}
use borrow.Author.Tests.{not-true}
use Rattle.ssq_shape.specs.declared.bound.Joining.{Joining}
use Rattle.ssq_shape.specs.declared.bound.TimeBound.{TimeBound}
use Rattle.ssq_meaning.specs.FedRows.{FedRow}
use Rattle.ssq_meaning.specs.Join.{has_partner, have_equal_keys, is_candidate, is_left, is_near, is_on, is_over, last_time}
use Rattle.ssq_meaning.specs.JoinLaws.{IsAround, IsBounded}
use Rattle.ssq_meaning.specs.Meaning.{is_true_answer}
use Rattle.ssq_meaning.specs.Times.{AtMost, is_past}
use Rattle.ssq_meaning.proofs.Grouped.{past_stays}

-- ---- times

-- where a left row and a right one are near, and the right one's time is not past, the last time of the left one is not
near_left : (bound : Option TimeBound) (now left right : Option ℤ) → is_near bound left right ≡ true → is_past now right ≡ false → is_past now (last_time bound true left) ≡ false
near_left None None left right near timely = refl
near_left None (Some w) left right near timely = refl
near_left (Some bound) None left right near timely = refl
near_left (Some bound) (Some w) None right near timely = absurd cc
near_left (Some bound) (Some w) (Some l) None near timely = absurd cc
near_left (Some bound) (Some w) (Some l) (Some r) near timely =
    let high : int_le r (l +ℤ bound.hi) ≡ true = (and_parts (int_le (l +ℤ bound.lo) r) (int_le r (l +ℤ bound.hi)) near).1 in
    grind (arith, ints, high, timely)

near_right : (bound : Option TimeBound) (now left right : Option ℤ) → is_near bound left right ≡ true → is_past now left ≡ false → is_past now (last_time bound false right) ≡ false
near_right None None left right near timely = refl
near_right None (Some w) left right near timely = refl
near_right (Some bound) None left right near timely = refl
near_right (Some bound) (Some w) None right near timely = absurd cc
near_right (Some bound) (Some w) (Some l) None near timely = absurd cc
near_right (Some bound) (Some w) (Some l) (Some r) near timely =
    let low : int_le (l +ℤ bound.lo) r ≡ true = (and_parts (int_le (l +ℤ bound.lo) r) (int_le r (l +ℤ bound.hi)) near).0 in
    grind (arith, ints, low, timely)

-- the last time of a row whose own is not past is not
not_yet : (bound : Option TimeBound) → IfSome bound IsAround → (now time : Option ℤ) (left : Bool) → is_past now time ≡ false → is_past now (last_time bound left time) ≡ false
not_yet None around None time left timely = refl
not_yet None around (Some w) time left timely = refl
not_yet (Some bound) around None time left timely = refl
not_yet (Some bound) around (Some w) None true timely = refl
not_yet (Some bound) around (Some w) None false timely = refl
not_yet (Some bound) around (Some w) (Some t) true timely = grind (arith, ints, around.hi, timely)
not_yet (Some bound) around (Some w) (Some t) false timely = grind (arith, ints, around.lo, timely)

-- ---- rows

module _ (joining : Joining) (before now : Option ℤ) (rises : AtMost before now) where
  -- what is over stays so
  pub over_stays : (row : FedRow) → is_over joining before row ≡ true → is_over joining now row ≡ true
  over_stays row over = past_stays before now (last_time joining.bound (is_left row.stream) row.time) rises over

  pub was_open : (row : FedRow) → is_over joining now row ≡ false → is_over joining before row ≡ false
  was_open row opens = by (is_over joining before row) refl
    where
      by : (b : Bool) → is_over joining before row ≡ b → is_over joining before row ≡ false
      by true over = let no : true ≡ false = sym (over_stays row over) ∙ opens in absurd cc
      by false is = is

  pub new_open : IsBounded joining → (row : FedRow) → is_past now row.time ≡ false → is_over joining now row ≡ false
  new_open bounded row timely = not_yet joining.bound bounded now row.time (is_left row.stream) timely

-- a left row that meets the bound with a row that is not late is not over, and so a right one
pub left_opens : (joining : Joining) (now : Option ℤ) (row other : FedRow) → is_candidate joining row other ≡ true → is_past now other.time ≡ false → is_over joining now row ≡ false
left_opens joining now row other is timely =
    let parts = and_parts (is_left row.stream && not (is_left other.stream)) (have_equal_keys row other && is_near joining.bound row.time other.time) is in
    let left = (and_parts (is_left row.stream) (not (is_left other.stream)) parts.0).0 in
    let near = (and_parts (have_equal_keys row other) (is_near joining.bound row.time other.time) parts.1).1 in
    ap (λ side. is_past now (last_time joining.bound side row.time)) left ∙ near_left joining.bound now row.time other.time near timely

pub right_opens : (joining : Joining) (now : Option ℤ) (row other : FedRow) → is_candidate joining other row ≡ true → is_past now other.time ≡ false → is_over joining now row ≡ false
right_opens joining now row other is timely =
    let parts = and_parts (is_left other.stream && not (is_left row.stream)) (have_equal_keys other row && is_near joining.bound other.time row.time) is in
    let right = not-true (is_left row.stream) (and_parts (is_left other.stream) (not (is_left row.stream)) parts.0).1 in
    let near = (and_parts (have_equal_keys other row) (is_near joining.bound other.time row.time) parts.1).1 in
    ap (λ side. is_past now (last_time joining.bound side row.time)) right ∙ near_right joining.bound now other.time row.time near timely

module _ (joining : Joining) (now : Option ℤ) (row : FedRow) (over : is_over joining now row ≡ true) where
  none_right : (other : FedRow) → is_past now other.time ≡ false → is_candidate joining row other ≡ false
  none_right other timely = by (is_candidate joining row other) refl
    where
      by : (b : Bool) → is_candidate joining row other ≡ b → is_candidate joining row other ≡ false
      by false is = is
      by true is = let no : true ≡ false = sym over ∙ left_opens joining now row other is timely in absurd cc

  none_left : (other : FedRow) → is_past now other.time ≡ false → is_candidate joining other row ≡ false
  none_left other timely = by (is_candidate joining other row) refl
    where
      by : (b : Bool) → is_candidate joining other row ≡ b → is_candidate joining other row ≡ false
      by false is = is
      by true is = let no : true ≡ false = sym over ∙ right_opens joining now row other is timely in absurd cc

  -- a row that is over has no partner among rows that are not late
  pub no_partner : (rows : List FedRow) → AllByRecursion (λ (other : FedRow). is_past now other.time ≡ false) rows → has_partner joining rows row ≡ false
  no_partner [] all = refl
  no_partner (other ∷ rows) all =
      λ i. ((none_right other all.0 i && is_true_answer (is_on joining row other)) || (none_left other all.0 i && is_true_answer (is_on joining other row)))
      || no_partner rows all.1 i
