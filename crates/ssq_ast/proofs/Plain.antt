-- What is printed with the least brackets: it stands by the grammar, opens no more brackets than any way to write the
-- same expression, is as high, and is the same expression, places aside.
use Rattle.std.proofs.Common.{◌≡◌, ℕ, ◌+◌, ◌<◌, ◌≤◌, max, Bool, true, false, cond, nat_lt, List, drop, Option, Some, None, refl, ap, ◌∙◌, arith}
use Rattle.std.proofs.lemmas.Bool.Decides.{nat_tests}
use Rattle.std.specs.Option.{option_map}
use Rattle.ssq_ast.specs.declared.expr.BinaryOp.{BinaryOp}
use Rattle.ssq_ast.specs.declared.expr.BinaryOp.TheVariants as op
use Rattle.ssq_ast.specs.declared.expr.ColumnRef.{ColumnRef}
use Rattle.ssq_ast.specs.declared.expr.Expr.{Expr}
use Rattle.ssq_ast.specs.declared.expr.Expr.TheVariants as expr
use Rattle.ssq_ast.specs.declared.expr.Ident.{Ident}
use Rattle.ssq_ast.specs.declared.expr.UnaryOp.{UnaryOp}
use Rattle.ssq_ast.specs.declared.expr.UnaryOp.TheVariants as unary_op
use Rattle.ssq_ast.specs.Expression.{Written, of_number, of_text, of_truth, of_moment, of_span, of_column, of_rows, of_function, bracketed, prefixed, null_tested, infixed, between, words, unary_level, left_level, right_level, level, IsRegular, opens, height, tallest, only, first, behind, column_tree, tree, erased_ident, erased_column, erased_expr, within, plain_column, plain}

-- an operand in its place stands in brackets, or binds tightly enough without
within_by : (P : Written → Type 0) (asked : ℕ) (e : Written) (b : Bool) → nat_lt (level e) asked ≡ b → (level e < asked → P (bracketed e)) → (asked ≤ level e → P e) → P (cond b (bracketed e) e)
within_by P asked e true is less more = less (grind (arith, nat_tests))
within_by P asked e false is less more = more (grind (arith, nat_tests))

pub within_cases : (P : Written → Type 0) (asked : ℕ) (e : Written) → (level e < asked → P (bracketed e)) → (asked ≤ level e → P e) → P (within asked e)
within_cases P asked e = within_by P asked e (nat_lt (level e) asked) refl

within_level : (asked : ℕ) (e : Written) → asked ≤ 7 → asked ≤ level (within asked e)
within_level asked e h = within_cases (λ x. asked ≤ level x) asked e (λ _. h) (λ enough. enough)

within_regular : (asked : ℕ) (e : Written) → IsRegular e → IsRegular (within asked e)
within_regular asked e r = within_cases IsRegular asked e (λ _. r) (λ _. r)

within_height : (asked : ℕ) (e : Written) → height (within asked e) ≡ height e
within_height asked e = within_cases (λ x. height x ≡ height e) asked e (λ _. refl) (λ _. refl)

within_tallest : (asked : ℕ) (e : Written) → tallest (within asked e) ≡ tallest e
within_tallest asked e = within_cases (λ x. tallest x ≡ tallest e) asked e (λ _. refl) (λ _. refl)

unary_most : (o : UnaryOp) → unary_level o ≤ 7
unary_most unary_op.Not = omega arith
unary_most unary_op.Minus = omega arith

left_most : (o : BinaryOp) → left_level o ≤ 7
left_most op.Or = omega arith
left_most op.And = omega arith
left_most op.Equal = omega arith
left_most op.NotEqual = omega arith
left_most op.Less = omega arith
left_most op.AtMost = omega arith
left_most op.Greater = omega arith
left_most op.AtLeast = omega arith
left_most op.Add = omega arith
left_most op.Subtract = omega arith
left_most op.Concat = omega arith
left_most op.Multiply = omega arith
left_most op.Divide = omega arith
left_most op.Remainder = omega arith

right_most : (o : BinaryOp) → right_level o ≤ 7
right_most op.Or = omega arith
right_most op.And = omega arith
right_most op.Equal = omega arith
right_most op.NotEqual = omega arith
right_most op.Less = omega arith
right_most op.AtMost = omega arith
right_most op.Greater = omega arith
right_most op.AtLeast = omega arith
right_most op.Add = omega arith
right_most op.Subtract = omega arith
right_most op.Concat = omega arith
right_most op.Multiply = omega arith
right_most op.Divide = omega arith
right_most op.Remainder = omega arith

-- each operand stands where the grammar has it
pub regular_plain : (w : Written) (places : List ℕ) → IsRegular w → IsRegular (plain (tree w places))
regular_plain (of_number n) places r = tt
regular_plain (of_text text) places r = tt
regular_plain (of_truth truth) places r = tt
regular_plain (of_moment moment) places r = r
regular_plain (of_span span) places r = r
regular_plain (of_column column) places r = tt
regular_plain of_rows places r = tt
regular_plain (of_function f a) places r = regular_plain a (drop 2 places) r
regular_plain (bracketed a) places r = regular_plain a (drop 1 places) r
regular_plain (prefixed o a) places r =
    let e = plain (tree a (drop 1 places)) in
    (within_level (unary_level o) e (unary_most o), within_regular (unary_level o) e (regular_plain a (drop 1 places) r.1))
regular_plain (null_tested a test) places r =
    let e = plain (tree a places) in
    (within_level 4 e (omega arith), within_regular 4 e (regular_plain a places r.1))
regular_plain (infixed o a b) places r =
    let from_b = drop 1 (behind (words a) places) in
    let e = plain (tree a places) in
    let f = plain (tree b from_b) in (
      within_level (left_level o) e (left_most o),
      within_regular (left_level o) e (regular_plain a places r.1),
      within_level (right_level o) f (right_most o),
      within_regular (right_level o) f (regular_plain b from_b r.3),
    )
regular_plain (between a b c) places r =
    let from_b = drop 1 (behind (words a) places) in
    let from_c = drop 1 (behind (words b) from_b) in
    let e = plain (tree a places) in
    let f = plain (tree b from_b) in
    let g = plain (tree c from_c) in (
      within_level 4 e (omega arith),
      within_regular 4 e (regular_plain a places r.1),
      within_level 4 f (omega arith),
      within_regular 4 f (regular_plain b from_b r.3),
      within_level 4 g (omega arith),
      within_regular 4 g (regular_plain c from_c r.5),
    )

-- Brackets. Where the expression e is the one that is written as w: alone it opens no more, and so it does in a place
-- that asks for no more than w gives.
pub record Narrow (w e : Written) : Type 0 where
  pub alone : opens e ≤ opens w
  pub placed : (asked : ℕ) → asked ≤ level w → opens (within asked e) ≤ opens w

-- without brackets outside, e binds as w does, and gets none either
unbracketed : (w e : Written) → level e ≡ level w → opens e ≤ opens w → Narrow w e
unbracketed w e same few = record {
  alone = few;
  placed = λ asked enough. within_cases (λ x. opens x ≤ opens w) asked e
      (λ less. let never : ⊥ = omega (arith, same, enough, less) in absurd never)
      (λ _. few);
}

-- with brackets outside, e may get one pair of them
in_brackets_too : (w e : Written) → Narrow w e → Narrow (bracketed w) e
in_brackets_too w e inner = record {
  alone = omega (arith, inner.alone);
  placed = λ asked enough. within_cases (λ x. opens x ≤ opens w + 1) asked e
      (λ _. omega (arith, inner.alone))
      (λ _. omega (arith, inner.alone));
}

max_kept : (a b c d : ℕ) → a ≤ c → b ≤ d → max a b ≤ max c d
max_kept a b c d h k = omega (arith, h, k)

pub narrow : (w : Written) (places : List ℕ) → IsRegular w → Narrow w (plain (tree w places))
narrow (of_number n) places r = unbracketed (of_number n) (of_number n) refl (omega arith)
narrow (of_text text) places r = unbracketed (of_text text) (of_text text) refl (omega arith)
narrow (of_truth truth) places r = unbracketed (of_truth truth) (of_truth truth) refl (omega arith)
narrow (of_moment moment) places r = unbracketed (of_moment moment) (of_moment moment) refl (omega arith)
narrow (of_span span) places r = unbracketed (of_span span) (of_span span) refl (omega arith)
narrow (of_column column) places r = unbracketed (of_column column) (plain (tree (of_column column) places)) refl (omega arith)
narrow of_rows places r = unbracketed of_rows of_rows refl (omega arith)
narrow (of_function f a) places r =
    let inner = (narrow a (drop 2 places) r).alone in
    unbracketed (of_function f a) (plain (tree (of_function f a) places)) refl (omega (arith, inner))
narrow (bracketed a) places r = in_brackets_too a (plain (tree a (drop 1 places))) (narrow a (drop 1 places) r)
narrow (prefixed o a) places r =
    unbracketed (prefixed o a) (plain (tree (prefixed o a) places)) refl ((narrow a (drop 1 places) r.1).placed (unary_level o) r.0)
narrow (null_tested a test) places r =
    unbracketed (null_tested a test) (plain (tree (null_tested a test) places)) refl ((narrow a places r.1).placed 4 r.0)
narrow (infixed o a b) places r =
    let from_b = drop 1 (behind (words a) places) in
    unbracketed (infixed o a b) (plain (tree (infixed o a b) places)) refl
    (max_kept _ _ (opens a) (opens b) ((narrow a places r.1).placed (left_level o) r.0) ((narrow b from_b r.3).placed (right_level o) r.2))
narrow (between a b c) places r =
    let from_b = drop 1 (behind (words a) places) in
    let from_c = drop 1 (behind (words b) from_b) in
    unbracketed (between a b c) (plain (tree (between a b c) places)) refl
    (max_kept _ _ (opens a) (max (opens b) (opens c)) ((narrow a places r.1).placed 4 r.0)
    (max_kept _ _ (opens b) (opens c) ((narrow b from_b r.3).placed 4 r.2) ((narrow c from_c r.5).placed 4 r.4)))

-- heights are those of the expression, however it is written
pub height_plain : (w : Written) (places : List ℕ) → height (plain (tree w places)) ≡ height w
height_plain (of_number n) places = refl
height_plain (of_text text) places = refl
height_plain (of_truth truth) places = refl
height_plain (of_moment moment) places = refl
height_plain (of_span span) places = refl
height_plain (of_column column) places = refl
height_plain of_rows places = refl
height_plain (of_function f a) places = refl
height_plain (bracketed a) places = height_plain a (drop 1 places)
height_plain (prefixed o a) places =
    ap (λ n. n + 1) (within_height (unary_level o) (plain (tree a (drop 1 places))) ∙ height_plain a (drop 1 places))
height_plain (null_tested a test) places = ap (λ n. n + 1) (within_height 4 (plain (tree a places)) ∙ height_plain a places)
height_plain (infixed o a b) places =
    let from_b = drop 1 (behind (words a) places) in
    rw (within_height (left_level o) (plain (tree a places)), within_height (right_level o) (plain (tree b from_b)), height_plain a places, height_plain b from_b) refl
height_plain (between a b c) places =
    let from_b = drop 1 (behind (words a) places) in
    let from_c = drop 1 (behind (words b) from_b) in
    rw (within_height 4 (plain (tree a places)), within_height 4 (plain (tree b from_b)), within_height 4 (plain (tree c from_c)), height_plain a places, height_plain b from_b, height_plain c from_c) refl

pub tallest_plain : (w : Written) (places : List ℕ) → tallest (plain (tree w places)) ≡ tallest w
tallest_plain (of_number n) places = refl
tallest_plain (of_text text) places = refl
tallest_plain (of_truth truth) places = refl
tallest_plain (of_moment moment) places = refl
tallest_plain (of_span span) places = refl
tallest_plain (of_column column) places = refl
tallest_plain of_rows places = refl
tallest_plain (of_function f a) places = tallest_plain a (drop 2 places)
tallest_plain (bracketed a) places = tallest_plain a (drop 1 places)
tallest_plain (prefixed o a) places =
    let from_a = drop 1 places in
    rw (within_height (unary_level o) (plain (tree a from_a)), within_tallest (unary_level o) (plain (tree a from_a)), height_plain a from_a, tallest_plain a from_a) refl
tallest_plain (null_tested a test) places =
    rw (within_height 4 (plain (tree a places)), within_tallest 4 (plain (tree a places)), height_plain a places, tallest_plain a places) refl
tallest_plain (infixed o a b) places =
    let from_b = drop 1 (behind (words a) places) in
    rw (within_height (left_level o) (plain (tree a places)), within_height (right_level o) (plain (tree b from_b)), within_tallest (left_level o) (plain (tree a places)), within_tallest (right_level o) (plain (tree b from_b)), height_plain a places, height_plain b from_b, tallest_plain a places, tallest_plain b from_b) refl
tallest_plain (between a b c) places =
    let from_b = drop 1 (behind (words a) places) in
    let from_c = drop 1 (behind (words b) from_b) in
    rw (within_height 4 (plain (tree a places)), within_height 4 (plain (tree b from_b)), within_height 4 (plain (tree c from_c)), within_tallest 4 (plain (tree a places)), within_tallest 4 (plain (tree b from_b)), within_tallest 4 (plain (tree c from_c)), height_plain a places, height_plain b from_b, height_plain c from_c, tallest_plain a places, tallest_plain b from_b, tallest_plain c from_c) refl

-- What is printed is the expression, places aside.

within_erased : (asked : ℕ) (w : Written) (e : Expr) → ((places : List ℕ) → erased_expr (tree w places) ≡ e) → (places : List ℕ) → erased_expr (tree (within asked w) places) ≡ e
within_erased asked w e same = within_cases (λ x. (places : List ℕ) → erased_expr (tree x places) ≡ e) asked w (λ _ places. same (drop 1 places)) (λ _. same)

erased_stream_name : (stream : Option Ident) (places : List ℕ) → option_map erased_ident (option_map (λ text. record { text = text; at = first places }) (option_map (λ i. i.text) stream)) ≡ option_map erased_ident stream
erased_stream_name None places = refl
erased_stream_name (Some i) places = refl

pub erased_column_tree : (column : ColumnRef) (places : List ℕ) → erased_column (column_tree (plain_column column) places) ≡ erased_column column
erased_column_tree column places = ap (λ stream. record { stream = stream; column = erased_ident column.column }) (erased_stream_name column.stream places)

pub erased_tree : (e : Expr) (places : List ℕ) → erased_expr (tree (plain e) places) ≡ erased_expr e
erased_tree (expr.Number n at) places = refl
erased_tree (expr.Text text at) places = refl
erased_tree (expr.Truth truth at) places = refl
erased_tree (expr.Timestamp moment at) places = refl
erased_tree (expr.Interval span at) places = refl
erased_tree (expr.Column column) places = ap expr.Column (erased_column_tree column places)
erased_tree (expr.CountRows at) places = refl
erased_tree (expr.Aggregate' f at s (only a)) places = ap (λ x. expr.Aggregate' f 0 tt (only x)) (erased_tree a (drop 2 places))
erased_tree (expr.Unary' o at s (only a)) places =
    ap (λ x. expr.Unary' o 0 tt (only x)) (within_erased (unary_level o) (plain a) (erased_expr a) (erased_tree a) (drop 1 places))
erased_tree (expr.IsNull' s (only a) at test) places =
    ap (λ x. expr.IsNull' tt (only x) 0 test) (within_erased 4 (plain a) (erased_expr a) (erased_tree a) places)
erased_tree (expr.Binary' left_at s (only a) o at right_at t (only b)) places =
    let from_b = drop 1 (behind (words (within (left_level o) (plain a))) places) in
    let left = within_erased (left_level o) (plain a) (erased_expr a) (erased_tree a) places in
    let right = within_erased (right_level o) (plain b) (erased_expr b) (erased_tree b) from_b in
    λ i. expr.Binary' 0 tt (only (left i)) o 0 0 tt (only (right i))
erased_tree (expr.Between' s (only a) at t (only b) u (only c)) places =
    let from_b = drop 1 (behind (words (within 4 (plain a))) places) in
    let from_c = drop 1 (behind (words (within 4 (plain b))) from_b) in
    let operand = within_erased 4 (plain a) (erased_expr a) (erased_tree a) places in
    let low = within_erased 4 (plain b) (erased_expr b) (erased_tree b) from_b in
    let high = within_erased 4 (plain c) (erased_expr c) (erased_tree c) from_c in
    λ i. expr.Between' tt (only (operand i)) 0 tt (only (low i)) tt (only (high i))
