-- The parts of ON: those that are checked are those that are bound, and as many are key equalities.
use Rattle.std.proofs.Common.{◌≡◌, ◌∙◌, refl, sym, subst, arith, ℕ, ◌≤◌, Bool, true, false, ◌&&◌, List, [], ◌∷◌, ◌++◌, map, filter, length, Option, Some, None}
use Rattle.std.specs.Prelude.{if◌then◌else◌}
use Rattle.std.specs.List.{flat_map}
use Rattle.std.proofs.lemmas.List.{length-append, map-append}
use Rattle.ssq_shape.specs.declared.bound.KeyPair.{KeyPair}
use Rattle.ssq_ast.specs.declared.expr.ColumnRef.{ColumnRef}
use Rattle.ssq_ast.specs.declared.expr.Expr.{Expr}
use Rattle.ssq_ast.specs.declared.expr.Expr.TheVariants as expr
use Rattle.ssq_ast.specs.declared.expr.Ident.{Ident}
use Rattle.ssq_ast.specs.declared.query.Query.{Query}
use Rattle.ssq_ast.specs.Expression.{only}
use Rattle.ssq_check.specs.declared.scope.Spot.{Spot}
use Rattle.ssq_check.specs.Joined.{Conjunct, conjuncts, is_and, is_equal, is_pair, are_across, spot_by, spot_in, looked, bare_column, is_key_equality, key_places}
use Rattle.ssq_check.specs.Names.{row_scope, scope_of}
use Rattle.ssq_bind.specs.Bound.{context_of}
use Rattle.ssq_bind.specs.Joins.{parts_of, pair_by, pair_if, pair_of, key_pair, keys_in}
use Rattle.ssq_bind.specs.Lists.{listed}

abbrev pub value_in : Conjunct → Expr
value_in part = part.value

pub values_are : (at : ℕ) (e : Expr) → map value_in (conjuncts at e) ≡ parts_of e
unfolding conjuncts parts_of
values_are at (expr.Aggregate' f own p (only x)) = refl
values_are at (expr.Unary' o own p (only x)) = refl
values_are at (expr.IsNull' p (only x) own test) = refl
values_are at (expr.Between' p (only a) own q (only b) r (only c)) = refl
values_are at (expr.Binary' left_at p (only a) o own right_at q (only b)) =
    by (is_and o) (expr.Binary' left_at p (only a) o own right_at q (only b)) (conjuncts left_at a) (conjuncts right_at b) (parts_of a) (parts_of b) (values_are left_at a) (values_are right_at b)
  where
    by : (joins : Bool) (whole : Expr) (left right : List Conjunct) (xs ys : List Expr) → map value_in left ≡ xs → map value_in right ≡ ys
        → map value_in (if joins then left ++ right else record { at = at; value = whole } ∷ []) ≡ (if joins then xs ++ ys else whole ∷ [])
    by true whole left right xs ys one two = map-append value_in left right ∙ (λ i. one i ++ two i)
    by false whole left right xs ys one two = refl
values_are at _ = refl

-- ---- key equalities

one_at_most : (o : Option KeyPair) → length (listed o) ≤ 1
one_at_most None = omega arith
one_at_most (Some pair) = omega arith

pair_is_one : (equal : Bool) (a b : Option Spot) → length (listed (pair_if equal (if are_across a b then a else None) b)) ≤ (if equal && are_across a b then 1 else 0)
pair_is_one false a b = omega arith
pair_is_one true a b = by (are_across a b)
  where
    by : (across : Bool) → length (listed (pair_by (if across then a else None) b)) ≤ (if across then 1 else 0)
    by true = one_at_most (pair_by a b)
    by false = omega arith

abbrev place_in : Conjunct → ℕ
place_in part = part.at

one_more : (is_one : Bool) (xs ys : List KeyPair) (part : Conjunct) (parts : List Conjunct) → length xs ≤ (if is_one then 1 else 0) → length ys ≤ length (map place_in parts)
    → length (xs ++ ys) ≤ length (map place_in (if is_one then part ∷ parts else parts))
one_more true xs ys part parts one more = omega (arith, one, more, length-append xs ys)
one_more false xs ys part parts one more = omega (arith, one, more, length-append xs ys)

module _ (query : Query) where
  -- names of columns mean the same where groups have names too
  pub same_spot : (o : Option ColumnRef) → looked (scope_of query) o ≡ looked (row_scope query) o
  same_spot None = refl
  same_spot (Some column) = by column.stream
    where
      by : (stream : Option Ident) → spot_in (spot_by (scope_of query) stream column.column) ≡ spot_in (spot_by (row_scope query) stream column.column)
      by None = refl
      by (Some stream) = refl

  pair_one : (e : Expr) → length (listed (key_pair (scope_of query) e)) ≤ (if is_key_equality (row_scope query) e then 1 else 0)
  unfolding key_pair is_key_equality
  pair_one (expr.Binary' left_at p (only a) o own right_at q (only b)) =
      subst (λ (x : Option Spot). length (listed (pair_of o x (looked (scope_of query) (bare_column b)))) ≤ (if is_pair (row_scope query) o a b then 1 else 0)) (sym (same_spot (bare_column a)))
      (subst (λ (y : Option Spot). length (listed (pair_of o (looked (row_scope query) (bare_column a)) y)) ≤ (if is_pair (row_scope query) o a b then 1 else 0)) (sym (same_spot (bare_column b)))
      (pair_is_one (is_equal o) (looked (row_scope query) (bare_column a)) (looked (row_scope query) (bare_column b))))
  pair_one _ = omega arith

  as_few_pairs : (parts : List Conjunct) → length (flat_map (keys_in (context_of query)) (map value_in parts)) ≤ length (key_places (row_scope query) parts)
  unfolding context_of
  as_few_pairs [] = omega arith
  as_few_pairs (part ∷ parts) =
      one_more (is_key_equality (row_scope query) part.value) (listed (key_pair (scope_of query) part.value)) (flat_map (keys_in (context_of query)) (map value_in parts)) part (filter (λ (own : Conjunct). is_key_equality (row_scope query) own.value) parts)
      (pair_one part.value) (as_few_pairs parts)

  -- ON has no more key equalities than were counted
  pub few_pairs : (at : ℕ) (e : Expr) → length (key_places (row_scope query) (conjuncts at e)) ≤ 64 → length (flat_map (keys_in (context_of query)) (parts_of e)) ≤ 64
  few_pairs at e few =
      let own : length (flat_map (keys_in (context_of query)) (map value_in (conjuncts at e))) ≤ 64 = (let fewer = as_few_pairs (conjuncts at e) in omega (arith, few, fewer)) in
      subst (λ (es : List Expr). length (flat_map (keys_in (context_of query)) es) ≤ 64) (values_are at e) own
