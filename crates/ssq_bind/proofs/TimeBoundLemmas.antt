-- The bound of a join lies around the left row's time.
use Rattle.std.proofs.Common.{◌≡◌, ◌∙◌, refl, sym, ap, subst, arith, ℕ, ℤ, pos, negsuc, true, false, ◌&&◌, List, map, drop, Option, Some, None, IfSome}
use Rattle.std.specs.Prelude.{◌≤ℤ◌, neg_ℤ, slice_get, FitsSigned}
use Rattle.std.specs.Int.{w64, int_wrapping_neg}
use Rattle.std.specs.List.{AllByRecursion, flat_map}
use Rattle.std.specs.Option.{option_map}
use Rattle.std.proofs.lemmas.Int.{ints, int_wrap_fits, wrapping_neg_is}
use Rattle.ssq_value.specs.declared.column.ColType.{ColType}
use Rattle.ssq_time.specs.Time.{IsSpan}
use Rattle.ssq_shape.specs.declared.bound.Bound.{Bound}
use Rattle.ssq_ast.specs.declared.expr.BinaryOp.{BinaryOp}
use Rattle.ssq_ast.specs.declared.expr.BinaryOp.TheVariants as op
use Rattle.ssq_ast.specs.declared.expr.ColumnRef.{ColumnRef}
use Rattle.ssq_ast.specs.declared.expr.Expr.{Expr}
use Rattle.ssq_ast.specs.declared.expr.Expr.TheVariants as expr
use Rattle.ssq_ast.specs.declared.query.Join.{Join}
use Rattle.ssq_ast.specs.declared.query.Query.{Query}
use Rattle.ssq_ast.specs.Expression as written
use Rattle.ssq_ast.specs.Expression.{Written, IsRegular, only, tree, behind, words}
use Rattle.ssq_ast.specs.Statement.{WrittenJoin, WrittenSelect, WrittenQuery, IsFit, separated, declared_words, distinct_words, item_words, kind_words, join_tree, query_tree, IsRegularQuery}
use Rattle.ssq_check.specs.declared.scope.Scope.{Scope}
use Rattle.ssq_check.specs.declared.scope.Spot.{Spot}
use Rattle.ssq_check.specs.declared.scope.Within.TheVariants as within
use Rattle.ssq_check.specs.declared.joined.Edge.TheVariants as edge
use Rattle.ssq_check.specs.Fault.{AreNone}
use Rattle.ssq_check.specs.Joined.{Conjunct, conjuncts, is_and, is_edge, looked, bare_column, if_so, edge_column, low_column, high_column, is_bound, are_bound, BoundFaults}
use Rattle.ssq_check.specs.Names.{is_there, row_scope}
use Rattle.ssq_check.specs.Rules.{kind, of_one, together, is_interval, operator_kind, operands_of}
use Rattle.ssq_check.specs.Sound.{IsSoundJoin, IsSound}
use Rattle.ssq_check.specs.Whole.{QueryFaults}
use Rattle.ssq_check.proofs.SoundLemmas.{sound_where_none}
use Rattle.ssq_bind.specs.declared.context.Context.{Context}
use Rattle.ssq_bind.specs.Bound.{context_of, bound_of}
use Rattle.ssq_bind.specs.Joins.{or_none, span_of, bound_by, bounds_in}
use Rattle.ssq_bind.specs.TimeBounds.{LiesAround, HasTimeBoundBy, HasTimeBound, HasTimeBoundIfWritten, TimeBoundsLieAround}
use Rattle.ssq_bind.specs.Value.{shift_of}
use Rattle.ssq_bind.proofs.EachPart.{parts_have, first_has}
use Rattle.ssq_bind.proofs.EachShape.{shape_has, if_some_at}
use Rattle.ssq_bind.proofs.OnLemmas.{value_in, values_are}
use Rattle.ssq_bind.proofs.SpanLemmas.{text_is}

-- ---- what is written

-- each span that stands in it by itself or under an operator of two sides or BETWEEN is one
abbrev HasSpans : Expr → Type 0
HasSpans (expr.Interval span at) = IsSpan span.micros
HasSpans (expr.Binary' left_at p (only a) o at right_at q (only b)) = HasSpans a × HasSpans b
HasSpans (expr.Between' p (only a) at q (only b) r (only c)) = HasSpans a × HasSpans b × HasSpans c
HasSpans _ = Unit {0}

tree_has : (value : Written) (places : List ℕ) → IsRegular value → HasSpans (tree value places)
tree_has (written.of_number n) places is = tt
tree_has (written.of_text text) places is = tt
tree_has (written.of_truth truth) places is = tt
tree_has (written.of_moment moment) places is = tt
tree_has (written.of_span span) places is = text_is span.text span.micros is
tree_has (written.of_column column) places is = tt
tree_has written.of_rows places is = tt
tree_has (written.of_function f argument) places is = tt
tree_has (written.bracketed inner) places is = tree_has inner (drop 1 places) is
tree_has (written.prefixed o operand) places is = tt
tree_has (written.null_tested operand test) places is = tt
tree_has (written.infixed o left right) places is = (tree_has left places is.1, tree_has right (drop 1 (behind (words left) places)) is.3)
tree_has (written.between operand low high) places is =
    let from_between : List ℕ = behind (words operand) places in
    let from_and : List ℕ = behind (words low) (drop 1 from_between) in
    (tree_has operand places is.1, tree_has low (drop 1 from_between) is.3, tree_has high (drop 1 from_and) is.5)

-- ---- the sides

none_there : false ≡ true → ⊥
none_there is = absurd cc

fits : (z : ℤ) → IsSpan z → FitsSigned w64 z
fits (pos m) is = record { sfits = grind (arith, ints, is.1) }
fits (negsuc m) is = absurd (grind (arith, ints, is.0))

fits_below : (z : ℤ) → IsSpan z → FitsSigned w64 (neg_ℤ z)
fits_below z is = record { sfits = grind (arith, ints, is.0, is.1) }

taken : (span : ℤ) → IsSpan span → int_wrapping_neg w64 span ≤ℤ pos 0
taken span is =
    subst (λ (z : ℤ). z ≤ℤ pos 0) (sym (wrapping_neg_is w64 span (fits span is) ∙ int_wrap_fits w64 (neg_ℤ span) (fits_below span is))) (grind (arith, ints, is.0))

put : (span : ℤ) → IsSpan span → pos 0 ≤ℤ span
put span is = grind (arith, ints, is.0)

no_low : pos 0 ≤ℤ pos 0
no_low = grind (arith, ints)

subtracted : (b : Expr) → HasSpans b → or_none (shift_of op.Subtract b) ≤ℤ pos 0
unfolding shift_of
subtracted (expr.Interval span at) has = taken span.micros has
subtracted _ has = no_low

added : (b : Expr) → HasSpans b → pos 0 ≤ℤ or_none (shift_of op.Add b)
unfolding shift_of
added (expr.Interval span at) has = put span.micros has
added _ has = no_low

low_by : (a b : Expr) (o : BinaryOp) → HasSpans b → is_there (if_so (is_edge edge.Low o && is_interval b) (bare_column a)) ≡ true → or_none (shift_of o b) ≤ℤ pos 0
low_by a b op.Subtract has there = subtracted b has
low_by a b _ has there = absurd (none_there there)

high_by : (a b : Expr) (o : BinaryOp) → HasSpans b → is_there (if_so (is_edge edge.High o && is_interval b) (bare_column a)) ≡ true → pos 0 ≤ℤ or_none (shift_of o b)
high_by a b op.Add has there = added b has
high_by a b _ has there = absurd (none_there there)

low_side : (e : Expr) → HasSpans e → is_there (low_column e) ≡ true → span_of e ≤ℤ pos 0
unfolding edge_column span_of
low_side (expr.Binary' left_at p (only a) o at right_at q (only b)) has there = low_by a b o has.1 there
low_side _ has there = no_low

high_side : (e : Expr) → HasSpans e → is_there (high_column e) ≡ true → pos 0 ≤ℤ span_of e
unfolding edge_column span_of
high_side (expr.Binary' left_at p (only a) o at right_at q (only b)) has there = high_by a b o has.1 there
high_side _ has there = no_low

pub sides_there : (scope : Scope) (r low high : Option Spot) → are_bound scope r low high ≡ true → (is_there low ≡ true) × (is_there high ≡ true)
sides_there scope (Some r) (Some low) (Some high) is = (refl, refl)
sides_there scope (Some r) (Some low) None is = absurd cc
sides_there scope (Some r) None high is = absurd cc
sides_there scope None low high is = absurd cc

pub column_there : (scope : Scope) (o : Option ColumnRef) → is_there (looked scope o) ≡ true → is_there o ≡ true
column_there scope None is = is
column_there scope (Some column) is = refl

bound_lies : (names rows : Scope) (a b c : Expr) → HasSpans b → HasSpans c → is_bound rows a b c ≡ true → LiesAround (bound_by names a b c)
bound_lies names rows a b c low high is =
    let there = sides_there rows (looked rows (bare_column a)) (looked rows (low_column b)) (looked rows (high_column c)) is in
    record {
      lo = low_side b low (column_there rows (low_column b) there.0);
      hi = high_side c high (column_there rows (high_column c) there.1);
    }

-- ---- the parts of ON

-- each has a type, and its spans are spans
abbrev IsTyped : Scope → Expr → Type 0
IsTyped scope e = (is_there (kind scope within.Row e) ≡ true) × HasSpans e

abbrev IsPart : Scope → Conjunct → Type 0
IsPart scope part = IsTyped scope part.value

and_kinds : (a b : Option ColType) → is_there (of_one (λ pair. operator_kind (operands_of op.And) pair.0 pair.1) (together a b)) ≡ true → (is_there a ≡ true) × (is_there b ≡ true)
and_kinds (Some a) (Some b) is = (refl, refl)
and_kinds (Some a) None is = absurd (none_there is)
and_kinds None b is = absurd (none_there is)

module _ (rows : Scope) where
  both_typed : (a b : Expr) (o : BinaryOp) (left_at at right_at : ℕ) → is_and o ≡ true → is_there (kind rows within.Row (expr.Binary' left_at tt (only a) o at right_at tt (only b))) ≡ true
      → (is_there (kind rows within.Row a) ≡ true) × (is_there (kind rows within.Row b) ≡ true)
  unfolding kind
  both_typed a b op.And left_at at right_at joins is = and_kinds (kind rows within.Row a) (kind rows within.Row b) is
  both_typed a b _ left_at at right_at joins is = absurd cc

  parts_are : (at : ℕ) (e : Expr) → is_there (kind rows within.Row e) ≡ true → HasSpans e → AllByRecursion (IsPart rows) (conjuncts at e)
  parts_are at e is has =
      parts_have (IsTyped rows)
      (λ a b o left_at own right_at joins whole. let typed = both_typed a b o left_at own right_at joins whole.0 in ((typed.0, whole.1.0), (typed.1, whole.1.1)))
      at e (is, has)

  first_lies : (context : Context) (parts : List Conjunct) → AllByRecursion (IsPart rows) parts → AreNone (BoundFaults rows parts)
      → IfSome (slice_get (flat_map (bounds_in context) (map value_in parts)) 0) LiesAround
  first_lies context = first_has rows context.scope (IsTyped rows) LiesAround (λ e is. is.0) (λ a b c at is may. bound_lies context.scope rows a b c is.1.1 is.1.2 may)

-- ---- the whole

some_there : (o : Option ColType) (own : ColType) → o ≡ Some own → is_there o ≡ true
some_there o own is = ap is_there is

query_has : (query : Query) → IfSome query.select.join (λ (own : Join). HasSpans own.on.value) → IsSound query → HasTimeBound (bound_of query)
unfolding bound_of
query_has query spans sound =
    let rows : Scope = row_scope query in
    shape_has HasTimeBoundBy query
    (λ grouped. tt)
    (λ join is.
    let own : IsSoundJoin rows query.select.from.text join = if_some_at (IsSoundJoin rows query.select.from.text) query.select.join join sound.join is in
    let has : HasSpans join.on.value = if_some_at (λ (own : Join). HasSpans own.on.value) query.select.join join spans is in
    subst (λ (es : List Expr). IfSome (slice_get (flat_map (bounds_in (context_of query)) es) 0) LiesAround) (values_are join.on.at join.on.value)
    (first_lies rows (context_of query) (conjuncts join.on.at join.on.value) (parts_are rows join.on.at join.on.value (some_there _ _ own.condition) has) own.bound))
    (λ own none is. tt)
    (λ none. tt)

written_on : (join : Option WrittenJoin) (places : List ℕ) → IfSome join (λ (own : WrittenJoin). IsFit own.on) → IfSome (option_map (λ own. join_tree own places) join) (λ (own : Join). HasSpans own.on.value)
written_on None places is = tt
written_on (Some join) places is = tree_has join.on (drop 1 (drop 2 (behind (kind_words join.kind join.has_word) places))) is.regular

-- the places from JOIN on
abbrev from_join : WrittenSelect → List ℕ → List ℕ
from_join select places = drop 2 (behind (separated (map item_words select.items)) (behind (distinct_words select.distinct) (drop 1 places)))

written_query : (query : WrittenQuery) (places : List ℕ) → IsRegularQuery IsFit query → IfSome (query_tree query places).select.join (λ (own : Join). HasSpans own.on.value)
written_query query places is = written_on query.select.join (from_join query.select (behind (flat_map declared_words query.streams) places)) is.select.on

pub time_bounds_lie_around : TimeBoundsLieAround
time_bounds_lie_around query none tokens is =
    query_has query (subst (λ (made : Query). IfSome made.select.join (λ (own : Join). HasSpans own.on.value)) is.meant (written_query is.written (map (λ token. token.start) tokens) is.regular)) (sound_where_none query none)

-- the same of an equal bound query
pub time_bound_if_written : (query : Query) (bound : Bound) → bound ≡ bound_of query → AreNone (QueryFaults query) → HasTimeBoundIfWritten query bound
time_bound_if_written query bound is none tokens written = subst HasTimeBound (sym is) (time_bounds_lie_around query none tokens written)
