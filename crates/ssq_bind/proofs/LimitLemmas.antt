-- Groups, repeats and joins keep their limits.
use Rattle.std.proofs.Common.{◌≡◌, sym, subst, arith, ℕ, ◌≤◌, List, [], ◌∷◌, ◌++◌, map, length, Option, Some, None}
use Rattle.std.specs.Prelude.{IfSome}
use Rattle.std.specs.List.{flat_map}
use Rattle.std.proofs.lemmas.List.{length-append, length-map}
use Rattle.ssq_shape.specs.declared.bound.Aggregate.{Aggregate}
use Rattle.ssq_shape.specs.declared.bound.Bound.{Bound}
use Rattle.ssq_ast.specs.declared.expr.Expr.{Expr}
use Rattle.ssq_ast.specs.declared.expr.Expr.TheVariants as expr
use Rattle.ssq_ast.specs.declared.query.Condition.{Condition}
use Rattle.ssq_ast.specs.declared.query.GroupBy.{GroupBy}
use Rattle.ssq_ast.specs.declared.query.Item.{Item}
use Rattle.ssq_ast.specs.declared.query.Item.TheVariants as item
use Rattle.ssq_ast.specs.declared.query.Query.{Query}
use Rattle.ssq_ast.specs.Expression.{only}
use Rattle.ssq_check.specs.declared.scope.Scope.{Scope}
use Rattle.ssq_check.specs.declared.scope.Within.{Within}
use Rattle.ssq_check.specs.declared.scope.Within.TheVariants as within
use Rattle.ssq_check.specs.Fault.{AreNone}
use Rattle.ssq_check.specs.Names.{row_scope}
use Rattle.ssq_check.specs.Shown as places
use Rattle.ssq_check.specs.Shown.{shown_within}
use Rattle.ssq_check.specs.Sound.{IsSoundJoin, IsSoundDeduplicate, IsSoundGroup, IsSound}
use Rattle.ssq_check.specs.Whole.{QueryFaults}
use Rattle.ssq_check.proofs.SoundLemmas.{sound_where_none}
use Rattle.ssq_bind.specs.declared.context.Context.{Context}
use Rattle.ssq_bind.specs.Bound.{context_of, select_aggregates, shown_of, bound_of}
use Rattle.ssq_bind.specs.Limits.{IsLimitedBy, HasLimits, GroupsAreLimited}
use Rattle.ssq_bind.specs.Shapes.{bare_index, item_aggregates, having_aggregates, group_items, key_of}
use Rattle.ssq_bind.specs.Value.{given, aggregates_of}
use Rattle.ssq_bind.proofs.EachShape.{shape_has, if_some_at}
use Rattle.ssq_bind.proofs.OnLemmas.{few_pairs}

-- ---- the keys are the parts of GROUP BY

few_keys : (names rows : Scope) (by : Option GroupBy) → IfSome by (IsSoundGroup rows) → length (map (key_of names) (group_items by)) ≤ 64
few_keys names rows None sound = omega arith
few_keys names rows (Some by) sound = subst (λ (n : ℕ). n ≤ 64) (sym (length-map by.items (key_of names))) sound.few

-- ---- the aggregates stand at the places that are counted

both_few : {A B : Type 0} (xs ys : List A) (us vs : List B) → length xs ≤ length us → length ys ≤ length vs → length (xs ++ ys) ≤ length (us ++ vs)
both_few xs ys us vs first second = omega (arith, first, second, length-append xs ys, length-append us vs)

one_few : (w : Within) (aggregate : Aggregate) (at : ℕ) → length (given w aggregate) ≤ length (at ∷ [])
one_few within.Row aggregate at = omega arith
one_few within.Group aggregate at = omega arith

module _ (context : Context) (w : Within) where
  as_few : (e : Expr) → length (aggregates_of context w e) ≤ length (places.aggregates e)
  unfolding aggregates_of places.aggregates
  as_few (expr.CountRows at) = one_few w _ at
  as_few (expr.Aggregate' f at p (only x)) = one_few w _ at
  as_few (expr.Unary' o at p (only x)) = as_few x
  as_few (expr.IsNull' p (only x) at test) = as_few x
  as_few (expr.Binary' left_at p (only a) o at right_at q (only b)) =
      both_few (aggregates_of context w a) (aggregates_of context w b) (places.aggregates a) (places.aggregates b) (as_few a) (as_few b)
  as_few (expr.Between' p (only a) at q (only b) r (only c)) =
      both_few (aggregates_of context w a) (aggregates_of context w b ++ aggregates_of context w c) (places.aggregates a) (places.aggregates b ++ places.aggregates c)
      (as_few a) (both_few (aggregates_of context w b) (aggregates_of context w c) (places.aggregates b) (places.aggregates c) (as_few b) (as_few c))
  as_few _ = omega arith

  item_few : (x : Item) → length (item_aggregates context w x) ≤ length (places.item_aggregates x)
  item_few (item.Column column at named_at) = omega arith
  item_few (item.Named e at label) = as_few e

  items_few : (xs : List Item) → length (flat_map (item_aggregates context w) xs) ≤ length (flat_map places.item_aggregates xs)
  items_few [] = omega arith
  items_few (x ∷ xs) =
      both_few (item_aggregates context w x) (flat_map (item_aggregates context w) xs) (places.item_aggregates x) (flat_map places.item_aggregates xs) (item_few x) (items_few xs)

  having_few : (having : Option Condition) → length (having_aggregates context w having) ≤ length (places.having_aggregates having)
  having_few None = omega arith
  having_few (Some condition) = as_few condition.value

few_aggregates : (query : Query) → length (places.shown_aggregates query) ≤ 64 → length (shown_of query).aggregates ≤ 64
unfolding shown_of select_aggregates
few_aggregates query few =
    let context : Context = context_of query in
    let w : Within = shown_within query in
    let items : List Item = query.select.items in
    let having : Option Condition = query.select.having in
    let fewer = both_few (flat_map (item_aggregates context w) items) (having_aggregates context w having) (flat_map places.item_aggregates items) (places.having_aggregates having)
    (items_few context w items) (having_few context w having) in
    omega (arith, few, fewer)

-- ---- the whole

query_has : (query : Query) → IsSound query → HasLimits (bound_of query)
unfolding bound_of
query_has query sound =
    shape_has IsLimitedBy query
    (λ grouped. record { keys = few_keys (context_of query).scope (row_scope query) query.select.group sound.group; aggregates = few_aggregates query sound.few_aggregates })
    (λ join is. few_pairs query join.on.at join.on.value (if_some_at (IsSoundJoin (row_scope query) query.select.from.text) query.select.join join sound.join is).few_keys)
    (λ own none is. subst (λ (n : ℕ). n ≤ 64) (sym (length-map own.columns (bare_index (context_of query).scope))) (if_some_at (IsSoundDeduplicate (row_scope query)) query.select.deduplicate own sound.deduplicate is).few)
    (λ none. tt)

pub groups_are_limited : GroupsAreLimited
groups_are_limited query none = query_has query (sound_where_none query none)

-- the same of an equal bound query
pub limits_if_unbroken : (query : Query) (bound : Bound) → bound ≡ bound_of query → AreNone (QueryFaults query) → HasLimits bound
limits_if_unbroken query bound is none = subst HasLimits (sym is) (groups_are_limited query none)
