-- The bound query that a query is doesn't depend on places.
use Rattle.std.proofs.Common.{◌≡◌, ◌∙◌, ap, sym, refl, ℕ, ◌+◌, List, [], ◌∷◌, ◌++◌, map, length, Option, Some, None}
use Rattle.std.specs.Prelude.{if◌then◌else◌, slice_get}
use Rattle.std.specs.List.{flat_map}
use Rattle.std.specs.Option.{option_map}
use Rattle.std.specs.Str.{bytes_eq}
use Rattle.std.proofs.lemmas.List.{map-append}
use Rattle.ssq_value.specs.declared.column.ColType.TheVariants as type
use Rattle.ssq_shape.specs.declared.bound.GroupKey.TheVariants as group_key
use Rattle.ssq_shape.specs.declared.bound.Shape.TheVariants as shape
use Rattle.ssq_ast.specs.declared.expr.ColumnRef.{ColumnRef}
use Rattle.ssq_ast.specs.declared.expr.Expr.{Expr}
use Rattle.ssq_ast.specs.declared.expr.Expr.TheVariants as expr
use Rattle.ssq_ast.specs.declared.query.Condition.{Condition}
use Rattle.ssq_ast.specs.declared.query.Deduplicate.{Deduplicate}
use Rattle.ssq_ast.specs.declared.query.Group.{Group}
use Rattle.ssq_ast.specs.declared.query.Group.TheVariants as group
use Rattle.ssq_ast.specs.declared.query.GroupBy.{GroupBy}
use Rattle.ssq_ast.specs.declared.query.Item.{Item}
use Rattle.ssq_ast.specs.declared.query.Item.TheVariants as item
use Rattle.ssq_ast.specs.declared.query.Join.{Join}
use Rattle.ssq_ast.specs.declared.query.OrderBy.{OrderBy}
use Rattle.ssq_ast.specs.declared.query.Query.{Query}
use Rattle.ssq_ast.specs.Expression.{only, erased_ident, erased_column, erased_expr}
use Rattle.ssq_ast.specs.Places.{erased_item, erased_condition, erased_join, erased_deduplicate, erased_group_item, erased_group, erased_order, erased}
use Rattle.ssq_check.specs.declared.scope.Scope.{Scope}
use Rattle.ssq_check.specs.declared.scope.Within.{Within}
use Rattle.ssq_check.specs.declared.scope.Within.TheVariants as within
use Rattle.ssq_check.specs.Clauses.{slide_of}
use Rattle.ssq_check.specs.Lists.{item_name}
use Rattle.ssq_check.specs.Names.{is_there}
use Rattle.ssq_check.specs.Shown as places
use Rattle.ssq_check.specs.Shown.{aggregates, shown_aggregates, group_place_by, is_group, within_by, shown_within}
use Rattle.ssq_check.proofs.Erased.{kind_stays}
use Rattle.ssq_bind.specs.declared.context.Context.{Context}
use Rattle.ssq_bind.specs.Bound.{context_of, select_aggregates, shown_of, grouping_of, kept_by, shape_of, mode_of, filter_value, bound_of}
use Rattle.ssq_bind.specs.Places.{PlacesAreIgnored}
use Rattle.ssq_bind.specs.Shapes.{item_value, item_aggregates, kind_or_bigint, spot_kind, column_type, item_kind, item_column, shown_key, output_of, outputs_of, order_of, is_output, sort_key, group_items, bare_index, key_of, having_value, having_aggregates}
use Rattle.ssq_bind.specs.Value.{or_zero}
use Rattle.ssq_bind.proofs.SameNames.{map_same, maybe_same, flat_same, position_same, streams_same, spot_same, index_same, context_same, window_same, key_index_same}
use Rattle.ssq_bind.proofs.SameText.{text_same}
use Rattle.ssq_bind.proofs.SameValues.{column_same, value_same, aggregates_same, bare_column_same, joining_same}

-- ---- whether rows are grouped

abbrev nowhere : List ℕ → List ℕ
nowhere places = map (λ (at : ℕ). 0) places

both_nowhere : (a b c d : List ℕ) → a ≡ nowhere c → b ≡ nowhere d → a ++ b ≡ nowhere (c ++ d)
both_nowhere a b c d one two = (λ i. one i ++ two i) ∙ sym (map-append (λ (at : ℕ). 0) c d)

found_same : (e : Expr) → aggregates (erased_expr e) ≡ nowhere (aggregates e)
unfolding aggregates
found_same (expr.Aggregate' f at p (only x)) = refl
found_same (expr.Unary' u at p (only x)) = found_same x
found_same (expr.IsNull' p (only x) at test) = found_same x
found_same (expr.Binary' left_at p (only a) u at right_at q (only b)) = both_nowhere (aggregates (erased_expr a)) (aggregates (erased_expr b)) (aggregates a) (aggregates b) (found_same a) (found_same b)
found_same (expr.Between' p (only a) at q (only b) r (only c)) =
    both_nowhere (aggregates (erased_expr a)) (aggregates (erased_expr b) ++ aggregates (erased_expr c)) (aggregates a) (aggregates b ++ aggregates c) (found_same a)
    (both_nowhere (aggregates (erased_expr b)) (aggregates (erased_expr c)) (aggregates b) (aggregates c) (found_same b) (found_same c))
found_same _ = refl

item_found : (x : Item) → places.item_aggregates (erased_item x) ≡ nowhere (places.item_aggregates x)
item_found (item.Column column at named_at) = refl
item_found (item.Named e at label) = found_same e

items_found : (items : List Item) → flat_map places.item_aggregates (map erased_item items) ≡ nowhere (flat_map places.item_aggregates items)
items_found [] = refl
items_found (x ∷ xs) =
    both_nowhere (places.item_aggregates (erased_item x)) (flat_map places.item_aggregates (map erased_item xs)) (places.item_aggregates x) (flat_map places.item_aggregates xs) (item_found x) (items_found xs)

having_found : (having : Option Condition) → places.having_aggregates (option_map erased_condition having) ≡ nowhere (places.having_aggregates having)
having_found None = refl
having_found (Some condition) = found_same condition.value

all_found : (query : Query) → shown_aggregates (erased query) ≡ nowhere (shown_aggregates query)
all_found query = both_nowhere _ _ (flat_map places.item_aggregates query.select.items) (places.having_aggregates query.select.having) (items_found query.select.items) (having_found query.select.having)

first_there : (found : List ℕ) → is_there (slice_get (nowhere found) 0) ≡ is_there (slice_get found 0)
first_there [] = refl
first_there (at ∷ more) = refl

grouped_there : (by : Option GroupBy) (found : List ℕ) → is_there (group_place_by (option_map erased_group by) (nowhere found)) ≡ is_there (group_place_by by found)
grouped_there None found = first_there found
grouped_there (Some by) found = refl

group_same : (query : Query) → is_group (erased query) ≡ is_group query
group_same query = ap (λ found. is_there (group_place_by (option_map erased_group query.select.group) found)) (all_found query) ∙ grouped_there query.select.group (shown_aggregates query)

within_same : (query : Query) → shown_within (erased query) ≡ shown_within query
within_same query = ap within_by (group_same query)

-- ---- SELECT and HAVING

module _ (context : Context) (w : Within) where
  item_value_same : (n : ℕ) (x : Item) → item_value context w n (erased_item x) ≡ item_value context w n x
  item_value_same n (item.Column column at named_at) = column_same context w column
  item_value_same n (item.Named e at label) = value_same context w n e

  item_aggregates_same : (x : Item) → item_aggregates context w (erased_item x) ≡ item_aggregates context w x
  item_aggregates_same (item.Column column at named_at) = refl
  item_aggregates_same (item.Named e at label) = aggregates_same context w e

name_same : (x : Item) → item_name (erased_item x) ≡ item_name x
name_same (item.Column column at named_at) = refl
name_same (item.Named e at label) = refl

column_kind_same : (scope : Scope) (w : Within) (column : ColumnRef) → column_type scope w (erased_column column) ≡ column_type scope w column
column_kind_same scope within.Row column = ap spot_kind (spot_same scope column)
column_kind_same scope within.Group column = λ i. if window_same scope column i then Some type.Timestamp else spot_kind (spot_same scope column i)

item_kind_same : (scope : Scope) (w : Within) (x : Item) → item_kind scope w (erased_item x) ≡ item_kind scope w x
item_kind_same scope w (item.Column column at named_at) = column_kind_same scope w column
item_kind_same scope w (item.Named e at label) = kind_stays scope w e

item_column_same : (context : Context) (x : Item) → item_column (erased_item x) ≡ option_map erased_column (item_column x)
item_column_same context (item.Column column at named_at) = refl
item_column_same context (item.Named e at label) = bare_column_same context e

shown_key_by : (scope : Scope) (w : Within) (column : Option ColumnRef) → shown_key scope w (option_map erased_column column) ≡ shown_key scope w column
shown_key_by scope within.Row column = refl
shown_key_by scope within.Group None = refl
shown_key_by scope within.Group (Some column) = key_index_same scope column

module _ (context : Context) (w : Within) where
  shown_key_same : (x : Item) → shown_key context.scope w (item_column (erased_item x)) ≡ shown_key context.scope w (item_column x)
  shown_key_same x = ap (shown_key context.scope w) (item_column_same context x) ∙ shown_key_by context.scope w (item_column x)

  output_same : (n : ℕ) (x : Item) → output_of context w n (erased_item x) ≡ output_of context w n x
  output_same n x = λ i. record {
    name = name_same x i;
    kind = kind_or_bigint (item_kind_same context.scope w x i);
    value = item_value_same context w n x i;
    key = shown_key_same x i;
  }

  outputs_same : (n : ℕ) (items : List Item) → outputs_of context w n (map erased_item items) ≡ outputs_of context w n items
  unfolding outputs_of
  outputs_same n [] = refl
  outputs_same n (x ∷ xs) = λ i. output_same n x i
      ∷ ((λ j. outputs_of context w (n + length (item_aggregates_same context w x j)) (map erased_item xs)) ∙ outputs_same (n + length (item_aggregates context w x)) xs) i

  having_value_same : (n : ℕ) (having : Option Condition) → option_map (having_value context w n) (option_map erased_condition having) ≡ option_map (having_value context w n) having
  having_value_same n having = maybe_same (having_value context w n) erased_condition (having_value context w n) (λ condition. value_same context w n condition.value) having

  having_found_same : (having : Option Condition) → having_aggregates context w (option_map erased_condition having) ≡ having_aggregates context w having
  having_found_same None = refl
  having_found_same (Some condition) = aggregates_same context w condition.value

  selected_same : (items : List Item) → flat_map (item_aggregates context w) (map erased_item items) ≡ flat_map (item_aggregates context w) items
  selected_same items = flat_same (item_aggregates context w) erased_item (item_aggregates context w) (item_aggregates_same context w) items

select_same : (query : Query) → select_aggregates (erased query) ≡ select_aggregates query
unfolding select_aggregates
select_same query = (λ i. flat_map (item_aggregates (context_same query i) (within_same query i)) (map erased_item query.select.items)) ∙ selected_same (context_of query) (shown_within query) query.select.items

shown_same : (query : Query) → shown_of (erased query) ≡ shown_of query
unfolding shown_of
shown_same query = λ i. record {
  outputs = ((λ j. outputs_of (context_same query j) (within_same query j) 0 (map erased_item query.select.items)) ∙ outputs_same (context_of query) (shown_within query) 0 query.select.items) i;
  aggregates = select_same query i ++ ((λ j. having_aggregates (context_same query j) (within_same query j) (option_map erased_condition query.select.having)) ∙ having_found_same (context_of query) (shown_within query) query.select.having) i;
  having = ((λ j. option_map (having_value (context_same query j) (within_same query j) (length (select_same query j))) (option_map erased_condition query.select.having)) ∙ having_value_same (context_of query) (shown_within query) (length (select_aggregates query)) query.select.having) i;
}

-- ---- what is kept

key_same : (scope : Scope) (x : Group) → key_of scope (erased_group_item x) ≡ key_of scope x
key_same scope (group.Column ident) = ap group_key.Column (index_same scope ident)
key_same scope (group.Window window) = ap (λ at. group_key.Window at window.size.micros (slide_of window)) (index_same scope window.column)

keys_same : (scope : Scope) (by : Option GroupBy) → map (key_of scope) (group_items (option_map erased_group by)) ≡ map (key_of scope) (group_items by)
keys_same scope None = refl
keys_same scope (Some by) = map_same (key_of scope) erased_group_item (key_of scope) (key_same scope) by.items

grouping_same : (query : Query) → grouping_of (erased query) ≡ grouping_of query
grouping_same query = λ i. record {
  keys = ((λ j. map (key_of (context_same query j).scope) (group_items (option_map erased_group query.select.group))) ∙ keys_same (context_of query).scope query.select.group) i;
  aggregates = (shown_same query i).aggregates;
  having = (shown_same query i).having;
}

kept_same : (context : Context) (join : Option Join) (deduplicate : Option Deduplicate) → kept_by context (option_map erased_join join) (option_map erased_deduplicate deduplicate) ≡ kept_by context join deduplicate
kept_same context (Some join) deduplicate = ap shape.Join (joining_same context join)
kept_same context None (Some deduplicate) = ap shape.Dedup (map_same (bare_index context.scope) erased_ident (bare_index context.scope) (index_same context.scope) deduplicate.columns)
kept_same context None None = refl

shape_same : (query : Query) → shape_of (erased query) ≡ shape_of query
unfolding shape_of
shape_same query = λ i. if group_same query i then shape.Group (grouping_same query i)
    else ((λ j. kept_by (context_same query j) (option_map erased_join query.select.join) (option_map erased_deduplicate query.select.deduplicate)) ∙ kept_same (context_of query) query.select.join query.select.deduplicate) i

-- ---- the whole

filter_same : (context : Context) (filter : Option Condition) → option_map (filter_value context) (option_map erased_condition filter) ≡ option_map (filter_value context) filter
filter_same context filter = maybe_same (filter_value context) erased_condition (filter_value context) (λ condition. value_same context within.Row 0 condition.value) filter

sort_same : (items : List Item) (by : OrderBy) → sort_key (map erased_item items) (erased_order by) ≡ sort_key items by
sort_same items by = λ i. record {
  output = or_zero (position_same (is_output by.name.text) erased_item (is_output by.name.text) (λ x. ap (λ name. bytes_eq name by.name.text) (name_same x)) items i);
  direction = order_of by.direction;
}

bound_same : (query : Query) → bound_of (erased query) ≡ bound_of query
unfolding bound_of
bound_same query = λ i. record {
  text = text_same query i;
  streams = streams_same query i;
  mode = mode_of query.select.mode;
  shape = shape_same query i;
  filter = ((λ j. option_map (filter_value (context_same query j)) (option_map erased_condition query.select.filter)) ∙ filter_same (context_of query) query.select.filter) i;
  outputs = (shown_same query i).outputs;
  order = map_same (sort_key (map erased_item query.select.items)) erased_order (sort_key query.select.items) (sort_same query.select.items) query.select.order i;
}

pub places_are_ignored : PlacesAreIgnored
places_are_ignored query other same = sym (bound_same other) ∙ ap bound_of same ∙ bound_same query
