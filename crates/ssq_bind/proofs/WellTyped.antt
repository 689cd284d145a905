-- Bound queries are well typed.
use Rattle.std.proofs.Common.{◌≡◌, ◌∙◌, ap, sym, subst, refl, arith, ℕ, zero, suc, ◌+◌, ◌<◌, ◌≤◌, Bool, true, false, List, [], ◌∷◌, ◌++◌, map, take, length, Option, Some, None, Result, Ok, Err}
use Rattle.std.specs.Prelude.{slice_get, if◌then◌else◌, All, IfSome}
use Rattle.std.specs.List.{AllByRecursion, flat_map}
use Rattle.std.specs.Option.{option_map, IsSomeAnd}
use Rattle.std.proofs.lemmas.List.{append-nil}
use Rattle.std.proofs.lemmas.List.Concat.{flat_map-append}
use Rattle.std.proofs.lemmas.List.Elements.{All-head, All-tail, All-from_recursion}
use Rattle.ssq_value.specs.declared.column.ColType.{ColType}
use Rattle.ssq_value.specs.declared.column.ColType.TheVariants as type
use Rattle.ssq_shape.specs.Kinds.{kind_in, kind_with}
use Rattle.ssq_shape.specs.declared.bound.Aggregate.{Aggregate}
use Rattle.ssq_shape.specs.declared.bound.Bound.{Bound}
use Rattle.ssq_shape.specs.declared.bound.Grouping.{Grouping}
use Rattle.ssq_shape.specs.declared.bound.Output.{Output}
use Rattle.ssq_shape.specs.declared.bound.Shape.TheVariants as shape
use Rattle.ssq_shape.specs.declared.bound.SortKey.{SortKey}
use Rattle.ssq_shape.specs.declared.typed.Typed.{Typed}
use Rattle.ssq_ast.specs.declared.expr.Ident.{Ident}
use Rattle.ssq_ast.specs.declared.query.Condition.{Condition}
use Rattle.ssq_ast.specs.declared.query.Deduplicate.{Deduplicate}
use Rattle.ssq_ast.specs.declared.query.GroupBy.{GroupBy}
use Rattle.ssq_ast.specs.declared.query.Item.{Item}
use Rattle.ssq_ast.specs.declared.query.Item.TheVariants as item
use Rattle.ssq_ast.specs.declared.query.Join.{Join}
use Rattle.ssq_ast.specs.declared.query.OrderBy.{OrderBy}
use Rattle.ssq_ast.specs.declared.query.Query.{Query}
use Rattle.ssq_ast.specs.declared.query.Stream.{Stream as Declared}
use Rattle.ssq_ast.specs.declared.query.Watermark.{Watermark}
use Rattle.ssq_check.specs.declared.fault.BindFault.{BindFault}
use Rattle.ssq_check.specs.declared.fault.Cause.TheVariants as cause
use Rattle.ssq_check.specs.declared.scope.Key.{Key}
use Rattle.ssq_check.specs.declared.scope.Scope.{Scope}
use Rattle.ssq_check.specs.declared.scope.Side.TheVariants as side
use Rattle.ssq_check.specs.declared.scope.Spot.{Spot}
use Rattle.ssq_check.specs.declared.scope.Within.{Within}
use Rattle.ssq_check.specs.declared.scope.Within.TheVariants as within
use Rattle.ssq_check.specs.Fault.{AreNone}
use Rattle.ssq_check.specs.Joined.{spot_in}
use Rattle.ssq_check.specs.Names.{is_there, column_of, columns_of, watermark_name, source_of, left_stream, right_stream, row_scope, group_keys, scope_of}
use Rattle.ssq_check.specs.Rules.{type_of, kind}
use Rattle.ssq_check.specs.Scope.{in_columns, bare_spot, named_spot, is_key, is_window_here, grouped, column_kind_by, column_kind}
use Rattle.ssq_check.specs.Shown.{is_group, within_by, shown_within}
use Rattle.ssq_check.specs.Sound as sound
use Rattle.ssq_check.specs.Sound.{IsSoundStream, IsCondition, IsSoundGroup, IsOrdered, IsHaving, IsSoundJoin, HasEvent, IsTimeSpot, IsSound}
use Rattle.ssq_check.specs.Whole.{QueryFaults}
use Rattle.ssq_check.proofs.SoundLemmas.{sound_where_none}
use Rattle.ssq_check.proofs.Behind.{all_behind}
use Rattle.ssq_bind.specs.declared.context.Context.{Context}
use Rattle.ssq_bind.specs.Bound.{context_of, select_aggregates, shown_of, kept_by, shape_of, filter_value, bound_of}
use Rattle.ssq_bind.specs.Shapes.{item_aggregates, kind_or_bigint, spot_kind, column_type, output_of, outputs_of, is_output, sort_key, group_items, key_of, having_value, having_aggregates}
use Rattle.ssq_bind.specs.Streams.{kept_columns, listed}
use Rattle.ssq_bind.specs.Typed.{column_kinds, source_kinds, row_kinds, stream_kinds, read_kinds, key_kind, HasItsKind, IsTypedGroup, AreTypedBy, IsTypedJoin, first_kinds, second_kinds, IsJoinedBy, IsTyped, QueriesAreTyped}
use Rattle.ssq_bind.specs.Value.{or_zero, row_value}
use Rattle.ssq_bind.proofs.GroupLemmas.{own_kind, IsCounted, StandIn, front_in, back_in, spot_key, key_kinds, KeyStands, KeysStand, groups_have, all_both, are_counted, counted_all, items_keys, items_stand, at_each}
use Rattle.ssq_bind.proofs.EachShape.{shape_has, if_some_at}
use Rattle.ssq_bind.proofs.EachStream.{left_has, right_has}
use Rattle.ssq_bind.proofs.Kept.{Has, HaveTypes, typed_at, AnyStand, rows_have, own_rows_have, column_has}
use Rattle.ssq_bind.specs.Joins.{joining_of}
use Rattle.ssq_bind.proofs.OnTyped.{HasTimes, on_typed}
use Rattle.ssq_bind.proofs.Placed.{IsFound, found, found_is}

-- ---- an output has the type that its item has

row_agrees : (keys : List Key) (at : ℕ) (r : Result Spot BindFault) → IfSome (type_of (grouped keys within.Row at r)) (λ t. spot_kind (spot_in r) ≡ Some t)
row_agrees keys at (Err f) = tt
row_agrees keys at (Ok spot) = refl

key_agrees : (keys : List Key) (at : ℕ) (r : Result Spot BindFault) → IfSome (type_of (grouped keys within.Group at r)) (λ t. spot_kind (spot_in r) ≡ Some t)
key_agrees keys at (Err f) = tt
key_agrees keys at (Ok spot) = by (is_key keys spot)
  where
    by : (b : Bool) → IfSome (type_of (if b then Ok spot.kind else Err (record { at = at; cause = cause.NotGrouped }))) (λ t. Some spot.kind ≡ Some t)
    by true = refl
    by false = tt

agrees : (scope : Scope) (w : Within) (stream : Option Ident) (column : Ident)
    → IfSome (type_of (column_kind_by scope w stream column)) (λ t. column_type scope w (record { stream = stream; column = column }) ≡ Some t)
agrees scope within.Row None column = row_agrees scope.keys column.at (bare_spot scope column)
agrees scope within.Row (Some stream) column = row_agrees scope.keys stream.at (named_spot scope stream column)
agrees scope within.Group (Some stream) column = key_agrees scope.keys stream.at (named_spot scope stream column)
agrees scope within.Group None column = by (is_window_here scope within.Group column.text)
  where
    by : (b : Bool) → IfSome (type_of (if b then Ok type.Timestamp else grouped scope.keys within.Group column.at (bare_spot scope column)))
        (λ t. (if b then Some type.Timestamp else spot_kind (spot_in (bare_spot scope column))) ≡ Some t)
    by true = refl
    by false = key_agrees scope.keys column.at (bare_spot scope column)

own : (o : Option ColType) → IfSome o (λ t. o ≡ Some t)
own None = tt
own (Some t) = refl

module _ (aggregates kinds : List ColType) where
  from_has : (o told : Option ColType) (x : Typed) → is_there o ≡ true → Has aggregates kinds o x → IfSome o (λ t. told ≡ Some t) → kind_with aggregates kinds x ≡ Some (kind_or_bigint told)
  from_has None told x there is same = absurd cc
  from_has (Some t) told x there is same = is ∙ ap Some (sym (ap kind_or_bigint same))

  have_kind : (o : Option ColType) (t : ColType) (x : Typed) → Has aggregates kinds o x → o ≡ Some t → kind_with aggregates kinds x ≡ Some t
  have_kind o t x is same = subst (λ o. Has aggregates kinds o x) same is

module _ (context : Context) (w : Within) (aggregates kinds : List ColType) (Stand : ℕ → List Aggregate → Type 0) (have : HaveTypes context.scope context w aggregates kinds Stand) where
  output_typed : (n : ℕ) (x : Item) → Stand n (item_aggregates context w x) → sound.IsTyped context.scope w x → HasItsKind aggregates kinds (output_of context w n x)
  output_typed n (item.Column column at named_at) stand is =
      from_has aggregates kinds (type_of (column_kind context.scope w column)) (column_type context.scope w column) _ is (have.column column) (agrees context.scope w column.stream column.column)
  output_typed n (item.Named e at label) stand is =
      from_has aggregates kinds (kind context.scope w e) (kind context.scope w e) _ is (typed_at context.scope context w aggregates kinds Stand have n e stand) (own (kind context.scope w e))

  pub outputs_typed : (n : ℕ) (xs : List Item) → Stand n (flat_map (item_aggregates context w) xs) → All (sound.IsTyped context.scope w) xs → AllByRecursion (HasItsKind aggregates kinds) (outputs_of context w n xs)
  unfolding outputs_of
  outputs_typed n [] stand all = tt
  outputs_typed n (x ∷ xs) stand all = (
    output_typed n x (have.front n (item_aggregates context w x) (flat_map (item_aggregates context w) xs) stand) (All-head (sound.IsTyped context.scope w) x xs all),
    outputs_typed (n + length (item_aggregates context w x)) xs (have.back n (item_aggregates context w x) (flat_map (item_aggregates context w) xs) stand) (All-tail (sound.IsTyped context.scope w) x xs all),
  )

  pub having_typed : (n : ℕ) (having : Option Condition) → Stand n (having_aggregates context w having) → IfSome having (IsCondition context.scope w)
      → IfSome (option_map (having_value context w n) having) (λ x. kind_with aggregates kinds x ≡ Some type.Bool)
  having_typed n None stand is = tt
  having_typed n (Some condition) stand is =
      have_kind aggregates kinds (kind context.scope w condition.value) type.Bool _ (typed_at context.scope context w aggregates kinds Stand have n condition.value stand) is

-- ---- groups

counted_in : (o : Option ColType) (P : Type 0) → is_there o ≡ true → IfSome o (λ _. P) → P
counted_in None P there is = absurd cc
counted_in (Some t) P there is = is

module _ (context : Context) where
  abbrev own_rows : List ColType
  own_rows = row_kinds context.scope

  item_counted : (x : Item) → sound.IsTyped context.scope within.Group x → AllByRecursion (IsCounted own_rows) (item_aggregates context within.Group x)
  item_counted (item.Column column at named_at) is = tt
  item_counted (item.Named e at label) is = counted_in (kind context.scope within.Group e) _ is (are_counted context e)

  items_counted : (xs : List Item) → All (sound.IsTyped context.scope within.Group) xs → AllByRecursion (IsCounted own_rows) (flat_map (item_aggregates context within.Group) xs)
  items_counted [] all = tt
  items_counted (x ∷ xs) all =
      all_both (IsCounted own_rows) (item_aggregates context within.Group x) (flat_map (item_aggregates context within.Group) xs)
      (item_counted x (All-head (sound.IsTyped context.scope within.Group) x xs all)) (items_counted xs (All-tail (sound.IsTyped context.scope within.Group) x xs all))

  having_counted : (having : Option Condition) → IfSome having (IsCondition context.scope within.Group) → AllByRecursion (IsCounted own_rows) (having_aggregates context within.Group having)
  having_counted None is = tt
  having_counted (Some condition) is = counted_in (kind context.scope within.Group condition.value) _ (ap is_there is) (are_counted context condition.value)

-- what groups are made of, where SELECT and HAVING stand
abbrev grouping_within : Query → Within → Grouping
grouping_within query w = record {
  keys = map (key_of (context_of query).scope) (group_items query.select.group);
  aggregates = flat_map (item_aggregates (context_of query) w) query.select.items ++ having_aggregates (context_of query) w query.select.having;
  having = option_map (having_value (context_of query) w (length (flat_map (item_aggregates (context_of query) w) query.select.items))) query.select.having;
}

-- the keys of a scope, by GROUP BY
keys_stand : (scope : Scope) (by : Option GroupBy) → AllByRecursion (KeyStands scope) (group_keys scope by)
keys_stand scope None = tt
keys_stand scope (Some by) = items_stand scope by.items

keys_typed : (scope : Scope) (by : Option GroupBy) → IfSome by (IsSoundGroup scope)
    → map (key_kind (row_kinds scope)) (map (key_of scope) (group_items by)) ≡ map Some (map spot_key (group_keys scope by))
keys_typed scope None is = refl
keys_typed scope (Some by) is = items_keys scope by.items is.each

group_typed : (query : Query) → IsSound query → All (sound.IsTyped (scope_of query) within.Group) query.select.items → IfSome query.select.having (IsCondition (scope_of query) within.Group)
    → IsTypedGroup (row_kinds (scope_of query)) (grouping_within query within.Group) (outputs_of (context_of query) within.Group 0 query.select.items)
unfolding context_of
group_typed query is items having =
    let context : Context = context_of query in
    let rows : List ColType = row_kinds context.scope in
    let selected : List Aggregate = flat_map (item_aggregates context within.Group) query.select.items in
    let must : List Aggregate = having_aggregates context within.Group query.select.having in
    let all : List Aggregate = selected ++ must in
    let stand : KeysStand context.scope = at_each (KeyStands context.scope) context.scope.keys (keys_stand (row_scope query) query.select.group) in
    let whole : StandIn all 0 all = λ i x there. ap (slice_get all) (all_behind i) ∙ there in
    let have = groups_have context all stand in
    record {
      key_kinds = key_kinds context.scope;
      aggregate_kinds = map (own_kind rows) all;
      keyed = keys_typed (row_scope query) query.select.group is.group;
      counted = counted_all rows all (all_both (IsCounted rows) selected must (items_counted context query.select.items items) (having_counted context query.select.having having));
      having = having_typed context within.Group (map (own_kind rows) all) (key_kinds context.scope) (StandIn all) have (length selected) query.select.having
          (subst (λ (n : ℕ). StandIn all n must) (all_behind (length selected)) (back_in all 0 selected must whole)) having;
      shown = All-from_recursion (HasItsKind (map (own_kind rows) all) (key_kinds context.scope)) _
          (outputs_typed context within.Group (map (own_kind rows) all) (key_kinds context.scope) (StandIn all) have 0 query.select.items (front_in all 0 selected must whole) items);
    }

having_is : (query : Query) → IfSome query.select.having (IsHaving query) → IfSome query.select.having (IsCondition (scope_of query) (shown_within query))
having_is query is = by query.select.having is
  where
    by : (having : Option Condition) → IfSome having (IsHaving query) → IfSome having (IsCondition (scope_of query) (shown_within query))
    by None is = tt
    by (Some condition) is = is.0

-- ---- rows

plain_typed : (query : Query) → All (sound.IsTyped (scope_of query) within.Row) query.select.items → All (HasItsKind [] (row_kinds (scope_of query))) (outputs_of (context_of query) within.Row 0 query.select.items)
unfolding context_of
plain_typed query items =
    All-from_recursion (HasItsKind [] (row_kinds (scope_of query))) _
    (outputs_typed (context_of query) within.Row [] (row_kinds (scope_of query)) AnyStand (own_rows_have (context_of query)) 0 query.select.items tt items)

kept_typed : (rows : List ColType) (outputs : List Output) (context : Context) (join : Option Join) (deduplicate : Option Deduplicate) → All (HasItsKind [] rows) outputs → AreTypedBy rows outputs (kept_by context join deduplicate)
kept_typed rows outputs context (Some join) deduplicate is = is
kept_typed rows outputs context None (Some deduplicate) is = is
kept_typed rows outputs context None None is = is

shape_typed : (query : Query) → IsSound query → AreTypedBy (row_kinds (scope_of query)) (shown_of query).outputs (shape_of query)
unfolding shape_of shown_of select_aggregates
shape_typed query is = by (is_group query) refl
  where
    by : (b : Bool) → is_group query ≡ b
        → AreTypedBy (row_kinds (scope_of query)) (outputs_of (context_of query) (shown_within query) 0 query.select.items)
        (if b then shape.Group (grouping_within query (shown_within query)) else kept_by (context_of query) query.select.join query.select.deduplicate)
    by true same =
        let within_is : shown_within query ≡ within.Group = ap within_by same in
        subst (λ w. IsTypedGroup (row_kinds (scope_of query)) (grouping_within query w) (outputs_of (context_of query) w 0 query.select.items)) (sym within_is)
        (group_typed query is
        (subst (λ w. All (sound.IsTyped (scope_of query) w) query.select.items) within_is is.typed)
        (subst (λ w. IfSome query.select.having (IsCondition (scope_of query) w)) within_is (having_is query is.having)))
    by false same =
        let within_is : shown_within query ≡ within.Row = ap within_by same in
        kept_typed (row_kinds (scope_of query)) (outputs_of (context_of query) (shown_within query) 0 query.select.items) (context_of query) query.select.join query.select.deduplicate
        (subst (λ w. All (HasItsKind [] (row_kinds (scope_of query))) (outputs_of (context_of query) w 0 query.select.items)) (sym within_is)
        (plain_typed query (subst (λ w. All (sound.IsTyped (scope_of query) w) query.select.items) within_is is.typed)))

filter_typed : (query : Query) (filter : Option Condition) → IfSome filter (IsCondition (row_scope query) within.Row)
    → IfSome (option_map (filter_value (context_of query)) filter) (λ x. kind_in (row_kinds (scope_of query)) x ≡ Some type.Bool)
unfolding context_of
filter_typed query None is = tt
filter_typed query (Some condition) is =
    let names : Scope = row_scope query in
    have_kind [] (row_kinds names) (kind names within.Row condition.value) type.Bool (row_value (context_of query) condition.value)
    (typed_at names (context_of query) within.Row [] (row_kinds names) AnyStand (rows_have names (context_of query) (λ c. column_has names c.stream c.column)) 0 condition.value tt) is

-- ---- ORDER BY

outputs_length : (context : Context) (w : Within) (n : ℕ) (xs : List Item) → length (outputs_of context w n xs) ≡ length xs
unfolding outputs_of
outputs_length context w n [] = refl
outputs_length context w n (x ∷ xs) = ap suc (outputs_length context w (n + length (item_aggregates context w x)) xs)

key_within : (items : List Item) (by : OrderBy) → IsOrdered items by → (sort_key items by).output < length items
key_within items by is =
    let here : IsFound (is_output by.name.text) items = found (is_output by.name.text) items is in
    subst (λ o. or_zero o < length items) (sym (found_is (is_output by.name.text) items here)) here.within

keys_within : (items : List Item) (orders : List OrderBy) → All (IsOrdered items) orders → AllByRecursion (λ (key : SortKey). key.output < length items) (map (sort_key items) orders)
keys_within items [] all = tt
keys_within items (x ∷ xs) all = (key_within items x (All-head (IsOrdered items) x xs all), keys_within items xs (All-tail (IsOrdered items) x xs all))

-- ---- the streams that are read

take_few : {A : Type 0} (n : ℕ) (xs : List A) → length xs ≤ n → take n xs ≡ xs
take_few zero [] few = refl
take_few (suc n) [] few = refl
take_few zero (x ∷ xs) few = absurd (omega (arith, few))
take_few (suc n) (x ∷ xs) few = ap (λ ys. x ∷ ys) (take_few n xs (omega (arith, few)))

side_kinds : (o : Option Declared) → IfSome o IsSoundStream → flat_map stream_kinds (listed o) ≡ source_kinds (option_map source_of o)
side_kinds None is = refl
side_kinds (Some stream) is = append-nil (column_kinds (kept_columns stream.columns)) ∙ ap (λ columns. column_kinds (map column_of columns)) (take_few 64 stream.columns is.few)

rows_are : (query : Query) → IsSound query → read_kinds (bound_of query).streams ≡ row_kinds (scope_of query)
unfolding bound_of
rows_are query is =
    flat_map-append stream_kinds (listed (left_stream query)) (listed (right_stream query))
    ∙ (λ i. side_kinds (left_stream query) (left_has IsSoundStream query is.streams) i
    ++ side_kinds (right_stream query) (right_has IsSoundStream query is.streams) i)

-- ---- ON

-- the event column of a stream is a TIMESTAMP
times_of : (o : Option Declared) → IfSome o IsSoundStream → IfSome (option_map source_of o) HasTimes
times_of None is = tt
times_of (Some stream) is = by stream.watermark is.event
  where
    by : (watermark : Option Watermark) → IfSome watermark (HasEvent stream) → IfSome (option_map watermark_name watermark) (λ name. IsSomeAnd (in_columns side.Left (columns_of stream) name) IsTimeSpot)
    by None event = tt
    by (Some watermark) event = event

-- where both streams are declared, the rows of each have the types of its source
apart_kinds : (l r : Option Declared) → is_there (option_map source_of l) ≡ true → is_there (option_map source_of r) ≡ true → IfSome l IsSoundStream → IfSome r IsSoundStream
    → (first_kinds (listed l ++ listed r) ≡ source_kinds (option_map source_of l)) × (second_kinds (listed l ++ listed r) ≡ source_kinds (option_map source_of r))
apart_kinds (Some l) (Some r) here there p q = (side_kinds (Some l) p, side_kinds (Some r) q)
apart_kinds (Some l) None here there p q = absurd cc
apart_kinds None r here there p q = absurd cc

join_typed : (query : Query) → IsSound query → (join : Join) → IsSoundJoin (row_scope query) query.select.from.text join
    → IsTypedJoin (first_kinds (bound_of query).streams) (second_kinds (bound_of query).streams) (joining_of (context_of query) join)
unfolding bound_of
join_typed query is join sound =
    let left = left_has IsSoundStream query is.streams in
    let right = right_has IsSoundStream query is.streams in
    let kinds = apart_kinds (left_stream query) (right_stream query) is.from sound.declared left right in
    subst (λ (rows : List ColType). IsTypedJoin rows (second_kinds (bound_of query).streams) (joining_of (context_of query) join)) (sym kinds.0)
    (subst (λ (rows : List ColType). IsTypedJoin (source_kinds (row_scope query).left) rows (joining_of (context_of query) join)) (sym kinds.1)
    (on_typed query join sound (times_of (left_stream query) left) (times_of (right_stream query) right)))

shape_joined : (query : Query) → IsSound query → IsJoinedBy (first_kinds (bound_of query).streams) (second_kinds (bound_of query).streams) (shape_of query)
shape_joined query is =
    shape_has (IsJoinedBy (first_kinds (bound_of query).streams) (second_kinds (bound_of query).streams)) query
    (λ grouped. tt)
    (λ join same. join_typed query is join (if_some_at (IsSoundJoin (row_scope query) query.select.from.text) query.select.join join is.join same))
    (λ own none same. tt)
    (λ none. tt)

-- ---- the whole

shown_length : (query : Query) → length (shown_of query).outputs ≡ length query.select.items
unfolding shown_of
shown_length query = outputs_length (context_of query) (shown_within query) 0 query.select.items

sound_typed : (query : Query) → IsSound query → IsTyped (bound_of query)
unfolding bound_of
sound_typed query is =
    let rows : read_kinds (bound_of query).streams ≡ row_kinds (scope_of query) = rows_are query is in
    record {
      filter = subst (λ rows. IfSome (bound_of query).filter (λ x. kind_in rows x ≡ Some type.Bool)) (sym rows) (filter_typed query query.select.filter is.filter);
      shown = subst (λ rows. AreTypedBy rows (bound_of query).outputs (bound_of query).shape) (sym rows) (shape_typed query is);
      joined = shape_joined query is;
      order = All-from_recursion (λ (key : SortKey). key.output < length (bound_of query).outputs) _
          (subst (λ (n : ℕ). AllByRecursion (λ (key : SortKey). key.output < n) (map (sort_key query.select.items) query.select.order)) (sym (shown_length query))
          (keys_within query.select.items query.select.order is.order));
    }

pub queries_are_typed : QueriesAreTyped
queries_are_typed query none = sound_typed query (sound_where_none query none)

-- the same of an equal bound query
pub typed_if_unbroken : (query : Query) (bound : Bound) → bound ≡ bound_of query → AreNone (QueryFaults query) → IsTyped bound
typed_if_unbroken query bound is none = subst IsTyped (sym is) (queries_are_typed query none)
