-- What holds of a query that breaks no rule of binding.
use Rattle.std.specs.Prelude.{◌≡◌, ◌≤◌, ◌≤ℤ◌, ℕ, pos, ◌*ℤ◌, true, false, ◌&&◌, ◌||◌, All, IfSome, List, map, length, Option, Some, None}
use Rattle.std.specs.List.{flat_map, IsDistinct}
use Rattle.std.specs.Option.{IsSomeAnd}
use Rattle.std.specs.Str.{bytes_eq}
use Rattle.ssq_value.specs.declared.column.ColType.{ColType}
use Rattle.ssq_value.specs.declared.column.ColType.TheVariants as type
use Rattle.ssq_ast.specs.declared.expr.Ident.{Ident}
use Rattle.ssq_ast.specs.declared.query.Condition.{Condition}
use Rattle.ssq_ast.specs.declared.query.Deduplicate.{Deduplicate}
use Rattle.ssq_ast.specs.declared.query.Group.{Group}
use Rattle.ssq_ast.specs.declared.query.Group.TheVariants as group
use Rattle.ssq_ast.specs.declared.query.GroupBy.{GroupBy}
use Rattle.ssq_ast.specs.declared.query.Item.{Item}
use Rattle.ssq_ast.specs.declared.query.Item.TheVariants as item
use Rattle.ssq_ast.specs.declared.query.Join.{Join}
use Rattle.ssq_ast.specs.declared.query.OrderBy.{OrderBy}
use Rattle.ssq_ast.specs.declared.query.Query.{Query}
use Rattle.ssq_ast.specs.declared.query.Stream.{Stream}
use Rattle.ssq_ast.specs.declared.query.Watermark.{Watermark}
use Rattle.ssq_ast.specs.declared.query.Window.{Window}
use Rattle.ssq_check.specs.declared.scope.Scope.{Scope}
use Rattle.ssq_check.specs.declared.scope.Side.TheVariants as side
use Rattle.ssq_check.specs.declared.scope.Spot.{Spot}
use Rattle.ssq_check.specs.declared.scope.Within.{Within}
use Rattle.ssq_check.specs.declared.scope.Within.TheVariants as within
use Rattle.ssq_check.specs.Fault.{AreNone}
use Rattle.ssq_check.specs.Scope.{in_columns, bare_spot, column_kind}
use Rattle.ssq_check.specs.Rules.{type_of, kind}
use Rattle.ssq_check.specs.Lists.{item_name}
use Rattle.ssq_check.specs.Names.{is_there, columns_of, row_scope, scope_of}
use Rattle.ssq_check.specs.Shown.{shown_aggregates, group_place, is_group, shown_within}
use Rattle.ssq_check.specs.Joined.{spot_in, conjuncts, key_places, BoundFaults}
use Rattle.ssq_check.specs.Clauses.{decl_name, stream_name, ident_name, slide_of, has_window_columns, group_columns, group_windows, is_output}

-- no two names are equal
abbrev pub AreApart : List (List ℕ) → Type 0
AreApart names = IsDistinct bytes_eq names

abbrev pub IsTimeSpot : Spot → Type 0
IsTimeSpot spot = spot.kind ≡ type.Timestamp

-- the column is one of the stream, and a TIMESTAMP
abbrev pub HasEvent : Stream → Watermark → Type 0
HasEvent stream watermark = IsSomeAnd (in_columns side.Left (columns_of stream) watermark.column.text) IsTimeSpot

pub record IsSoundStream (stream : Stream) : Type 0 where
  pub apart : AreApart (map decl_name stream.columns)
  pub few : length stream.columns ≤ 64
  pub event : IfSome stream.watermark (HasEvent stream)

-- the expression has the type BOOLEAN
abbrev pub IsCondition : Scope → Within → Condition → Type 0
IsCondition scope w condition = kind scope w condition.value ≡ Some type.Bool

pub record IsSoundJoin (scope : Scope) (from : List ℕ) (join : Join) : Type 0 where
  pub declared : is_there scope.right ≡ true
  pub another : bytes_eq join.stream.text from ≡ false
  pub condition : IsCondition scope within.Row join.on
  pub few_keys : length (key_places scope (conjuncts join.on.at join.on.value)) ≤ 64
  pub bound : AreNone (BoundFaults scope (conjuncts join.on.at join.on.value))

-- the name is that of one column of rows
abbrev pub IsKnown : Scope → Ident → Type 0
IsKnown scope ident = is_there (spot_in (bare_spot scope ident)) ≡ true

pub record IsSoundDeduplicate (scope : Scope) (deduplicate : Deduplicate) : Type 0 where
  pub known : All (IsKnown scope) deduplicate.columns
  pub apart : AreApart (map ident_name deduplicate.columns)
  pub few : length deduplicate.columns ≤ 64

pub record IsSoundWindow (scope : Scope) (window : Window) : Type 0 where
  pub time : IsSomeAnd (spot_in (bare_spot scope window.column)) IsTimeSpot
  pub slide : slide_of window ≤ℤ window.size.micros
  pub few : window.size.micros ≤ℤ (pos 64 *ℤ slide_of window)
  pub free : has_window_columns scope ≡ false

abbrev pub IsSoundGroupItem : Scope → Group → Type 0
IsSoundGroupItem scope (group.Column ident) = IsKnown scope ident
IsSoundGroupItem scope (group.Window window) = IsSoundWindow scope window

pub record IsSoundGroup (scope : Scope) (by : GroupBy) : Type 0 where
  pub each : All (IsSoundGroupItem scope) by.items
  pub apart : AreApart (map ident_name (flat_map group_columns by.items))
  pub one_window : length (flat_map group_windows by.items) ≤ 1
  pub few : length by.items ≤ 64

-- the type of what an item gives
abbrev pub item_kind : Scope → Within → Item → Option ColType
item_kind scope w (item.Column column at named_at) = type_of (column_kind scope w column)
item_kind scope w (item.Named value at label) = kind scope w value

abbrev pub IsTyped : Scope → Within → Item → Type 0
IsTyped scope w x = is_there (item_kind scope w x) ≡ true

abbrev pub IsOrdered : List Item → OrderBy → Type 0
IsOrdered items order = is_output items order.name.text ≡ true

-- a condition on groups, in a query that groups its rows
abbrev pub IsHaving : Query → Condition → Type 0
IsHaving query condition = IsCondition (scope_of query) (shown_within query) condition × (is_group query ≡ true)

pub record IsSound (query : Query) : Type 0 where
  pub streams : All IsSoundStream query.streams
  pub apart : AreApart (map stream_name query.streams)
  pub few_streams : length query.streams ≤ 2
  pub from : is_there (row_scope query).left ≡ true
  pub join : IfSome query.select.join (IsSoundJoin (row_scope query) query.select.from.text)
  pub filter : IfSome query.select.filter (IsCondition (row_scope query) within.Row)
  pub deduplicate : IfSome query.select.deduplicate (IsSoundDeduplicate (row_scope query))
  pub group : IfSome query.select.group (IsSoundGroup (row_scope query))
  pub typed : All (IsTyped (scope_of query) (shown_within query)) query.select.items
  pub outputs : AreApart (map item_name query.select.items)
  pub few_items : length query.select.items ≤ 64
  pub few_aggregates : length (shown_aggregates query) ≤ 64
  pub having : IfSome query.select.having (IsHaving query)
  pub order : All (IsOrdered query.select.items) query.select.order
  pub distinct : query.select.distinct ≡ None
  pub limit : query.select.limit ≡ None
  -- at most one of JOIN, DEDUPLICATE and groups
  pub deduplicate_alone : (is_there query.select.join && is_there query.select.deduplicate) ≡ false
  pub group_alone : ((is_there query.select.join || is_there query.select.deduplicate) && is_there (group_place query)) ≡ false
