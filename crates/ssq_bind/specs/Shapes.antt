-- What a bound query shows and what it keeps.
use Rattle.std.specs.Prelude.{ℕ, ◌+◌, ℤ, pos, Bool, if◌then◌else◌, List, [], ◌∷◌, ◌++◌, length, position, Option, Some, None}
use Rattle.std.specs.Str.{bytes_eq}
use Rattle.ssq_value.specs.declared.column.ColType.{ColType}
use Rattle.ssq_value.specs.declared.column.ColType.TheVariants as type
use Rattle.ssq_shape.specs.declared.bound.Aggregate.{Aggregate}
use Rattle.ssq_shape.specs.declared.bound.Direction.{Direction as Order}
use Rattle.ssq_shape.specs.declared.bound.Direction.TheVariants as order
use Rattle.ssq_shape.specs.declared.bound.GroupKey.{GroupKey}
use Rattle.ssq_shape.specs.declared.bound.GroupKey.TheVariants as group_key
use Rattle.ssq_shape.specs.declared.bound.Output.{Output}
use Rattle.ssq_shape.specs.declared.bound.SortKey.{SortKey}
use Rattle.ssq_shape.specs.declared.typed.Typed.{Typed}
use Rattle.ssq_ast.specs.declared.expr.ColumnRef.{ColumnRef}
use Rattle.ssq_ast.specs.declared.expr.Ident.{Ident}
use Rattle.ssq_ast.specs.declared.query.Condition.{Condition}
use Rattle.ssq_ast.specs.declared.query.Direction.{Direction}
use Rattle.ssq_ast.specs.declared.query.Direction.TheVariants as direction
use Rattle.ssq_ast.specs.declared.query.Group.{Group}
use Rattle.ssq_ast.specs.declared.query.Group.TheVariants as group
use Rattle.ssq_ast.specs.declared.query.GroupBy.{GroupBy}
use Rattle.ssq_ast.specs.declared.query.Item.{Item}
use Rattle.ssq_ast.specs.declared.query.Item.TheVariants as item
use Rattle.ssq_ast.specs.declared.query.OrderBy.{OrderBy}
use Rattle.ssq_check.specs.declared.scope.Scope.{Scope}
use Rattle.ssq_check.specs.declared.scope.Spot.{Spot}
use Rattle.ssq_check.specs.declared.scope.Within.{Within}
use Rattle.ssq_check.specs.declared.scope.Within.TheVariants as within
use Rattle.ssq_check.specs.Scope.{bare_spot}
use Rattle.ssq_check.specs.Clauses.{slide_of}
use Rattle.ssq_check.specs.Joined.{bare_column, spot_in, spot_of}
use Rattle.ssq_check.specs.Lists.{item_name}
use Rattle.ssq_check.specs.Rules.{kind}
use Rattle.ssq_bind.specs.declared.context.Context.{Context}
use Rattle.ssq_bind.specs.Value.{row_index, or_zero, is_window_column, key_index, column_value, value_of, aggregates_of}

-- ---- SELECT

abbrev pub item_value : Context → Within → ℕ → Item → Typed
item_value context w before (item.Column column at named_at) = column_value context w column
item_value context w before (item.Named e at label) = value_of context w before e

abbrev pub item_aggregates : Context → Within → Item → List Aggregate
item_aggregates context w (item.Column column at named_at) = []
item_aggregates context w (item.Named e at label) = aggregates_of context w e

abbrev pub kind_or_bigint : Option ColType → ColType
kind_or_bigint None = type.Bigint
kind_or_bigint (Some own) = own

abbrev pub spot_kind : Option Spot → Option ColType
spot_kind None = None
spot_kind (Some spot) = Some spot.kind

-- a window's start and its end are times
abbrev pub column_type : Scope → Within → ColumnRef → Option ColType
column_type scope within.Row column = spot_kind (spot_in (spot_of scope column))
column_type scope within.Group column =
    if is_window_column scope column then Some type.Timestamp else spot_kind (spot_in (spot_of scope column))

abbrev pub item_kind : Scope → Within → Item → Option ColType
item_kind scope w (item.Column column at named_at) = column_type scope w column
item_kind scope w (item.Named e at label) = kind scope w e

-- the column that an item is
abbrev pub item_column : Item → Option ColumnRef
item_column (item.Column column at named_at) = Some column
item_column (item.Named e at label) = bare_column e

abbrev pub shown_key : Scope → Within → Option ColumnRef → Option ℕ
shown_key scope within.Row column = None
shown_key scope within.Group None = None
shown_key scope within.Group (Some column) = key_index scope column

-- a column of the result, with so many aggregates in front of it
abbrev pub output_of : Context → Within → ℕ → Item → Output
output_of context w before x = record {
  name = item_name x;
  kind = kind_or_bigint (item_kind context.scope w x);
  value = item_value context w before x;
  key = shown_key context.scope w (item_column x);
}

unfoldable pub outputs_of : Context → Within → ℕ → List Item → List Output
outputs_of context w before [] = []
outputs_of context w before (x ∷ xs) = output_of context w before x ∷ outputs_of context w (before + length (item_aggregates context w x)) xs

-- the outputs after others, and after the aggregates that were found in front of them
unfoldable pub shown : Context → Within → List Output → List Aggregate → List Item → List Output
shown context w outputs found [] = outputs
shown context w outputs found (x ∷ xs) = shown context w (outputs ++ output_of context w (length found) x ∷ []) (found ++ item_aggregates context w x) xs

-- ---- ORDER BY

abbrev pub order_of : Direction → Order
order_of direction.Ascending = order.Ascending
order_of direction.Descending = order.Descending

abbrev pub is_output : List ℕ → Item → Bool
is_output name x = bytes_eq (item_name x) name

-- the first output of this name
abbrev pub sort_key : List Item → OrderBy → SortKey
sort_key items by = record {
  output = or_zero (position (is_output by.name.text) items);
  direction = order_of by.direction;
}

-- ---- GROUP BY

-- the size of the window, where rows are grouped by one
abbrev pub size_in : List Group → ℤ
size_in [] = pos 0
size_in (group.Window window ∷ more) = window.size.micros
size_in (group.Column ident ∷ more) = size_in more

abbrev pub window_size : Option GroupBy → ℤ
window_size None = pos 0
window_size (Some by) = size_in by.items

abbrev pub group_items : Option GroupBy → List Group
group_items None = []
group_items (Some by) = by.items

-- the index of a column in the row, by its bare name
abbrev pub bare_index : Scope → Ident → ℕ
bare_index scope ident = row_index scope (spot_in (bare_spot scope ident))

abbrev pub key_of : Scope → Group → GroupKey
key_of scope (group.Column ident) = group_key.Column (bare_index scope ident)
key_of scope (group.Window window) = group_key.Window (bare_index scope window.column) window.size.micros (slide_of window)

-- ---- HAVING

abbrev pub having_value : Context → Within → ℕ → Condition → Typed
having_value context w before condition = value_of context w before condition.value

abbrev pub having_aggregates : Context → Within → Option Condition → List Aggregate
having_aggregates context w None = []
having_aggregates context w (Some condition) = aggregates_of context w condition.value
