-- The one text of a query: no bracket and no word that could be left out, one space between two words.
use Rattle.std.specs.Prelude.{ℕ, Bool, true, false, List, map, Option, Some, None}
use Rattle.std.specs.Option.{option_map}
use Rattle.ssq_lex.specs.Printing.{printed}
use Rattle.ssq_ast.specs.declared.query.ColumnDecl.{ColumnDecl}
use Rattle.ssq_ast.specs.declared.query.Deduplicate.{Deduplicate}
use Rattle.ssq_ast.specs.declared.query.Group.{Group}
use Rattle.ssq_ast.specs.declared.query.Group.TheVariants as group
use Rattle.ssq_ast.specs.declared.query.GroupBy.{GroupBy}
use Rattle.ssq_ast.specs.declared.query.Item.{Item}
use Rattle.ssq_ast.specs.declared.query.Item.TheVariants as item
use Rattle.ssq_ast.specs.declared.query.Join.{Join}
use Rattle.ssq_ast.specs.declared.query.OrderBy.{OrderBy}
use Rattle.ssq_ast.specs.declared.query.Query.{Query}
use Rattle.ssq_ast.specs.declared.query.Select.{Select}
use Rattle.ssq_ast.specs.declared.query.Stream.{Stream}
use Rattle.ssq_ast.specs.declared.query.Watermark.{Watermark}
use Rattle.ssq_ast.specs.declared.query.Window.{Window}
use Rattle.ssq_ast.specs.Expression.{plain, plain_column}
use Rattle.ssq_ast.specs.Statement.{WrittenDecl, WrittenWatermark, WrittenStream, WrittenItem, bare_item, named_item, WrittenJoin, WrittenWindow, WrittenGroup, column_group, window_group, WrittenOrder, WrittenSelect, WrittenQuery, query_words}

abbrev pub is_some : {A : Type 0} → Option A → Bool
is_some None = false
is_some (Some a) = true

abbrev pub plain_decl : ColumnDecl → WrittenDecl
plain_decl decl = record { name = decl.name.text; kind = decl.kind }

abbrev pub plain_watermark : Watermark → WrittenWatermark
plain_watermark watermark = record { column = watermark.column.text; delay = watermark.delay }

abbrev pub plain_stream : Stream → WrittenStream
plain_stream stream = record {
  name = stream.name.text;
  columns = map plain_decl stream.columns;
  source = stream.source;
  watermark = option_map plain_watermark stream.watermark;
}

-- no AS where the item is the bare column of that name
abbrev pub plain_item : Item → WrittenItem
plain_item (item.Column column at named_at) = bare_item (plain_column column)
plain_item (item.Named value at label) = named_item (plain value) label.text

-- no INNER and no OUTER
abbrev pub plain_join : Join → WrittenJoin
plain_join join = record { kind = join.kind; has_word = false; stream = join.stream.text; on = plain join.on.value }

abbrev pub plain_deduplicate : Deduplicate → List (List ℕ)
plain_deduplicate deduplicate = map (λ column. column.text) deduplicate.columns

abbrev pub plain_window : Window → WrittenWindow
plain_window window = record { column = window.column.text; size = window.size; slide = window.slide }

abbrev pub plain_group : Group → WrittenGroup
plain_group (group.Column column) = column_group column.text
plain_group (group.Window window) = window_group (plain_window window)

abbrev pub plain_group_by : GroupBy → List WrittenGroup
plain_group_by by = map plain_group by.items

-- no ASC
abbrev pub plain_order : OrderBy → WrittenOrder
plain_order order = record { name = order.name.text; direction = order.direction; has_word = false }

abbrev pub plain_select : Select → WrittenSelect
plain_select select = record {
  distinct = is_some select.distinct;
  items = map plain_item select.items;
  from = select.from.text;
  join = option_map plain_join select.join;
  filter = option_map (λ condition. plain condition.value) select.filter;
  deduplicate = option_map plain_deduplicate select.deduplicate;
  group = option_map plain_group_by select.group;
  having = option_map (λ condition. plain condition.value) select.having;
  order = map plain_order select.order;
  limit = option_map (λ limit. limit.most) select.limit;
  mode = select.mode;
}

-- the one way to write a query with no bracket and no word that could be left out
abbrev pub plain_query : Query → WrittenQuery
plain_query query = record { streams = map plain_stream query.streams; select = plain_select query.select }

-- The canonical text: its words, keywords in capitals, with one space between two of them, but where none stands.
unfoldable pub canonical : Query → List ℕ
canonical query = printed (query_words (plain_query query))
