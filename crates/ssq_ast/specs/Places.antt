-- Queries, places aside: each place is 0.
use Rattle.std.specs.Prelude.{map}
use Rattle.std.specs.Option.{option_map}
use Rattle.ssq_ast.specs.declared.query.ColumnDecl.{ColumnDecl}
use Rattle.ssq_ast.specs.declared.query.Condition.{Condition}
use Rattle.ssq_ast.specs.declared.query.Deduplicate.{Deduplicate}
use Rattle.ssq_ast.specs.declared.query.Group.{Group}
use Rattle.ssq_ast.specs.declared.query.Group.TheVariants as group
use Rattle.ssq_ast.specs.declared.query.GroupBy.{GroupBy}
use Rattle.ssq_ast.specs.declared.query.Item.{Item}
use Rattle.ssq_ast.specs.declared.query.Item.TheVariants as item
use Rattle.ssq_ast.specs.declared.query.Join.{Join}
use Rattle.ssq_ast.specs.declared.query.Limit.{Limit}
use Rattle.ssq_ast.specs.declared.query.OrderBy.{OrderBy}
use Rattle.ssq_ast.specs.declared.query.Query.{Query}
use Rattle.ssq_ast.specs.declared.query.Select.{Select}
use Rattle.ssq_ast.specs.declared.query.Stream.{Stream}
use Rattle.ssq_ast.specs.declared.query.Watermark.{Watermark}
use Rattle.ssq_ast.specs.declared.query.Window.{Window}
use Rattle.ssq_ast.specs.Expression.{erased_ident, erased_column, erased_expr}

abbrev pub erased_decl : ColumnDecl → ColumnDecl
erased_decl decl = record decl { name = erased_ident decl.name }

abbrev pub erased_watermark : Watermark → Watermark
erased_watermark watermark = record watermark { column = erased_ident watermark.column }

abbrev pub erased_stream : Stream → Stream
erased_stream stream = record {
  at = 0;
  name = erased_ident stream.name;
  columns = map erased_decl stream.columns;
  source = stream.source;
  watermark = option_map erased_watermark stream.watermark;
}

abbrev pub erased_item : Item → Item
erased_item (item.Column column at named_at) = item.Column (erased_column column) 0 0
erased_item (item.Named value at label) = item.Named (erased_expr value) 0 (erased_ident label)

abbrev pub erased_condition : Condition → Condition
erased_condition condition = record { at = 0; value = erased_expr condition.value }

abbrev pub erased_join : Join → Join
erased_join join = record { kind = join.kind; at = 0; stream = erased_ident join.stream; on = erased_condition join.on }

abbrev pub erased_deduplicate : Deduplicate → Deduplicate
erased_deduplicate deduplicate = record { at = 0; columns = map erased_ident deduplicate.columns }

abbrev pub erased_window : Window → Window
erased_window window = record window { at = 0; column = erased_ident window.column }

abbrev pub erased_group_item : Group → Group
erased_group_item (group.Column column) = group.Column (erased_ident column)
erased_group_item (group.Window window) = group.Window (erased_window window)

abbrev pub erased_group : GroupBy → GroupBy
erased_group by = record { at = 0; items = map erased_group_item by.items }

abbrev pub erased_order : OrderBy → OrderBy
erased_order order = record order { name = erased_ident order.name }

abbrev pub erased_limit : Limit → Limit
erased_limit limit = record limit { at = 0 }

abbrev pub erased_select : Select → Select
erased_select select = record {
  distinct = option_map (λ at. 0) select.distinct;
  items = map erased_item select.items;
  from = erased_ident select.from;
  join = option_map erased_join select.join;
  filter = option_map erased_condition select.filter;
  deduplicate = option_map erased_deduplicate select.deduplicate;
  group = option_map erased_group select.group;
  having = option_map erased_condition select.having;
  order = map erased_order select.order;
  limit = option_map erased_limit select.limit;
  mode = select.mode;
}

abbrev pub erased : Query → Query
erased query = record { streams = map erased_stream query.streams; select = erased_select query.select }
