-- The canonical text of a query has no places in it.
use Rattle.std.proofs.Common.{◌≡◌, ap, refl, ℕ, false, Option, Some, None}
use Rattle.std.specs.Option.{option_map}
use Rattle.ssq_lex.specs.Printing.{printed}
use Rattle.ssq_ast.specs.declared.expr.ColumnRef.{ColumnRef}
use Rattle.ssq_ast.specs.declared.expr.Expr.{Expr}
use Rattle.ssq_ast.specs.declared.expr.Expr.TheVariants as expr
use Rattle.ssq_ast.specs.declared.expr.Ident.{Ident}
use Rattle.ssq_ast.specs.declared.query.Condition.{Condition}
use Rattle.ssq_ast.specs.declared.query.Deduplicate.{Deduplicate}
use Rattle.ssq_ast.specs.declared.query.Group.{Group}
use Rattle.ssq_ast.specs.declared.query.Group.TheVariants as group
use Rattle.ssq_ast.specs.declared.query.GroupBy.{GroupBy}
use Rattle.ssq_ast.specs.declared.query.Item.{Item}
use Rattle.ssq_ast.specs.declared.query.Item.TheVariants as item
use Rattle.ssq_ast.specs.declared.query.Join.{Join}
use Rattle.ssq_ast.specs.declared.query.Limit.{Limit}
use Rattle.ssq_ast.specs.declared.query.Query.{Query}
use Rattle.ssq_ast.specs.declared.query.Select.{Select}
use Rattle.ssq_ast.specs.declared.query.Stream.{Stream}
use Rattle.ssq_ast.specs.Canonical.{is_some, plain_decl, plain_watermark, plain_stream, plain_item, plain_join, plain_deduplicate, plain_group, plain_group_by, plain_order, plain_select, canonical}
use Rattle.ssq_ast.specs.Expression.{only, of_function, prefixed, null_tested, infixed, between, of_column, within, unary_level, left_level, right_level, erased_ident, erased_column, erased_expr, plain, plain_column}
use Rattle.ssq_ast.specs.Places.{erased_decl, erased_watermark, erased_stream, erased_item, erased_condition, erased_join, erased_deduplicate, erased_group_item, erased_group, erased_order, erased_limit, erased_select, erased}
use Rattle.ssq_ast.specs.Statement.{bare_item, named_item, query_words}
use Rattle.ssq_bind.proofs.SameNames.{map_same, maybe_same}

column_same : (column : ColumnRef) → plain_column (erased_column column) ≡ plain_column column
column_same column = λ i. record { stream = maybe_same (λ (ident : Ident). ident.text) erased_ident (λ ident. ident.text) (λ ident. refl) column.stream i; column = column.column.text }

expr_same : (e : Expr) → plain (erased_expr e) ≡ plain e
expr_same (expr.Number n at) = refl
expr_same (expr.Text text at) = refl
expr_same (expr.Truth truth at) = refl
expr_same (expr.Timestamp moment at) = refl
expr_same (expr.Interval span at) = refl
expr_same (expr.Column column) = ap of_column (column_same column)
expr_same (expr.CountRows at) = refl
expr_same (expr.Aggregate' f at p (only x)) = ap (of_function f) (expr_same x)
expr_same (expr.Unary' o at p (only x)) = λ i. prefixed o (within (unary_level o) (expr_same x i))
expr_same (expr.IsNull' p (only x) at test) = λ i. null_tested (within 4 (expr_same x i)) test
expr_same (expr.Binary' left_at p (only a) o at right_at q (only b)) = λ i. infixed o (within (left_level o) (expr_same a i)) (within (right_level o) (expr_same b i))
expr_same (expr.Between' p (only a) at q (only b) r (only c)) = λ i. between (within 4 (expr_same a i)) (within 4 (expr_same b i)) (within 4 (expr_same c i))

stream_same : (stream : Stream) → plain_stream (erased_stream stream) ≡ plain_stream stream
stream_same stream = λ i. record {
  name = stream.name.text;
  columns = map_same plain_decl erased_decl plain_decl (λ decl. refl) stream.columns i;
  source = stream.source;
  watermark = maybe_same plain_watermark erased_watermark plain_watermark (λ watermark. refl) stream.watermark i;
}

item_same : (x : Item) → plain_item (erased_item x) ≡ plain_item x
item_same (item.Column column at named_at) = ap bare_item (column_same column)
item_same (item.Named value at label) = λ i. named_item (expr_same value i) label.text

join_same : (join : Join) → plain_join (erased_join join) ≡ plain_join join
join_same join = λ i. record { kind = join.kind; has_word = false; stream = join.stream.text; on = expr_same join.on.value i }

condition_same : (condition : Option Condition) → option_map (λ (c : Condition). plain c.value) (option_map erased_condition condition) ≡ option_map (λ (c : Condition). plain c.value) condition
condition_same condition = maybe_same (λ (c : Condition). plain c.value) erased_condition (λ c. plain c.value) (λ c. expr_same c.value) condition

deduplicate_same : (deduplicate : Deduplicate) → plain_deduplicate (erased_deduplicate deduplicate) ≡ plain_deduplicate deduplicate
deduplicate_same deduplicate = map_same (λ (ident : Ident). ident.text) erased_ident (λ ident. ident.text) (λ ident. refl) deduplicate.columns

group_same : (x : Group) → plain_group (erased_group_item x) ≡ plain_group x
group_same (group.Column ident) = refl
group_same (group.Window window) = refl

by_same : (by : GroupBy) → plain_group_by (erased_group by) ≡ plain_group_by by
by_same by = map_same plain_group erased_group_item plain_group group_same by.items

distinct_same : (distinct : Option ℕ) → is_some (option_map {U = ℕ} (λ at. 0) distinct) ≡ is_some distinct
distinct_same None = refl
distinct_same (Some at) = refl

select_same : (select : Select) → plain_select (erased_select select) ≡ plain_select select
select_same select = λ i. record {
  distinct = distinct_same select.distinct i;
  items = map_same plain_item erased_item plain_item item_same select.items i;
  from = select.from.text;
  join = maybe_same plain_join erased_join plain_join join_same select.join i;
  filter = condition_same select.filter i;
  deduplicate = maybe_same plain_deduplicate erased_deduplicate plain_deduplicate deduplicate_same select.deduplicate i;
  group = maybe_same plain_group_by erased_group plain_group_by by_same select.group i;
  having = condition_same select.having i;
  order = map_same plain_order erased_order plain_order (λ order. refl) select.order i;
  limit = maybe_same (λ (limit : Limit). limit.most) erased_limit (λ limit. limit.most) (λ limit. refl) select.limit i;
  mode = select.mode;
}

pub text_same : (query : Query) → canonical (erased query) ≡ canonical query
unfolding canonical
text_same query = λ i. printed (query_words (record { streams = map_same plain_stream erased_stream plain_stream stream_same query.streams i; select = select_same query.select i }))
