-- How queries are read, one definition for each line of the grammar.
use Rattle.std.specs.Prelude.{ℕ, zero, suc, Bool, true, false, List, [], ◌∷◌, ◌++◌, length, drop, Option, Some, None, Result, Ok, Err}
use Rattle.ssq_ast.specs.declared.expr.Expr.{Expr}
use Rattle.ssq_ast.specs.declared.expr.Expr.TheVariants as expr
use Rattle.ssq_ast.specs.declared.expr.Ident.{Ident}
use Rattle.ssq_ast.specs.declared.expr.Span.{Span}
use Rattle.ssq_ast.specs.declared.query.ColumnDecl.{ColumnDecl}
use Rattle.ssq_ast.specs.declared.query.Condition.{Condition}
use Rattle.ssq_ast.specs.declared.query.Deduplicate.{Deduplicate}
use Rattle.ssq_ast.specs.declared.query.Direction.{Direction}
use Rattle.ssq_ast.specs.declared.query.Direction.TheVariants as direction
use Rattle.ssq_ast.specs.declared.query.Group.{Group}
use Rattle.ssq_ast.specs.declared.query.Group.TheVariants as group
use Rattle.ssq_ast.specs.declared.query.GroupBy.{GroupBy}
use Rattle.ssq_ast.specs.declared.query.Item.{Item}
use Rattle.ssq_ast.specs.declared.query.Item.TheVariants as item
use Rattle.ssq_ast.specs.declared.query.Join.{Join}
use Rattle.ssq_ast.specs.declared.query.JoinKind.{JoinKind}
use Rattle.ssq_ast.specs.declared.query.JoinKind.TheVariants as join
use Rattle.ssq_ast.specs.declared.query.Limit.{Limit}
use Rattle.ssq_ast.specs.declared.query.Mode.{Mode}
use Rattle.ssq_ast.specs.declared.query.Mode.TheVariants as mode
use Rattle.ssq_ast.specs.declared.query.OrderBy.{OrderBy}
use Rattle.ssq_ast.specs.declared.query.Query.{Query}
use Rattle.ssq_ast.specs.declared.query.Select.{Select}
use Rattle.ssq_ast.specs.declared.query.Stream.{Stream}
use Rattle.ssq_ast.specs.declared.query.Watermark.{Watermark}
use Rattle.ssq_ast.specs.declared.query.Window.{Window}
use Rattle.ssq_ast.specs.Statement as statement
use Rattle.ssq_lex.specs.declared.keyword.Keyword.{Keyword}
use Rattle.ssq_lex.specs.declared.keyword.Keyword.TheVariants as key
use Rattle.ssq_lex.specs.declared.symbol.Symbol.TheVariants as mark
use Rattle.ssq_value.specs.declared.column.ColType.{ColType}
use Rattle.ssq_value.specs.declared.column.ColType.TheVariants as kind
use Rattle.ssq_parse.specs.declared.fault.Stop.{Stop}
use Rattle.ssq_parse.specs.declared.tree.Tree.{Tree}
use Rattle.ssq_parse.specs.Expressions.{whole_at}
use Rattle.ssq_parse.specs.Reading.{Ahead, Made, Read, ◌>>=◌, place, expected, behind, seen, sees, is_keyword, is_symbol, is_name, keyword_at, symbol_at, name_at, quoted_at, number_at, span_at}

-- ---- lists with commas. Each turn takes a token, so as many turns as there are tokens are enough.

abbrev pub list_then : {A : Type 0} → (List A → Ahead → Read (List A)) → List A → Option ℕ → Ahead → Read (List A)
list_then more found None tokens = Ok (found, tokens)
list_then more found (Some comma) tokens = more found (drop 1 tokens)

-- after the parts that were found
unfoldable pub list_from : {A : Type 0} → (Ahead → Read A) → ℕ → List A → Ahead → Read (List A)
list_from part zero found tokens = expected tokens
list_from part (suc turns) found tokens = do
  next ← part tokens
  list_then (list_from part turns) (found ++ next.0 ∷ []) (seen (is_symbol mark.Comma) next.1) next.1

unfoldable pub list_at : {A : Type 0} → (Ahead → Read A) → Ahead → Read (List A)
list_at part tokens = list_from part (length tokens) [] tokens

-- ---- declarations

-- the first of these keywords that is next, and what it stands for; the last has to be
abbrev pub or_type : ColType → Option ℕ → Read ColType → Ahead → Read ColType
or_type found None others tokens = others
or_type found (Some at) others tokens = Ok (found, drop 1 tokens)

unfoldable pub type_at : Ahead → Read ColType
type_at tokens =
    or_type kind.Bigint (seen (is_keyword key.Bigint) tokens) (
    or_type kind.Str (seen (is_keyword key.String) tokens) (
    or_type kind.Timestamp (seen (is_keyword key.Timestamp) tokens) (
    keyword_at key.Boolean tokens >>= (λ found. Ok (kind.Bool, found.1))) tokens) tokens) tokens

unfoldable pub decl_at : Ahead → Read ColumnDecl
decl_at tokens = do
  called ← name_at tokens
  typed ← type_at called.1
  Ok (record { name = called.0; kind = typed.0 }, typed.1)

abbrev pub watermark_by : Option ℕ → Ahead → Read (Option Watermark)
watermark_by None tokens = Ok (None, tokens)
watermark_by (Some at) tokens = do
  for ← keyword_at key.For (drop 1 tokens)
  column ← name_at for.1
  delay ← keyword_at key.Delay column.1
  span ← span_at delay.1
  Ok (Some (record { column = column.0; delay = span.0 }), span.1)

unfoldable pub watermark_at : Ahead → Read (Option Watermark)
watermark_at tokens = watermark_by (seen (is_keyword key.Watermark) tokens) tokens

-- after CREATE
unfoldable pub stream_at : ℕ → Ahead → Read Stream
stream_at at tokens = do
  declared ← keyword_at key.Stream tokens
  called ← name_at declared.1
  opened ← symbol_at mark.LeftParen called.1
  columns ← list_at decl_at opened.1
  closed ← symbol_at mark.RightParen columns.1
  from ← keyword_at key.From closed.1
  source ← quoted_at from.1
  watermark ← watermark_at source.1
  ended ← symbol_at mark.Semicolon watermark.1
  Ok (record { at = at; name = called.0; columns = columns.0; source = source.0.1; watermark = watermark.0 }, ended.1)

abbrev pub streams_then : (List Stream → Ahead → Read (List Stream)) → List Stream → Option ℕ → Ahead → Read (List Stream)
streams_then more found None tokens = Ok (found, tokens)
streams_then more found (Some at) tokens = do
  next ← stream_at at (drop 1 tokens)
  more (found ++ next.0 ∷ []) next.1

unfoldable pub streams_from : ℕ → List Stream → Ahead → Read (List Stream)
streams_from zero found tokens = Ok (found, tokens)
streams_from (suc turns) found tokens = streams_then (streams_from turns) found (seen (is_keyword key.Create) tokens) tokens

unfoldable pub streams_at : Ahead → Read (List Stream)
streams_at tokens = streams_from (length tokens) [] tokens

-- ---- items

abbrev pub item_of : Expr → ℕ → Ident → Item
item_of = statement.item_of

-- an item without AS is a column, whose first token is a name
abbrev pub bare_by : Bool → Expr → ℕ → Stop → Result Item Stop
bare_by true (expr.Column column) at fault = Ok (item.Column column at column.column.at)
bare_by is_name other at fault = Err fault

abbrev pub bare_at : Bool → Expr → ℕ → Ahead → Read Item
bare_at true (expr.Column column) at tokens = Ok (item.Column column at column.column.at, tokens)
bare_at is_name other at tokens = expected tokens

abbrev pub item_by : Bool → Tree → Option ℕ → Ahead → Read Item
item_by is_name tree None tokens = bare_at is_name tree.value tree.at tokens
item_by is_name tree (Some at) tokens = do
  label ← name_at (drop 1 tokens)
  Ok (item_of tree.value tree.at label.0, label.1)

unfoldable pub item_at : Ahead → Read Item
item_at tokens = do
  value ← whole_at tokens
  item_by (sees is_name tokens) value.0 (seen (is_keyword key.As) value.1) value.1

-- ---- what stands after the items

abbrev pub condition_by : Option ℕ → Ahead → Read (Option Condition)
condition_by None tokens = Ok (None, tokens)
condition_by (Some at) tokens = do
  value ← whole_at (drop 1 tokens)
  Ok (Some (record { at = at; value = value.0.value }), value.1)

unfoldable pub condition_at : Keyword → Ahead → Read (Option Condition)
condition_at k tokens = condition_by (seen (is_keyword k) tokens) tokens

-- from JOIN on
unfoldable pub joined_at : JoinKind → Ahead → Read (Option Join)
joined_at kind tokens = do
  word ← keyword_at key.Join tokens
  stream ← name_at word.1
  on ← keyword_at key.On stream.1
  value ← whole_at on.1
  Ok (Some (record { kind = kind; at = word.0; stream = stream.0; on = record { at = on.0; value = value.0.value } }), value.1)

-- OUTER may stand there or not
abbrev pub outer_at : JoinKind → Ahead → Read (Option Join)
outer_at kind tokens = joined_at kind (behind (seen (is_keyword key.Outer) tokens) tokens)

abbrev pub bare_join : Bool → Ahead → Read (Option Join)
bare_join false tokens = Ok (None, tokens)
bare_join true tokens = joined_at join.Inner tokens

abbrev pub right_join : Option ℕ → Ahead → Read (Option Join)
right_join None tokens = bare_join (sees (is_keyword key.Join) tokens) tokens
right_join (Some at) tokens = outer_at join.Right (drop 1 tokens)

abbrev pub left_join : Option ℕ → Ahead → Read (Option Join)
left_join None tokens = right_join (seen (is_keyword key.Right) tokens) tokens
left_join (Some at) tokens = outer_at join.Left (drop 1 tokens)

abbrev pub inner_join : Option ℕ → Ahead → Read (Option Join)
inner_join None tokens = left_join (seen (is_keyword key.Left) tokens) tokens
inner_join (Some at) tokens = joined_at join.Inner (drop 1 tokens)

unfoldable pub join_at : Ahead → Read (Option Join)
join_at tokens = inner_join (seen (is_keyword key.Inner) tokens) tokens

abbrev pub deduplicate_by : Option ℕ → Ahead → Read (Option Deduplicate)
deduplicate_by None tokens = Ok (None, tokens)
deduplicate_by (Some at) tokens = do
  by ← keyword_at key.By (drop 1 tokens)
  columns ← list_at name_at by.1
  Ok (Some (record { at = at; columns = columns.0 }), columns.1)

unfoldable pub deduplicate_at : Ahead → Read (Option Deduplicate)
deduplicate_at tokens = deduplicate_by (seen (is_keyword key.Deduplicate) tokens) tokens

abbrev pub slide_by : Option ℕ → Ahead → Read (Option Span)
slide_by None tokens = Ok (None, tokens)
slide_by (Some at) tokens = span_at (drop 1 tokens) >>= (λ found. Ok (Some found.0, found.1))

unfoldable pub slide_at : Ahead → Read (Option Span)
slide_at tokens = slide_by (seen (is_symbol mark.Comma) tokens) tokens

-- after WINDOW
unfoldable pub window_at : ℕ → Ahead → Read Window
window_at at tokens = do
  opened ← symbol_at mark.LeftParen tokens
  column ← name_at opened.1
  comma ← symbol_at mark.Comma column.1
  size ← span_at comma.1
  slide ← slide_at size.1
  closed ← symbol_at mark.RightParen slide.1
  Ok (record { at = at; column = column.0; size = size.0; slide = slide.0 }, closed.1)

abbrev pub group_item_by : Option ℕ → Ahead → Read Group
group_item_by None tokens = name_at tokens >>= (λ found. Ok (group.Column found.0, found.1))
group_item_by (Some at) tokens = window_at at (drop 1 tokens) >>= (λ found. Ok (group.Window found.0, found.1))

unfoldable pub group_item_at : Ahead → Read Group
group_item_at tokens = group_item_by (seen (is_keyword key.Window) tokens) tokens

abbrev pub group_by : Option ℕ → Ahead → Read (Option GroupBy)
group_by None tokens = Ok (None, tokens)
group_by (Some at) tokens = do
  by ← keyword_at key.By (drop 1 tokens)
  items ← list_at group_item_at by.1
  Ok (Some (record { at = at; items = items.0 }), items.1)

unfoldable pub group_at : Ahead → Read (Option GroupBy)
group_at tokens = group_by (seen (is_keyword key.Group) tokens) tokens

abbrev pub direction_by : Option ℕ → Ahead → Read Direction
direction_by None tokens = Ok (direction.Ascending, behind (seen (is_keyword key.Asc) tokens) tokens)
direction_by (Some at) tokens = Ok (direction.Descending, drop 1 tokens)

unfoldable pub direction_at : Ahead → Read Direction
direction_at tokens = direction_by (seen (is_keyword key.Desc) tokens) tokens

unfoldable pub order_item_at : Ahead → Read OrderBy
order_item_at tokens = do
  called ← name_at tokens
  directed ← direction_at called.1
  Ok (record { name = called.0; direction = directed.0 }, directed.1)

abbrev pub order_by : Option ℕ → Ahead → Read (List OrderBy)
order_by None tokens = Ok ([], tokens)
order_by (Some at) tokens = keyword_at key.By (drop 1 tokens) >>= (λ by. list_at order_item_at by.1)

unfoldable pub order_at : Ahead → Read (List OrderBy)
order_at tokens = order_by (seen (is_keyword key.Order) tokens) tokens

abbrev pub limit_by : Option ℕ → Ahead → Read (Option Limit)
limit_by None tokens = Ok (None, tokens)
limit_by (Some at) tokens = number_at (drop 1 tokens) >>= (λ most. Ok (Some (record { at = at; most = most.0 }), most.1))

unfoldable pub limit_at : Ahead → Read (Option Limit)
limit_at tokens = limit_by (seen (is_keyword key.Limit) tokens) tokens

abbrev pub or_mode : Mode → Option ℕ → Read Mode → Ahead → Read Mode
or_mode found None others tokens = others
or_mode found (Some at) others tokens = Ok (found, drop 1 tokens)

abbrev pub mode_by : Ahead → Read Mode
mode_by tokens =
    or_mode mode.Append (seen (is_keyword key.Append) tokens) (
    or_mode mode.Update (seen (is_keyword key.Update) tokens) (
    keyword_at key.Complete tokens >>= (λ found. Ok (mode.Complete, found.1))) tokens) tokens

unfoldable pub mode_at : Ahead → Read Mode
mode_at tokens = keyword_at key.Output tokens >>= (λ output. mode_by output.1)

-- ---- queries

-- after SELECT and DISTINCT
abbrev pub select_from : Option ℕ → Ahead → Read Select
select_from distinct tokens = do
  items ← list_at item_at tokens
  from ← keyword_at key.From items.1
  stream ← name_at from.1
  joined ← join_at stream.1
  filter ← condition_at key.Where joined.1
  deduplicated ← deduplicate_at filter.1
  grouped ← group_at deduplicated.1
  having ← condition_at key.Having grouped.1
  ordered ← order_at having.1
  limited ← limit_at ordered.1
  shown ← mode_at limited.1
  ended ← symbol_at mark.Semicolon shown.1
  Ok (
    record {
      distinct = distinct;
      items = items.0;
      from = stream.0;
      join = joined.0;
      filter = filter.0;
      deduplicate = deduplicated.0;
      group = grouped.0;
      having = having.0;
      order = ordered.0;
      limit = limited.0;
      mode = shown.0;
    },
    ended.1,
  )

unfoldable pub select_at : Ahead → Read Select
select_at tokens = do
  word ← keyword_at key.Select tokens
  select_from (seen (is_keyword key.Distinct) word.1) (behind (seen (is_keyword key.Distinct) word.1) word.1)

-- nothing stands after a query
abbrev pub alone : Query → Option ℕ → Ahead → Made Query
alone query None tokens = Ok query
alone query (Some at) tokens = expected tokens

abbrev pub whole_query : Read Query → Made Query
whole_query (Ok found) = alone found.0 (place found.1) found.1
whole_query (Err refusal) = Err refusal

abbrev pub query_from : Ahead → Read Query
query_from tokens = do
  streams ← streams_at tokens
  select ← select_at streams.1
  Ok (record { streams = streams.0; select = select.0 }, select.1)

unfoldable pub query_at : Ahead → Made Query
query_at tokens = whole_query (query_from tokens)
