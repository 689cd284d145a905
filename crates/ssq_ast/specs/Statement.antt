-- Query files as they are written, above their expressions: the grammar, the query that is written, and which tokens
-- are written as which query.
use Rattle.std.specs.Prelude.{◌≡◌, ℕ, ◌≤◌, ℤ, Bool, true, false, bytes_eq, if◌then◌else◌, List, [], ◌∷◌, ◌++◌, map, drop, Option, Some, None, IfSome}
use Rattle.std.specs.List.{flat_map}
use Rattle.std.specs.Option.{option_map}
use Rattle.ssq_lex.specs.declared.keyword.Keyword.{Keyword}
use Rattle.ssq_lex.specs.declared.keyword.Keyword.TheVariants as key
use Rattle.ssq_lex.specs.declared.symbol.Symbol.TheVariants as mark
use Rattle.ssq_lex.specs.Lexeme.{Lexeme, Lexed, keyword, name, number, quoted, symbol}
use Rattle.ssq_time.specs.Time.{span_of}
use Rattle.ssq_value.specs.declared.column.ColType.{ColType}
use Rattle.ssq_value.specs.declared.column.ColType.TheVariants as kind
use Rattle.ssq_ast.specs.declared.expr.Expr.{Expr}
use Rattle.ssq_ast.specs.declared.expr.Expr.TheVariants as expr
use Rattle.ssq_ast.specs.declared.expr.Ident.{Ident}
use Rattle.ssq_ast.specs.declared.expr.Span.{Span}
use Rattle.ssq_ast.specs.declared.query.ColumnDecl.{ColumnDecl}
use Rattle.ssq_ast.specs.declared.query.Condition.{Condition}
use Rattle.ssq_ast.specs.declared.query.Deduplicate.{Deduplicate}
use Rattle.ssq_ast.specs.declared.query.Direction.{Direction}
use Rattle.ssq_ast.specs.declared.query.Direction.TheVariants as direction
use Rattle.ssq_ast.specs.declared.query.Group.{Group}
use Rattle.ssq_ast.specs.declared.query.Group.TheVariants as group
use Rattle.ssq_ast.specs.declared.query.GroupBy.{GroupBy}
use Rattle.ssq_ast.specs.declared.query.Item.{Item}
use Rattle.ssq_ast.specs.declared.query.Item.TheVariants as item
use Rattle.ssq_ast.specs.declared.query.Join.{Join}
use Rattle.ssq_ast.specs.declared.query.JoinKind.{JoinKind}
use Rattle.ssq_ast.specs.declared.query.JoinKind.TheVariants as join
use Rattle.ssq_ast.specs.declared.query.Limit.{Limit}
use Rattle.ssq_ast.specs.declared.query.Mode.{Mode}
use Rattle.ssq_ast.specs.declared.query.Mode.TheVariants as mode
use Rattle.ssq_ast.specs.declared.query.OrderBy.{OrderBy}
use Rattle.ssq_ast.specs.declared.query.Query.{Query}
use Rattle.ssq_ast.specs.declared.query.Select.{Select}
use Rattle.ssq_ast.specs.declared.query.Stream.{Stream}
use Rattle.ssq_ast.specs.declared.query.Watermark.{Watermark}
use Rattle.ssq_ast.specs.Expression.{Words, Written, WrittenColumn, words, in_brackets, column_words, IsRegular, opens, tallest, first, behind, ident, column_tree, tree}

-- name type
pub record WrittenDecl : Type 0 where
  pub name : List ℕ
  pub kind : ColType

-- WATERMARK FOR name DELAY text
pub record WrittenWatermark : Type 0 where
  pub column : List ℕ
  pub delay : Span

-- decl = CREATE STREAM name "(" name type { "," name type } ")" FROM text [ WATERMARK FOR name DELAY text ] ";"
pub record WrittenStream : Type 0 where
  pub name : List ℕ
  pub columns : List WrittenDecl
  pub source : List ℕ
  pub watermark : Option WrittenWatermark

-- item = column | or AS name
pub data WrittenItem : Type 0 where
  bare_item : WrittenColumn → WrittenItem
  named_item : Written → List ℕ → WrittenItem

-- join = [ INNER | ( LEFT | RIGHT ) [ OUTER ] ] JOIN name ON or
-- INNER and OUTER may stand or not: `has_word` tells.
pub record WrittenJoin : Type 0 where
  pub kind : JoinKind
  pub has_word : Bool
  pub stream : List ℕ
  pub on : Written

-- WINDOW "(" name "," text [ "," text ] ")"
pub record WrittenWindow : Type 0 where
  pub column : List ℕ
  pub size : Span
  pub slide : Option Span

-- group = name | WINDOW ..
pub data WrittenGroup : Type 0 where
  column_group : List ℕ → WrittenGroup
  window_group : WrittenWindow → WrittenGroup

-- order = name [ ASC | DESC ]
-- ASC may stand or not: `has_word` tells.
pub record WrittenOrder : Type 0 where
  pub name : List ℕ
  pub direction : Direction
  pub has_word : Bool

-- select = SELECT [ DISTINCT ] item { "," item } FROM name [ join ]
--          [ WHERE or ] [ DEDUPLICATE BY name { "," name } ]
--          [ GROUP BY group { "," group } ] [ HAVING or ]
--          [ ORDER BY order { "," order } ] [ LIMIT number ] OUTPUT mode ";"
-- No order is no ORDER BY.
pub record WrittenSelect : Type 0 where
  pub distinct : Bool
  pub items : List WrittenItem
  pub from : List ℕ
  pub join : Option WrittenJoin
  pub filter : Option Written
  pub deduplicate : Option (List (List ℕ))
  pub group : Option (List WrittenGroup)
  pub having : Option Written
  pub order : List WrittenOrder
  pub limit : Option ℤ
  pub mode : Mode

-- query = { decl } select
pub record WrittenQuery : Type 0 where
  pub streams : List WrittenStream
  pub select : WrittenSelect

abbrev pub comma : Lexeme
comma = symbol mark.Comma

-- parts with commas between them
abbrev pub separated : List Words → Words
separated [] = []
separated (part ∷ []) = part
separated (part ∷ next ∷ parts) = part ++ comma ∷ separated (next ∷ parts)

-- type = BIGINT | STRING | TIMESTAMP | BOOLEAN
abbrev pub type_key : ColType → Keyword
type_key kind.Bigint = key.Bigint
type_key kind.Str = key.String
type_key kind.Timestamp = key.Timestamp
type_key kind.Bool = key.Boolean

-- mode = APPEND | UPDATE | COMPLETE
abbrev pub mode_key : Mode → Keyword
mode_key mode.Append = key.Append
mode_key mode.Update = key.Update
mode_key mode.Complete = key.Complete

abbrev pub name_words : List ℕ → Words
name_words text = name text ∷ []

abbrev pub decl_words : WrittenDecl → Words
decl_words decl = name decl.name ∷ keyword (type_key decl.kind) ∷ []

abbrev pub watermark_words : Option WrittenWatermark → Words
watermark_words None = []
watermark_words (Some watermark) =
    keyword key.Watermark ∷ keyword key.For ∷ name watermark.column ∷ keyword key.Delay ∷ quoted watermark.delay.text ∷ []

abbrev pub declared_words : WrittenStream → Words
declared_words stream =
    keyword key.Create ∷ keyword key.Stream ∷ name stream.name ∷ in_brackets (separated (map decl_words stream.columns))
    ++ keyword key.From ∷ quoted stream.source ∷ watermark_words stream.watermark ++ symbol mark.Semicolon ∷ []

abbrev pub distinct_words : Bool → Words
distinct_words true = keyword key.Distinct ∷ []
distinct_words false = []

abbrev pub item_words : WrittenItem → Words
item_words (bare_item column) = column_words column
item_words (named_item value label) = words value ++ keyword key.As ∷ name label ∷ []

abbrev pub kind_words : JoinKind → Bool → Words
kind_words join.Inner true = keyword key.Inner ∷ []
kind_words join.Inner false = []
kind_words join.Left true = keyword key.Left ∷ keyword key.Outer ∷ []
kind_words join.Left false = keyword key.Left ∷ []
kind_words join.Right true = keyword key.Right ∷ keyword key.Outer ∷ []
kind_words join.Right false = keyword key.Right ∷ []

abbrev pub join_words : Option WrittenJoin → Words
join_words None = []
join_words (Some join) =
    kind_words join.kind join.has_word ++ keyword key.Join ∷ name join.stream ∷ keyword key.On ∷ words join.on

-- a condition after its keyword
abbrev pub condition_words : Keyword → Option Written → Words
condition_words k None = []
condition_words k (Some condition) = keyword k ∷ words condition

abbrev pub deduplicate_words : Option (List (List ℕ)) → Words
deduplicate_words None = []
deduplicate_words (Some columns) = keyword key.Deduplicate ∷ keyword key.By ∷ separated (map name_words columns)

abbrev pub slide_words : Option Span → Words
slide_words None = []
slide_words (Some slide) = comma ∷ quoted slide.text ∷ []

abbrev pub window_words : WrittenWindow → Words
window_words window =
    keyword key.Window ∷ in_brackets (name window.column ∷ comma ∷ quoted window.size.text ∷ slide_words window.slide)

abbrev pub group_item_words : WrittenGroup → Words
group_item_words (column_group column) = name column ∷ []
group_item_words (window_group window) = window_words window

abbrev pub group_words : Option (List WrittenGroup) → Words
group_words None = []
group_words (Some items) = keyword key.Group ∷ keyword key.By ∷ separated (map group_item_words items)

abbrev pub direction_words : Direction → Bool → Words
direction_words direction.Ascending true = keyword key.Asc ∷ []
direction_words direction.Ascending false = []
direction_words direction.Descending has_word = keyword key.Desc ∷ []

abbrev pub order_item_words : WrittenOrder → Words
order_item_words order = name order.name ∷ direction_words order.direction order.has_word

abbrev pub order_words : List WrittenOrder → Words
order_words [] = []
order_words (order ∷ orders) = keyword key.Order ∷ keyword key.By ∷ separated (map order_item_words (order ∷ orders))

abbrev pub limit_words : Option ℤ → Words
limit_words None = []
limit_words (Some most) = keyword key.Limit ∷ number most ∷ []

-- up to WHERE
abbrev pub front_words : WrittenSelect → Words
front_words select =
    keyword key.Select ∷ distinct_words select.distinct ++ separated (map item_words select.items)
    ++ keyword key.From ∷ name select.from ∷ join_words select.join ++ condition_words key.Where select.filter

-- and from there on
abbrev pub back_words : WrittenSelect → Words
back_words select =
    deduplicate_words select.deduplicate ++ group_words select.group ++ condition_words key.Having select.having
    ++ order_words select.order ++ limit_words select.limit
    ++ keyword key.Output ∷ keyword (mode_key select.mode) ∷ symbol mark.Semicolon ∷ []

abbrev pub select_words : WrittenSelect → Words
select_words select = front_words select ++ back_words select

-- how a query is written
abbrev pub query_words : WrittenQuery → Words
query_words query = flat_map declared_words query.streams ++ select_words query.select

-- The parts of a list by the places of their words, with so many words between two parts.
abbrev pub each_tree : {A B : Type 0} → (A → Words) → (A → List ℕ → B) → ℕ → List A → List ℕ → List B
each_tree written made gap [] places = []
each_tree written made gap (part ∷ parts) places =
    made part places ∷ each_tree written made gap parts (drop gap (behind (written part) places))

abbrev pub decl_tree : WrittenDecl → List ℕ → ColumnDecl
decl_tree decl places = record { name = ident decl.name places; kind = decl.kind }

abbrev pub watermark_tree : WrittenWatermark → List ℕ → Watermark
watermark_tree watermark places = record { column = ident watermark.column (drop 2 places); delay = watermark.delay }

abbrev pub declared_tree : WrittenStream → List ℕ → Stream
declared_tree stream places =
    let from_columns = drop 4 places in
    let from_watermark = drop 3 (behind (separated (map decl_words stream.columns)) from_columns) in
    record {
      at = first places;
      name = ident stream.name (drop 2 places);
      columns = each_tree decl_words decl_tree 1 stream.columns from_columns;
      source = stream.source;
      watermark = option_map (λ watermark. watermark_tree watermark from_watermark) stream.watermark;
    }

-- `v AS v` is the column v alone
abbrev pub item_of : Expr → ℕ → Ident → Item
item_of (expr.Column column) at label =
    if bytes_eq column.column.text label.text then item.Column column at label.at else item.Named (expr.Column column) at label
item_of value at label = item.Named value at label

abbrev pub item_tree : WrittenItem → List ℕ → Item
item_tree (bare_item column) places = let made = column_tree column places in item.Column made (first places) made.column.at
item_tree (named_item value label) places =
    item_of (tree value places) (first places) (ident label (drop 1 (behind (words value) places)))

-- a condition after its keyword
abbrev pub condition_tree : Written → List ℕ → Condition
condition_tree condition places = record { at = first places; value = tree condition (drop 1 places) }

abbrev pub join_tree : WrittenJoin → List ℕ → Join
join_tree join places =
    let from_join = behind (kind_words join.kind join.has_word) places in
    record {
      kind = join.kind;
      at = first from_join;
      stream = ident join.stream (drop 1 from_join);
      on = condition_tree join.on (drop 2 from_join);
    }

abbrev pub deduplicate_tree : List (List ℕ) → List ℕ → Deduplicate
deduplicate_tree columns places = record { at = first places; columns = each_tree name_words ident 1 columns (drop 2 places) }

abbrev pub group_item_tree : WrittenGroup → List ℕ → Group
group_item_tree (column_group column) places = group.Column (ident column places)
group_item_tree (window_group window) places =
    group.Window (record { at = first places; column = ident window.column (drop 2 places); size = window.size; slide = window.slide })

abbrev pub group_tree : List WrittenGroup → List ℕ → GroupBy
group_tree items places = record { at = first places; items = each_tree group_item_words group_item_tree 1 items (drop 2 places) }

abbrev pub order_item_tree : WrittenOrder → List ℕ → OrderBy
order_item_tree order places = record { name = ident order.name places; direction = order.direction }

abbrev pub limit_tree : ℤ → List ℕ → Limit
limit_tree most places = record { at = first places; most = most }

abbrev pub distinct_tree : Bool → List ℕ → Option ℕ
distinct_tree true places = Some (first places)
distinct_tree false places = None

abbrev pub select_tree : WrittenSelect → List ℕ → Select
select_tree select places =
    let from_distinct = drop 1 places in
    let from_items = behind (distinct_words select.distinct) from_distinct in
    let from_from = behind (separated (map item_words select.items)) from_items in
    let from_join = drop 2 from_from in
    let from_filter = behind (join_words select.join) from_join in
    let from_deduplicate = behind (condition_words key.Where select.filter) from_filter in
    let from_group = behind (deduplicate_words select.deduplicate) from_deduplicate in
    let from_having = behind (group_words select.group) from_group in
    let from_order = behind (condition_words key.Having select.having) from_having in
    let from_limit = behind (order_words select.order) from_order in
    record {
      distinct = distinct_tree select.distinct from_distinct;
      items = each_tree item_words item_tree 1 select.items from_items;
      from = ident select.from (drop 1 from_from);
      join = option_map (λ join. join_tree join from_join) select.join;
      filter = option_map (λ condition. condition_tree condition from_filter) select.filter;
      deduplicate = option_map (λ columns. deduplicate_tree columns from_deduplicate) select.deduplicate;
      group = option_map (λ items. group_tree items from_group) select.group;
      having = option_map (λ condition. condition_tree condition from_having) select.having;
      order = each_tree order_item_words order_item_tree 1 select.order (drop 2 from_order);
      limit = option_map (λ most. limit_tree most from_limit) select.limit;
      mode = select.mode;
    }

-- the query that is written, where the words stand at these places
abbrev pub query_tree : WrittenQuery → List ℕ → Query
query_tree query places = record {
  streams = each_tree declared_words declared_tree 0 query.streams places;
  select = select_tree query.select (behind (flat_map declared_words query.streams) places);
}

-- at least one stands there
abbrev pub IsFilled : {A : Type 0} → List A → Type 0
IsFilled [] = ⊥
IsFilled (x ∷ xs) = Unit {0}

-- P holds of each
abbrev pub Each : {A : Type 0} → (A → Type 0) → List A → Type 0
Each P [] = Unit {0}
Each P (x ∷ xs) = P x × Each P xs

-- the span is the value of its text
abbrev pub IsSpanText : Span → Type 0
IsSpanText span = span_of span.text ≡ Some span.micros

-- its operands stand where the grammar has them, at most 64 of its brackets are open at once, and no tree in it is
-- higher than 64
pub record IsFit (value : Written) : Type 0 where
  pub regular : IsRegular value
  pub brackets : opens value ≤ 64
  pub heights : tallest value ≤ 64

pub record IsRegularStream (stream : WrittenStream) : Type 0 where
  pub columns : IsFilled stream.columns
  pub delay : IfSome stream.watermark (λ watermark. IsSpanText watermark.delay)

-- an item whose expression, where it has one, is P
abbrev pub IsRegularItem : (Written → Type 0) → WrittenItem → Type 0
IsRegularItem P (bare_item column) = Unit {0}
IsRegularItem P (named_item value label) = P value

abbrev pub IsRegularGroup : WrittenGroup → Type 0
IsRegularGroup (column_group column) = Unit {0}
IsRegularGroup (window_group window) = IsSpanText window.size × IfSome window.slide IsSpanText

pub record IsRegularSelect (P : Written → Type 0) (select : WrittenSelect) : Type 0 where
  pub some_items : IsFilled select.items
  pub items : Each (IsRegularItem P) select.items
  pub on : IfSome select.join (λ join. P join.on)
  pub filter : IfSome select.filter P
  pub deduplicate : IfSome select.deduplicate IsFilled
  pub some_group : IfSome select.group IsFilled
  pub group : IfSome select.group (Each IsRegularGroup)
  pub having : IfSome select.having P

-- lists have a part, spans and times are the values of their texts, and each expression is P
pub record IsRegularQuery (P : Written → Type 0) (query : WrittenQuery) : Type 0 where
  pub streams : Each IsRegularStream query.streams
  pub select : IsRegularSelect P query.select

-- The tokens of a file are a way to write this query, by the grammar, with its places.
pub record IsWritten (tokens : List Lexed) (query : Query) : Type 0 where
  pub written : WrittenQuery
  pub regular : IsRegularQuery IsFit written
  pub said : map (λ token. token.said) tokens ≡ query_words written
  pub meant : query_tree written (map (λ token. token.start) tokens) ≡ query
