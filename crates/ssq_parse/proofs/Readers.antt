-- What holds of the readers of words, and of a reader after another, holds of the readers of a query.
use Rattle.std.proofs.Common.{◌≡◌, ℕ, Bool, true, false, ap, [], drop, refl, Option, Some, None, Ok}
use Rattle.ssq_ast.specs.declared.expr.Expr.{Expr}
use Rattle.ssq_ast.specs.declared.expr.Expr.TheVariants as expr
use Rattle.ssq_ast.specs.declared.query.Direction.TheVariants as direction
use Rattle.ssq_ast.specs.declared.query.JoinKind.{JoinKind}
use Rattle.ssq_ast.specs.declared.query.JoinKind.TheVariants as join
use Rattle.ssq_ast.specs.declared.query.Mode.TheVariants as mode
use Rattle.ssq_lex.specs.declared.keyword.Keyword.{Keyword}
use Rattle.ssq_lex.specs.declared.keyword.Keyword.TheVariants as key
use Rattle.ssq_lex.specs.declared.symbol.Symbol.{Symbol}
use Rattle.ssq_lex.specs.declared.symbol.Symbol.TheVariants as mark
use Rattle.ssq_lex.specs.Lexeme as lexeme
use Rattle.ssq_lex.specs.Lexeme.{Lexeme}
use Rattle.ssq_value.specs.declared.column.ColType.TheVariants as kind
use Rattle.ssq_parse.specs.Deep.{open_behind}
use Rattle.ssq_parse.specs.Expressions.{whole_at}
use Rattle.ssq_parse.specs.Queries.{list_at, or_type, type_at, decl_at, watermark_at, stream_at, streams_at, bare_at, item_by, item_at, condition_by, condition_at, joined_at, outer_at, bare_join, right_join, left_join, inner_join, join_at, deduplicate_by, deduplicate_at, window_at, group_item_by, group_item_at, group_by, group_at, direction_by, direction_at, order_item_at, order_by, order_at, limit_by, limit_at, or_mode, mode_at, select_from, select_at, query_from}
use Rattle.ssq_parse.specs.Reading.{Ahead, Read, ◌>>=◌, expected, behind, seen, sees, is_keyword, is_name, keyword_at, symbol_at, name_at, quoted_at, number_at}
use Rattle.ssq_parse.proofs.LocalExpressions.{whole_none}

-- ---- lists of nothing

name_none : name_at [] ≡ expected []
unfolding name_at
name_none = refl

decl_none : decl_at [] ≡ expected []
unfolding decl_at name_at
decl_none = refl

item_none : item_at [] ≡ expected []
unfolding item_at
item_none = ap (λ read. read >>= (λ value. item_by false value.0 (seen (is_keyword key.As) value.1) value.1)) whole_none

group_item_none : group_item_at [] ≡ expected []
unfolding group_item_at name_at
group_item_none = refl

order_item_none : order_item_at [] ≡ expected []
unfolding order_item_at name_at
order_item_none = refl

-- ---- readers of a kind

-- Readers that are read where so many brackets stand open, and so many after them; `After` says the same where a word
-- that is no bracket stands in front.
pub record Family (Is Behind : (A : Type 0) → ℕ → ℕ → (Ahead → Read A) → Type 0) : Type 1 where
  pub pure : {A : Type 0} {many : ℕ} (x : A) → Is A many many (λ tokens. Ok (x, tokens))
  pub nothing : {A : Type 0} {many more : ℕ} → Is A many more expected
  pub followed : {A B : Type 0} {many more most : ℕ} {r : Ahead → Read A} {f : A → Ahead → Read B} → Is A many more r → ((x : A) → Is B more most (f x))
      → Is B many most (λ tokens. r tokens >>= (λ found. f found.0 found.1))
  pub skip : {A : Type 0} {many more : ℕ} {r : Ahead → Read A} → Is A many more r → Behind A many more (λ tokens. r (drop 1 tokens))
  pub if_keyword : {A : Type 0} {many more : ℕ} (k : Keyword) (by : Option ℕ → Ahead → Read A) → Is A many more (by None)
      → ((at : ℕ) → Behind A many more (by (Some at))) → Is A many more (λ tokens. by (seen (is_keyword k) tokens) tokens)
  pub if_sees : {A : Type 0} {many more : ℕ} (is : Lexeme → Bool) (by : Bool → Ahead → Read A) → ((b : Bool) → Is A many more (by b)) → Is A many more (λ tokens. by (sees is tokens) tokens)
  pub keyword : {many : ℕ} (k : Keyword) → Is _ many many (keyword_at k)
  pub symbol : {many more : ℕ} (s : Symbol) → open_behind (lexeme.symbol s) many ≡ more → Is _ many more (symbol_at s)
  pub name : {many : ℕ} → Is _ many many name_at
  pub quoted : {many : ℕ} → Is _ many many quoted_at
  pub number : {many : ℕ} → Is _ many many number_at
  pub whole : Is _ 0 0 whole_at
  pub list : {A : Type 0} {many : ℕ} {part : Ahead → Read A} → Is A many many part → part [] ≡ expected [] → Is _ many many (list_at part)
  pub watermark : Is _ 0 0 watermark_at
  pub window : (at : ℕ) → Is _ 0 0 (window_at at)
  pub streams : ((at : ℕ) → Is _ 0 0 (stream_at at)) → Is _ 0 0 streams_at

module _ (Is Behind : (A : Type 0) → ℕ → ℕ → (Ahead → Read A) → Type 0) (family : Family Is Behind) where
  -- ---- declarations

  type_is : {many : ℕ} → Is _ many many type_at
  unfolding type_at
  type_is =
      family.if_keyword key.Bigint
      (λ o tokens. or_type kind.Bigint o (
      or_type kind.Str (seen (is_keyword key.String) tokens) (
      or_type kind.Timestamp (seen (is_keyword key.Timestamp) tokens) (
      keyword_at key.Boolean tokens >>= (λ found. Ok (kind.Bool, found.1))) tokens) tokens) tokens)
      (family.if_keyword key.String
      (λ o tokens. or_type kind.Str o (
      or_type kind.Timestamp (seen (is_keyword key.Timestamp) tokens) (
      keyword_at key.Boolean tokens >>= (λ found. Ok (kind.Bool, found.1))) tokens) tokens)
      (family.if_keyword key.Timestamp
      (λ o tokens. or_type kind.Timestamp o (keyword_at key.Boolean tokens >>= (λ found. Ok (kind.Bool, found.1))) tokens)
      (family.followed (family.keyword key.Boolean) (λ at. family.pure _))
      (λ at. family.skip (family.pure _))) (λ at. family.skip (family.pure _))) (λ at. family.skip (family.pure _))

  decl_is : {many : ℕ} → Is _ many many decl_at
  unfolding decl_at
  decl_is = family.followed family.name (λ called. family.followed type_is (λ typed. family.pure _))

  stream_is : (at : ℕ) → Is _ 0 0 (stream_at at)
  unfolding stream_at
  stream_is at =
      family.followed (family.keyword key.Stream) (λ declared.
      family.followed family.name (λ called.
      family.followed (family.symbol mark.LeftParen refl) (λ opened.
      family.followed (family.list decl_is decl_none) (λ columns.
      family.followed (family.symbol mark.RightParen refl) (λ closed.
      family.followed (family.keyword key.From) (λ from.
      family.followed family.quoted (λ source.
      family.followed family.watermark (λ watermark.
      family.followed (family.symbol mark.Semicolon refl) (λ ended. family.pure _)))))))))

  -- ---- items

  bare_is : (named : Bool) (value : Expr) (at : ℕ) → Is _ 0 0 (bare_at named value at)
  bare_is true (expr.Column column) at = family.pure _
  bare_is named other at = family.nothing

  item_is : Is _ 0 0 item_at
  unfolding item_at
  item_is = family.if_sees is_name (λ named tokens. whole_at tokens >>= (λ value. item_by named value.0 (seen (is_keyword key.As) value.1) value.1))
      (λ named. family.followed family.whole (λ tree. family.if_keyword key.As (item_by named tree) (bare_is named tree.value tree.at) (λ at. family.skip (family.followed family.name (λ label. family.pure _)))))

  -- ---- what stands after the items

  condition_is : (k : Keyword) → Is _ 0 0 (condition_at k)
  unfolding condition_at
  condition_is k = family.if_keyword k condition_by (family.pure _) (λ at. family.skip (family.followed family.whole (λ value. family.pure _)))

  joined_is : (kind : JoinKind) → Is _ 0 0 (joined_at kind)
  unfolding joined_at
  joined_is kind = family.followed (family.keyword key.Join) (λ word. family.followed family.name (λ stream. family.followed (family.keyword key.On) (λ on. family.followed family.whole (λ value. family.pure _))))

  outer_is : (kind : JoinKind) → Is _ 0 0 (outer_at kind)
  outer_is kind = family.if_keyword key.Outer (λ o tokens. joined_at kind (behind o tokens)) (joined_is kind) (λ at. family.skip (joined_is kind))

  bare_join_is : (b : Bool) → Is _ 0 0 (bare_join b)
  bare_join_is false = family.pure _
  bare_join_is true = joined_is join.Inner

  join_is : Is _ 0 0 join_at
  unfolding join_at
  join_is =
      family.if_keyword key.Inner inner_join
      (family.if_keyword key.Left left_join
      (family.if_keyword key.Right right_join (family.if_sees (is_keyword key.Join) bare_join bare_join_is) (λ at. family.skip (outer_is join.Right)))
      (λ at. family.skip (outer_is join.Left)))
      (λ at. family.skip (joined_is join.Inner))

  deduplicate_is : Is _ 0 0 deduplicate_at
  unfolding deduplicate_at
  deduplicate_is = family.if_keyword key.Deduplicate deduplicate_by (family.pure _)
      (λ at. family.skip (family.followed (family.keyword key.By) (λ by. family.followed (family.list family.name name_none) (λ columns. family.pure _))))

  group_item_is : Is _ 0 0 group_item_at
  unfolding group_item_at
  group_item_is = family.if_keyword key.Window group_item_by (family.followed family.name (λ column. family.pure _)) (λ at. family.skip (family.followed (family.window at) (λ window. family.pure _)))

  group_is : Is _ 0 0 group_at
  unfolding group_at
  group_is = family.if_keyword key.Group group_by (family.pure _)
      (λ at. family.skip (family.followed (family.keyword key.By) (λ by. family.followed (family.list group_item_is group_item_none) (λ items. family.pure _))))

  direction_is : Is _ 0 0 direction_at
  unfolding direction_at
  direction_is = family.if_keyword key.Desc direction_by
      (family.if_keyword key.Asc (λ o tokens. Ok (direction.Ascending, behind o tokens)) (family.pure _) (λ at. family.skip (family.pure _))) (λ at. family.skip (family.pure _))

  order_item_is : Is _ 0 0 order_item_at
  unfolding order_item_at
  order_item_is = family.followed family.name (λ called. family.followed direction_is (λ directed. family.pure _))

  order_is : Is _ 0 0 order_at
  unfolding order_at
  order_is = family.if_keyword key.Order order_by (family.pure _)
      (λ at. family.skip (family.followed (family.keyword key.By) (λ by. family.list order_item_is order_item_none)))

  limit_is : Is _ 0 0 limit_at
  unfolding limit_at
  limit_is = family.if_keyword key.Limit limit_by (family.pure _) (λ at. family.skip (family.followed family.number (λ most. family.pure _)))

  mode_is : Is _ 0 0 mode_at
  unfolding mode_at
  mode_is =
      family.followed (family.keyword key.Output) (λ output.
      family.if_keyword key.Append
      (λ o tokens. or_mode mode.Append o (
      or_mode mode.Update (seen (is_keyword key.Update) tokens) (
      keyword_at key.Complete tokens >>= (λ found. Ok (mode.Complete, found.1))) tokens) tokens)
      (family.if_keyword key.Update
      (λ o tokens. or_mode mode.Update o (keyword_at key.Complete tokens >>= (λ found. Ok (mode.Complete, found.1))) tokens)
      (family.followed (family.keyword key.Complete) (λ at. family.pure _))
      (λ at. family.skip (family.pure _))) (λ at. family.skip (family.pure _)))

  -- ---- queries

  select_from_is : (distinct : Option ℕ) → Is _ 0 0 (select_from distinct)
  select_from_is distinct =
      family.followed (family.list item_is item_none) (λ items.
      family.followed (family.keyword key.From) (λ from.
      family.followed family.name (λ stream.
      family.followed join_is (λ joined.
      family.followed (condition_is key.Where) (λ filter.
      family.followed deduplicate_is (λ deduplicated.
      family.followed group_is (λ grouped.
      family.followed (condition_is key.Having) (λ having.
      family.followed order_is (λ ordered.
      family.followed limit_is (λ limited.
      family.followed mode_is (λ shown.
      family.followed (family.symbol mark.Semicolon refl) (λ ended. family.pure _))))))))))))

  select_is : Is _ 0 0 select_at
  unfolding select_at
  select_is = family.followed (family.keyword key.Select) (λ word.
      family.if_keyword key.Distinct (λ o tokens. select_from o (behind o tokens)) (select_from_is None) (λ at. family.skip (select_from_is (Some at))))

  pub query_is : Is _ 0 0 query_from
  query_is = family.followed (family.streams stream_is) (λ streams. family.followed select_is (λ select. family.pure _))
