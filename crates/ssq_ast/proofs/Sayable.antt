-- What is printed of a query has no other words than keywords, symbols and the words of any way to write it.
use Rattle.std.proofs.Common.{◌≡◌, ℕ, ℤ, Bool, true, false, cond, List, [], ◌∷◌, ◌++◌, map, drop, Option, Some, None, refl, sym, subst}
use Rattle.std.specs.Prelude.{bytes_eq}
use Rattle.std.specs.List.{All, flat_map}
use Rattle.std.specs.Option.{option_map}
use Rattle.std.proofs.lemmas.List.Elements.{All-nil, All-cons, All-head, All-tail}
use Rattle.ssq_lex.specs.Lexeme.{Lexeme, keyword, name, quoted, symbol}
use Rattle.ssq_lex.specs.Sayable.{IsSayable}
use Rattle.ssq_lex.specs.declared.keyword.Keyword.{Keyword}
use Rattle.ssq_lex.specs.declared.keyword.Keyword.TheVariants as key
use Rattle.ssq_lex.specs.declared.symbol.Symbol.{Symbol}
use Rattle.ssq_lex.specs.declared.symbol.Symbol.TheVariants as mark
use Rattle.ssq_ast.specs.declared.expr.ColumnRef.{ColumnRef}
use Rattle.ssq_ast.specs.declared.expr.Expr.{Expr}
use Rattle.ssq_ast.specs.declared.expr.Expr.TheVariants as expr
use Rattle.ssq_ast.specs.declared.expr.Ident.{Ident}
use Rattle.ssq_ast.specs.declared.expr.NullTest.{NullTest}
use Rattle.ssq_ast.specs.declared.expr.NullTest.TheVariants as null_test
use Rattle.ssq_ast.specs.declared.query.Direction.{Direction}
use Rattle.ssq_ast.specs.declared.query.Direction.TheVariants as direction
use Rattle.ssq_ast.specs.declared.query.Item.TheVariants as item
use Rattle.ssq_ast.specs.declared.query.JoinKind.{JoinKind}
use Rattle.ssq_ast.specs.declared.query.JoinKind.TheVariants as join
use Rattle.ssq_ast.specs.declared.query.Query.{Query}
use Rattle.ssq_ast.specs.Again.{IsSayableAgain}
use Rattle.ssq_ast.specs.Canonical.{is_some, plain_decl, plain_watermark, plain_stream, plain_item, plain_join, plain_deduplicate, plain_group, plain_group_by, plain_order, plain_select, plain_query}
use Rattle.ssq_ast.specs.Expression.{Words, Written, WrittenColumn, of_number, of_text, of_truth, of_moment, of_span, of_column, of_rows, of_function, bracketed, prefixed, null_tested, infixed, between, words, in_brackets, column_words, binary_word, test_words, unary_level, left_level, right_level, first, behind, ident, column_tree, tree, within, plain, plain_column}
use Rattle.ssq_ast.specs.Statement.{WrittenStream, WrittenWatermark, WrittenItem, bare_item, named_item, WrittenJoin, WrittenGroup, column_group, window_group, WrittenOrder, WrittenSelect, WrittenQuery, comma, separated, decl_words, watermark_words, declared_words, distinct_words, item_words, kind_words, join_words, condition_words, deduplicate_words, name_words, group_item_words, group_words, direction_words, order_item_words, order_words, limit_words, mode_key, front_words, back_words, select_words, query_words, each_tree, decl_tree, watermark_tree, declared_tree, item_of, item_tree, condition_tree, join_tree, deduplicate_tree, group_item_tree, group_tree, order_item_tree, limit_tree, distinct_tree, select_tree, query_tree, Each}
use Rattle.ssq_ast.proofs.Plain.{within_cases}
use Rattle.ssq_ast.proofs.Queries.{each, parts_at}

module _ (P : Lexeme → Type 0) (K : (k : Keyword) → P (keyword k)) (S : (s : Symbol) → P (symbol s)) where
  abbrev Has : Words → Type 0
  Has ws = Each P ws

  append : (xs ys : Words) → Has xs → Has ys → Has (xs ++ ys)
  append [] ys h k = k
  append (x ∷ xs) ys h k = (h.0, append xs ys h.1 k)

  left : (xs ys : Words) → Has (xs ++ ys) → Has xs
  left [] ys h = tt
  left (x ∷ xs) ys h = (h.0, left xs ys h.1)

  right : (xs ys : Words) → Has (xs ++ ys) → Has ys
  right [] ys h = h
  right (x ∷ xs) ys h = right xs ys h.1

  into : (ws : Words) → Has ws → Has (in_brackets ws)
  into ws h = (S mark.LeftParen, append ws (symbol mark.RightParen ∷ []) h (S mark.RightParen, tt))

  inside : (ws : Words) → Has (in_brackets ws) → Has ws
  inside ws h = left ws (symbol mark.RightParen ∷ []) h.1

  within_has : (asked : ℕ) (e : Written) → Has (words e) → Has (words (within asked e))
  within_has asked e h = within_cases (λ x. Has (words x)) asked e (λ _. into (words e) h) (λ _. h)

  test_has : (test : NullTest) → Has (test_words test)
  test_has null_test.Null = (K key.Null, tt)
  test_has null_test.NotNull = (K key.Not, (K key.Null, tt))

  stream_is : (stream : Option (List ℕ)) (places : List ℕ) → option_map (λ i. i.text) (option_map (λ text. ident text places) stream) ≡ stream
  stream_is None places = refl
  stream_is (Some text) places = refl

  column_has : (column : WrittenColumn) (places : List ℕ) → Has (column_words column) → Has (column_words (plain_column (column_tree column places)))
  column_has column places h =
      let Q : Option (List ℕ) → Type 0 = λ stream. Has (column_words (record { stream = stream; column = column.column })) in
      subst Q (sym (stream_is column.stream places)) h

  kept : (w : Written) (places : List ℕ) → Has (words w) → Has (words (plain (tree w places)))
  kept (of_number n) places h = h
  kept (of_text text) places h = h
  kept (of_truth truth) places h = h
  kept (of_moment moment) places h = h
  kept (of_span span) places h = h
  kept (of_column column) places h = column_has column places h
  kept of_rows places h = h
  kept (of_function f a) places h =
      (h.0, into (words (plain (tree a (drop 2 places)))) (kept a (drop 2 places) (inside (words a) h.1)))
  kept (bracketed a) places h = kept a (drop 1 places) (inside (words a) h)
  kept (prefixed o a) places h =
      (h.0, within_has (unary_level o) (plain (tree a (drop 1 places))) (kept a (drop 1 places) h.1))
  kept (null_tested a test) places h =
      let e = plain (tree a places) in
      append (words (within 4 e)) (keyword key.Is ∷ test_words test)
      (within_has 4 e (kept a places (left (words a) (keyword key.Is ∷ test_words test) h)))
      (K key.Is, test_has test)
  kept (infixed o a b) places h =
      let from_b = drop 1 (behind (words a) places) in
      let e = plain (tree a places) in
      let f = plain (tree b from_b) in
      let from_op = right (words a) (binary_word o ∷ words b) h in
      append (words (within (left_level o) e)) (binary_word o ∷ words (within (right_level o) f))
      (within_has (left_level o) e (kept a places (left (words a) (binary_word o ∷ words b) h)))
      (from_op.0, within_has (right_level o) f (kept b from_b from_op.1))
  kept (between a b c) places h =
      let from_b = drop 1 (behind (words a) places) in
      let from_c = drop 1 (behind (words b) from_b) in
      let e = plain (tree a places) in
      let f = plain (tree b from_b) in
      let g = plain (tree c from_c) in
      let front = words a ++ keyword key.Between ∷ words b in
      let low = left front (keyword key.And ∷ words c) h in
      let high = right front (keyword key.And ∷ words c) h in
      append (words (within 4 e) ++ keyword key.Between ∷ words (within 4 f)) (keyword key.And ∷ words (within 4 g))
      (append (words (within 4 e)) (keyword key.Between ∷ words (within 4 f))
      (within_has 4 e (kept a places (left (words a) (keyword key.Between ∷ words b) low)))
      (K key.Between, within_has 4 f (kept b from_b (right (words a) (keyword key.Between ∷ words b) low).1)))
      (K key.And, within_has 4 g (kept c from_c high.1))

  -- parts with commas between them
  separated_of : {A : Type 0} (written : A → Words) (xs : List A) → Each (λ x. Has (written x)) xs → Has (separated (map written xs))
  separated_of written [] h = tt
  separated_of written (x ∷ []) h = h.0
  separated_of written (x ∷ y ∷ xs) h =
      append (written x) (comma ∷ separated (map written (y ∷ xs))) h.0 (S mark.Comma, separated_of written (y ∷ xs) h.1)

  of_separated : {A : Type 0} (written : A → Words) (xs : List A) → Has (separated (map written xs)) → Each (λ x. Has (written x)) xs
  of_separated written [] h = tt
  of_separated written (x ∷ []) h = (h, tt)
  of_separated written (x ∷ y ∷ xs) h = (
    left (written x) (comma ∷ separated (map written (y ∷ xs))) h,
    of_separated written (y ∷ xs) (right (written x) (comma ∷ separated (map written (y ∷ xs))) h).1,
  )

  parts : {A B : Type 0} (written : A → Words) (made : A → List ℕ → B) (printed : B → A) → ((x : A) (places : List ℕ) → Has (written x) → Has (written (printed (made x places)))) → (xs : List A) (places : List ℕ) → Has (separated (map written xs)) → Has (separated (map written (map printed (each_tree written made 1 xs places))))
  parts written made printed one xs places h =
      separated_of written (map printed (each_tree written made 1 xs places))
      (each (λ x. Has (written x)) (λ x. Has (written x)) written made 1 printed one xs places (of_separated written xs h))

  watermark_has : (watermark : Option WrittenWatermark) (places : List ℕ) → Has (watermark_words watermark) → Has (watermark_words (option_map plain_watermark (option_map (λ w. watermark_tree w places) watermark)))
  watermark_has None places h = tt
  watermark_has (Some watermark) places h = h

  stream_has : (stream : WrittenStream) (places : List ℕ) → Has (declared_words stream) → Has (declared_words (plain_stream (declared_tree stream places)))
  stream_has stream places h =
      let from_columns = drop 4 places in
      let from_watermark = drop 3 (behind (separated (map decl_words stream.columns)) from_columns) in
      let made = plain_stream (declared_tree stream places) in
      let columns = separated (map decl_words stream.columns) in
      let columns' = separated (map decl_words made.columns) in
      let head = keyword key.Create ∷ keyword key.Stream ∷ name stream.name ∷ in_brackets columns in
      let rest = keyword key.From ∷ quoted stream.source ∷ watermark_words stream.watermark in
      let end = symbol mark.Semicolon ∷ [] in
      let front = left (head ++ rest) end h in
      let front_head = left head rest front in
      let front_rest = right head rest front in
      append (keyword key.Create ∷ keyword key.Stream ∷ name stream.name ∷ in_brackets columns' ++ keyword key.From ∷ quoted stream.source ∷ watermark_words made.watermark) end
      (append (keyword key.Create ∷ keyword key.Stream ∷ name stream.name ∷ in_brackets columns') (keyword key.From ∷ quoted stream.source ∷ watermark_words made.watermark) (
        front_head.0,
        (
          front_head.1.0,
          (
            front_head.1.1.0,
            into columns' (parts decl_words decl_tree plain_decl (λ d p k. k) stream.columns from_columns (inside columns front_head.1.1.1)),
          ),
        ),
      )
      (front_rest.0, (front_rest.1.0, watermark_has stream.watermark from_watermark front_rest.1.1)))
      (S mark.Semicolon, tt)

  streams_has : (streams : List WrittenStream) (places : List ℕ) → Has (flat_map declared_words streams) → Has (flat_map declared_words (map plain_stream (each_tree declared_words declared_tree 0 streams places)))
  streams_has [] places h = tt
  streams_has (stream ∷ streams) places h =
      append (declared_words (plain_stream (declared_tree stream places)))
      (flat_map declared_words (map plain_stream (each_tree declared_words declared_tree 0 streams (drop 0 (behind (declared_words stream) places)))))
      (stream_has stream places (left (declared_words stream) (flat_map declared_words streams) h))
      (streams_has streams (drop 0 (behind (declared_words stream) places)) (right (declared_words stream) (flat_map declared_words streams) h))

  named_has : (e : Expr) (label : Ident) → Has (words (plain e)) → P (name label.text) → Has (item_words (named_item (plain e) label.text))
  named_has e label h n = append (words (plain e)) (keyword key.As ∷ name label.text ∷ []) h (K key.As, (n, tt))

  column_item_has : (column : ColumnRef) (at : ℕ) (label : Ident) (b : Bool) → Has (column_words (plain_column column)) → P (name label.text) → Has (item_words (plain_item (cond b (item.Column column at label.at) (item.Named (expr.Column column) at label))))
  column_item_has column at label true h n = h
  column_item_has column at label false h n = named_has (expr.Column column) label h n

  item_of_has : (e : Expr) (at : ℕ) (label : Ident) → Has (words (plain e)) → P (name label.text) → Has (item_words (plain_item (item_of e at label)))
  item_of_has (expr.Column column) at label h n = column_item_has column at label (bytes_eq column.column.text label.text) h n
  item_of_has (expr.Number m at') at label h n = named_has (expr.Number m at') label h n
  item_of_has (expr.Text text at') at label h n = named_has (expr.Text text at') label h n
  item_of_has (expr.Truth truth at') at label h n = named_has (expr.Truth truth at') label h n
  item_of_has (expr.Timestamp moment at') at label h n = named_has (expr.Timestamp moment at') label h n
  item_of_has (expr.Interval span at') at label h n = named_has (expr.Interval span at') label h n
  item_of_has (expr.CountRows at') at label h n = named_has (expr.CountRows at') label h n
  item_of_has (expr.Aggregate' f at' s a) at label h n = named_has (expr.Aggregate' f at' s a) label h n
  item_of_has (expr.Unary' o at' s a) at label h n = named_has (expr.Unary' o at' s a) label h n
  item_of_has (expr.IsNull' s a at' test) at label h n = named_has (expr.IsNull' s a at' test) label h n
  item_of_has (expr.Binary' left_at s a o at' right_at t b) at label h n = named_has (expr.Binary' left_at s a o at' right_at t b) label h n
  item_of_has (expr.Between' s a at' t b u c) at label h n = named_has (expr.Between' s a at' t b u c) label h n

  item_has : (i : WrittenItem) (places : List ℕ) → Has (item_words i) → Has (item_words (plain_item (item_tree i places)))
  item_has (bare_item column) places h = column_has column places h
  item_has (named_item value label) places h =
      item_of_has (tree value places) (first places) (ident label (drop 1 (behind (words value) places)))
      (kept value places (left (words value) (keyword key.As ∷ name label ∷ []) h))
      (right (words value) (keyword key.As ∷ name label ∷ []) h).1.0

  distinct_has : (distinct : Bool) (places : List ℕ) → Has (distinct_words distinct) → Has (distinct_words (is_some (distinct_tree distinct places)))
  distinct_has true places h = h
  distinct_has false places h = h

  kind_has : (kind : JoinKind) → Has (kind_words kind false)
  kind_has join.Inner = tt
  kind_has join.Left = (K key.Left, tt)
  kind_has join.Right = (K key.Right, tt)

  join_has : (j : Option WrittenJoin) (places : List ℕ) → Has (join_words j) → Has (join_words (option_map plain_join (option_map (λ x. join_tree x places) j)))
  join_has None places h = tt
  join_has (Some j) places h =
      let from_join = behind (kind_words j.kind j.has_word) places in
      let e = plain (tree j.on (drop 1 (drop 2 from_join))) in
      let said = right (kind_words j.kind j.has_word) (keyword key.Join ∷ name j.stream ∷ keyword key.On ∷ words j.on) h in
      append (kind_words j.kind false) (keyword key.Join ∷ name j.stream ∷ keyword key.On ∷ words e) (kind_has j.kind)
      (K key.Join, (said.1.0, (K key.On, kept j.on (drop 1 (drop 2 from_join)) said.1.1.1)))

  condition_has : (k : Keyword) (condition : Option Written) (places : List ℕ) → Has (condition_words k condition) → Has (condition_words k (option_map (λ made. plain made.value) (option_map (λ x. condition_tree x places) condition)))
  condition_has k None places h = tt
  condition_has k (Some w) places h = (h.0, kept w (drop 1 places) h.1)

  deduplicate_has : (columns : Option (List (List ℕ))) (places : List ℕ) → Has (deduplicate_words columns) → Has (deduplicate_words (option_map plain_deduplicate (option_map (λ x. deduplicate_tree x places) columns)))
  deduplicate_has None places h = tt
  deduplicate_has (Some columns) places h =
      (h.0, (h.1.0, parts name_words ident (λ column. column.text) (λ text p k. k) columns (drop 2 places) h.1.1))

  group_item_has : (g : WrittenGroup) (places : List ℕ) → Has (group_item_words g) → Has (group_item_words (plain_group (group_item_tree g places)))
  group_item_has (column_group column) places h = h
  group_item_has (window_group window) places h = h

  group_has : (items : Option (List WrittenGroup)) (places : List ℕ) → Has (group_words items) → Has (group_words (option_map plain_group_by (option_map (λ x. group_tree x places) items)))
  group_has None places h = tt
  group_has (Some items) places h =
      (h.0, (h.1.0, parts group_item_words group_item_tree plain_group group_item_has items (drop 2 places) h.1.1))

  direction_has : (d : Direction) → Has (direction_words d false)
  direction_has direction.Ascending = tt
  direction_has direction.Descending = (K key.Desc, tt)

  order_item_has : (o : WrittenOrder) (places : List ℕ) → Has (order_item_words o) → Has (order_item_words (plain_order (order_item_tree o places)))
  order_item_has o places h = (h.0, direction_has o.direction)

  order_has : (orders : List WrittenOrder) (places : List ℕ) → Has (order_words orders) → Has (order_words (map plain_order (each_tree order_item_words order_item_tree 1 orders places)))
  order_has [] places h = tt
  order_has (o ∷ orders) places h =
      (h.0, (h.1.0, parts order_item_words order_item_tree plain_order order_item_has (o ∷ orders) places h.1.1))

  limit_has : (limit : Option ℤ) (places : List ℕ) → Has (limit_words limit) → Has (limit_words (option_map (λ made. made.most) (option_map (λ x. limit_tree x places) limit)))
  limit_has None places h = tt
  limit_has (Some most) places h = h

  front_has : (select : WrittenSelect) (places : List ℕ) → Has (front_words select) → Has (front_words (plain_select (select_tree select places)))
  front_has select places h =
      let made = plain_select (select_tree select places) in
      let at = parts_at select places in
      let a = keyword key.Select ∷ distinct_words select.distinct in
      let b = separated (map item_words select.items) in
      let c = keyword key.From ∷ name select.from ∷ join_words select.join in
      let d = condition_words key.Where select.filter in
      let a' = keyword key.Select ∷ distinct_words made.distinct in
      let b' = separated (map item_words made.items) in
      let c' = keyword key.From ∷ name made.from ∷ join_words made.join in
      let d' = condition_words key.Where made.filter in
      let abc = left (a ++ b ++ c) d h in
      let ab = left (a ++ b) c abc in
      let said = right (a ++ b) c abc in
      append (a' ++ b' ++ c') d'
      (append (a' ++ b') c'
      (append a' b' (K key.Select, distinct_has select.distinct (drop 1 places) (left a b ab).1)
      (parts item_words item_tree plain_item item_has select.items at.items (right a b ab)))
      (K key.From, (said.1.0, join_has select.join at.join said.1.1)))
      (condition_has key.Where select.filter at.filter (right (a ++ b ++ c) d h))

  back_has : (select : WrittenSelect) (places : List ℕ) → Has (back_words select) → Has (back_words (plain_select (select_tree select places)))
  back_has select places h =
      let made = plain_select (select_tree select places) in
      let at = parts_at select places in
      let a = deduplicate_words select.deduplicate in
      let b = group_words select.group in
      let c = condition_words key.Having select.having in
      let d = order_words select.order in
      let e = limit_words select.limit in
      let f = keyword key.Output ∷ keyword (mode_key select.mode) ∷ symbol mark.Semicolon ∷ [] in
      let a' = deduplicate_words made.deduplicate in
      let b' = group_words made.group in
      let c' = condition_words key.Having made.having in
      let d' = order_words made.order in
      let e' = limit_words made.limit in
      let abcde = left (a ++ b ++ c ++ d ++ e) f h in
      let abcd = left (a ++ b ++ c ++ d) e abcde in
      let abc = left (a ++ b ++ c) d abcd in
      let ab = left (a ++ b) c abc in
      append (a' ++ b' ++ c' ++ d' ++ e') f
      (append (a' ++ b' ++ c' ++ d') e'
      (append (a' ++ b' ++ c') d'
      (append (a' ++ b') c'
      (append a' b' (deduplicate_has select.deduplicate at.deduplicate (left a b ab)) (group_has select.group at.group (right a b ab)))
      (condition_has key.Having select.having at.having (right (a ++ b) c abc)))
      (order_has select.order (drop 2 at.order) (right (a ++ b ++ c) d abcd)))
      (limit_has select.limit at.limit (right (a ++ b ++ c ++ d) e abcde)))
      (right (a ++ b ++ c ++ d ++ e) f h)

  pub query_has : (query : WrittenQuery) (places : List ℕ) → Each P (query_words query) → Each P (query_words (plain_query (query_tree query places)))
  query_has query places h =
      let streams = flat_map declared_words query.streams in
      let from_select = behind streams places in
      let made = plain_query (query_tree query places) in
      let said = right streams (select_words query.select) h in
      append (flat_map declared_words made.streams) (select_words made.select)
      (streams_has query.streams places (left streams (select_words query.select) h))
      (append (front_words made.select) (back_words made.select)
      (front_has query.select from_select (left (front_words query.select) (back_words query.select) said))
      (back_has query.select from_select (right (front_words query.select) (back_words query.select) said)))

each_all : (ws : Words) → Each IsSayable ws → All IsSayable ws
each_all [] h = All-nil IsSayable
each_all (w ∷ ws) h = All-cons IsSayable w ws h.0 (each_all ws h.1)

all_each : (ws : Words) → All IsSayable ws → Each IsSayable ws
all_each [] h = tt
all_each (w ∷ ws) h = (All-head IsSayable w ws h, all_each ws (All-tail IsSayable w ws h))

sayable_of : (query : WrittenQuery) (places : List ℕ) (made : Query) → query_tree query places ≡ made → (said : Words) → said ≡ query_words query → All IsSayable said → All IsSayable (query_words (plain_query made))
sayable_of query places made meant said are all =
    let written : Each IsSayable (query_words query) = let Q : Words → Type 0 = λ ws. Each IsSayable ws in subst Q are (all_each said all) in
    let Q : Query → Type 0 = λ q. All IsSayable (query_words (plain_query q)) in
    subst Q meant (each_all (query_words (plain_query (query_tree query places))) (query_has IsSayable (λ k. tt) (λ s. tt) query places written))

pub is_sayable_again : IsSayableAgain
is_sayable_again tokens query is all =
    sayable_of is.written (map (λ token. token.start) tokens) query is.meant (map (λ token. token.said) tokens) is.said all
