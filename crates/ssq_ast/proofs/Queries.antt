-- What is printed of a query: it is written by the grammar, and is the same query, places aside.
use Rattle.std.proofs.Common.{◌≡◌, ℕ, Bool, true, false, List, [], ◌∷◌, map, drop, Option, Some, None, IfSome, refl, ap, subst, cond, arith}
use Rattle.std.specs.Prelude.{bytes_eq}
use Rattle.std.specs.Option.{option_map}
use Rattle.std.specs.List.{flat_map}
use Rattle.ssq_lex.specs.Lexeme.{Lexed}
use Rattle.ssq_lex.specs.declared.keyword.Keyword.TheVariants as key
use Rattle.ssq_ast.specs.declared.expr.ColumnRef.{ColumnRef}
use Rattle.ssq_ast.specs.declared.expr.Expr.{Expr}
use Rattle.ssq_ast.specs.declared.expr.Expr.TheVariants as expr
use Rattle.ssq_ast.specs.declared.expr.Ident.{Ident}
use Rattle.ssq_ast.specs.declared.query.Condition.{Condition}
use Rattle.ssq_ast.specs.declared.query.Deduplicate.{Deduplicate}
use Rattle.ssq_ast.specs.declared.query.Group.{Group}
use Rattle.ssq_ast.specs.declared.query.Group.TheVariants as group
use Rattle.ssq_ast.specs.declared.query.GroupBy.{GroupBy}
use Rattle.ssq_ast.specs.declared.query.Item.TheVariants as item
use Rattle.ssq_ast.specs.declared.query.Join.{Join}
use Rattle.ssq_ast.specs.declared.query.Query.{Query}
use Rattle.ssq_ast.specs.declared.query.Select.{Select}
use Rattle.ssq_ast.specs.declared.query.Stream.{Stream}
use Rattle.ssq_ast.specs.Again.{IsReadAgain}
use Rattle.ssq_ast.specs.Canonical.{is_some, plain_decl, plain_watermark, plain_stream, plain_item, plain_join, plain_deduplicate, plain_group, plain_group_by, plain_order, plain_select, plain_query}
use Rattle.ssq_ast.specs.Expression.{Words, Written, words, first, behind, ident, column_tree, tree, erased_ident, erased_column, erased_expr, plain, plain_column, only}
use Rattle.ssq_ast.specs.Places.{erased_decl, erased_watermark, erased_stream, erased_item, erased_condition, erased_join, erased_deduplicate, erased_group_item, erased_group, erased_order, erased_limit, erased_select, erased}
use Rattle.ssq_ast.specs.Statement.{WrittenStream, WrittenItem, bare_item, named_item, WrittenGroup, column_group, window_group, WrittenSelect, WrittenQuery, decl_words, declared_words, item_words, name_words, separated, distinct_words, join_words, condition_words, deduplicate_words, group_words, order_words, group_item_words, order_item_words, each_tree, decl_tree, watermark_tree, declared_tree, item_of, item_tree, condition_tree, join_tree, deduplicate_tree, group_item_tree, group_tree, order_item_tree, limit_tree, distinct_tree, select_tree, query_tree, query_words, kind_words, IsFilled, Each, IsSpanText, IsFit, IsRegularStream, IsRegularItem, IsRegularGroup, IsRegularSelect, IsRegularQuery, IsWritten}
use Rattle.ssq_ast.proofs.Plain.{regular_plain, narrow, tallest_plain, erased_tree, erased_column_tree}

-- where the parts of a SELECT stand, by the words in front of them
pub record PartsAt : Type 0 where
  pub items : List ℕ
  pub join : List ℕ
  pub filter : List ℕ
  pub deduplicate : List ℕ
  pub group : List ℕ
  pub having : List ℕ
  pub order : List ℕ
  pub limit : List ℕ

abbrev pub parts_at : WrittenSelect → List ℕ → PartsAt
parts_at select places =
    let items = behind (distinct_words select.distinct) (drop 1 places) in
    let join = drop 2 (behind (separated (map item_words select.items)) items) in
    let filter = behind (join_words select.join) join in
    let deduplicate = behind (condition_words key.Where select.filter) filter in
    let group = behind (deduplicate_words select.deduplicate) deduplicate in
    let having = behind (group_words select.group) group in
    let order = behind (condition_words key.Having select.having) having in
    record { items = items; join = join; filter = filter; deduplicate = deduplicate; group = group; having = having; order = order; limit = behind (order_words select.order) order }

-- The grammar.

fit : (w : Written) (places : List ℕ) → IsFit w → IsFit (plain (tree w places))
fit w places h = record {
  regular = regular_plain w places h.regular;
  brackets = let few = (narrow w places h.regular).alone in omega (arith, few, h.brackets);
  heights = rw (tallest_plain w places) h.heights;
}

-- parts stay as many
filled : {A B C : Type 0} (written : A → Words) (made : A → List ℕ → B) (gap : ℕ) (printed : B → C) (xs : List A) (places : List ℕ) → IsFilled xs → IsFilled (map printed (each_tree written made gap xs places))
filled written made gap printed [] places h = absurd h
filled written made gap printed (x ∷ xs) places h = tt

-- and each is as it was
pub each : {A B C : Type 0} (P : A → Type 0) (Q : C → Type 0) (written : A → Words) (made : A → List ℕ → B) (gap : ℕ) (printed : B → C) → ((x : A) (places : List ℕ) → P x → Q (printed (made x places))) → (xs : List A) (places : List ℕ) → Each P xs → Each Q (map printed (each_tree written made gap xs places))
each P Q written made gap printed one [] places h = tt
each P Q written made gap printed one (x ∷ xs) places h =
    (one x places h.0, each P Q written made gap printed one xs (drop gap (behind (written x) places)) h.1)

maybe : {A B C : Type 0} (P : A → Type 0) (Q : C → Type 0) (made : A → List ℕ → B) (printed : B → C) → ((x : A) (places : List ℕ) → P x → Q (printed (made x places))) → (x : Option A) (places : List ℕ) → IfSome x P → IfSome (option_map printed (option_map (λ y. made y places) x)) Q
maybe P Q made printed one None places h = tt
maybe P Q made printed one (Some x) places h = one x places h

regular_stream : (stream : WrittenStream) (places : List ℕ) → IsRegularStream stream → IsRegularStream (plain_stream (declared_tree stream places))
regular_stream stream places h =
    let from_columns = drop 4 places in
    let from_watermark = drop 3 (behind (separated (map decl_words stream.columns)) from_columns) in
    record {
      columns = filled decl_words decl_tree 1 plain_decl stream.columns from_columns h.columns;
      delay = maybe (λ w. IsSpanText w.delay) (λ w. IsSpanText w.delay) watermark_tree plain_watermark (λ w p is. is) stream.watermark from_watermark h.delay;
    }

regular_named : (e : Expr) (at : ℕ) (label : Ident) → IsFit (plain e) → IsRegularItem IsFit (plain_item (item_of e at label))
regular_named (expr.Column column) at label h = regular_column (bytes_eq column.column.text label.text)
  where
    regular_column : (b : Bool) → IsRegularItem IsFit (plain_item (cond b (item.Column column at label.at) (item.Named (expr.Column column) at label)))
    regular_column true = tt
    regular_column false = h
regular_named (expr.Number n at') at label h = h
regular_named (expr.Text text at') at label h = h
regular_named (expr.Truth truth at') at label h = h
regular_named (expr.Timestamp moment at') at label h = h
regular_named (expr.Interval span at') at label h = h
regular_named (expr.CountRows at') at label h = h
regular_named (expr.Aggregate' f at' s a) at label h = h
regular_named (expr.Unary' o at' s a) at label h = h
regular_named (expr.IsNull' s a at' test) at label h = h
regular_named (expr.Binary' left_at s a o at' right_at t b) at label h = h
regular_named (expr.Between' s a at' t b u c) at label h = h

regular_item : (i : WrittenItem) (places : List ℕ) → IsRegularItem IsFit i → IsRegularItem IsFit (plain_item (item_tree i places))
regular_item (bare_item column) places h = tt
regular_item (named_item value label) places h =
    regular_named (tree value places) (first places) (ident label (drop 1 (behind (words value) places))) (fit value places h)

regular_group : (g : WrittenGroup) (places : List ℕ) → IsRegularGroup g → IsRegularGroup (plain_group (group_item_tree g places))
regular_group (column_group column) places h = tt
regular_group (window_group window) places h = h

regular_select : (select : WrittenSelect) (places : List ℕ) → IsRegularSelect IsFit select → IsRegularSelect IsFit (plain_select (select_tree select places))
regular_select select places h =
    let at = parts_at select places in
    let condition : (w : Written) (p : List ℕ) → IsFit w → IsFit (plain (condition_tree w p).value) = λ w p is. fit w (drop 1 p) is in
    record {
      some_items = filled item_words item_tree 1 plain_item select.items at.items h.some_items;
      items = each (IsRegularItem IsFit) (IsRegularItem IsFit) item_words item_tree 1 plain_item regular_item select.items at.items h.items;
      on = maybe (λ join. IsFit join.on) (λ join. IsFit join.on) join_tree plain_join
          (λ join p is. fit join.on (drop 1 (drop 2 (behind (kind_words join.kind join.has_word) p))) is) select.join at.join h.on;
      filter = maybe IsFit IsFit condition_tree (λ made. plain made.value) condition select.filter at.filter h.filter;
      deduplicate = maybe IsFilled IsFilled deduplicate_tree plain_deduplicate
          (λ columns p is. filled name_words ident 1 (λ column. column.text) columns (drop 2 p) is) select.deduplicate at.deduplicate h.deduplicate;
      some_group = maybe IsFilled IsFilled group_tree plain_group_by
          (λ items p is. filled group_item_words group_item_tree 1 plain_group items (drop 2 p) is) select.group at.group h.some_group;
      group = maybe (Each IsRegularGroup) (Each IsRegularGroup) group_tree plain_group_by
          (λ items p is. each IsRegularGroup IsRegularGroup group_item_words group_item_tree 1 plain_group regular_group items (drop 2 p) is)
          select.group at.group h.group;
      having = maybe IsFit IsFit condition_tree (λ made. plain made.value) condition select.having at.having h.having;
    }

regular_query : (query : WrittenQuery) (places : List ℕ) → IsRegularQuery IsFit query → IsRegularQuery IsFit (plain_query (query_tree query places))
regular_query query places h = record {
  streams = each IsRegularStream IsRegularStream declared_words declared_tree 0 plain_stream regular_stream query.streams places h.streams;
  select = regular_select query.select (behind (flat_map declared_words query.streams) places) h.select;
}

-- The same query.

-- what is printed of a part is that part again, places aside
abbrev Same : {A B : Type 0} → (A → List ℕ → B) → (B → A) → (B → B) → B → Type 0
Same made printed erase x = (places : List ℕ) → erase (made (printed x) places) ≡ erase x

same_each : {A B : Type 0} (written : A → Words) (made : A → List ℕ → B) (gap : ℕ) (printed : B → A) (erase : B → B) (xs : List B) → Each (Same made printed erase) xs → (places : List ℕ) → map erase (each_tree written made gap (map printed xs) places) ≡ map erase xs
same_each written made gap printed erase [] h places = refl
same_each written made gap printed erase (x ∷ xs) h places =
    let head = h.0 places in
    let tail = same_each written made gap printed erase xs h.1 (drop gap (behind (written (printed x)) places)) in
    λ i. head i ∷ tail i

every : {A : Type 0} (P : A → Type 0) → ((x : A) → P x) → (xs : List A) → Each P xs
every P h [] = tt
every P h (x ∷ xs) = (h x, every P h xs)

same_maybe : {A B : Type 0} (made : A → List ℕ → B) (printed : B → A) (erase : B → B) → ((x : B) → Same made printed erase x) → (x : Option B) (places : List ℕ) → option_map erase (option_map (λ y. made y places) (option_map printed x)) ≡ option_map erase x
same_maybe made printed erase same None places = refl
same_maybe made printed erase same (Some x) places = ap Some (same x places)

same_stream : (stream : Stream) → Same declared_tree plain_stream erased_stream stream
same_stream stream places =
    let from_columns = drop 4 places in
    let from_watermark = drop 3 (behind (separated (map decl_words (map plain_decl stream.columns))) from_columns) in
    let columns = same_each decl_words decl_tree 1 plain_decl erased_decl stream.columns (every (Same decl_tree plain_decl erased_decl) (λ decl p. refl) stream.columns) from_columns in
    let watermark = same_maybe watermark_tree plain_watermark erased_watermark (λ w p. refl) stream.watermark from_watermark in
    λ i. record { at = 0; name = erased_ident stream.name; columns = columns i; source = stream.source; watermark = watermark i }

-- Items. An item that was read is no column under its own name with AS.
abbrev IsApart : Expr → List ℕ → Type 0
IsApart (expr.Column column) label = bytes_eq column.column.text label ≡ false
IsApart other label = Unit {0}

same_named_column : (column : ColumnRef) (at named_at : ℕ) (label : Ident) (b : Bool) → b ≡ false → (made : ColumnRef) → erased_column made ≡ erased_column column → erased_item (cond b (item.Column made at named_at) (item.Named (expr.Column made) at (record { text = label.text; at = named_at }))) ≡ item.Named (expr.Column (erased_column column)) 0 (erased_ident label)
same_named_column column at named_at label true is made same = cc
same_named_column column at named_at label false is made same = ap (λ c. item.Named (expr.Column c) 0 (erased_ident label)) same

same_named : (e : Expr) (label : Ident) → IsApart e label.text → (places behind_value : List ℕ) → erased_item (item_of (tree (plain e) places) (first places) (ident label.text behind_value)) ≡ item.Named (erased_expr e) 0 (erased_ident label)
same_named (expr.Column column) label h places rest =
    same_named_column column (first places) (first rest) label (bytes_eq column.column.text label.text) h (column_tree (plain_column column) places) (erased_column_tree column places)
same_named (expr.Number n at) label h places rest = refl
same_named (expr.Text text at) label h places rest = refl
same_named (expr.Truth truth at) label h places rest = refl
same_named (expr.Timestamp moment at) label h places rest = refl
same_named (expr.Interval span at) label h places rest = refl
same_named (expr.CountRows at) label h places rest = refl
same_named (expr.Aggregate' f at s (only a)) label h places rest = ap (λ e. item.Named e 0 (erased_ident label)) (erased_tree (expr.Aggregate' f at s (only a)) places)
same_named (expr.Unary' o at s (only a)) label h places rest = ap (λ e. item.Named e 0 (erased_ident label)) (erased_tree (expr.Unary' o at s (only a)) places)
same_named (expr.IsNull' s (only a) at test) label h places rest = ap (λ e. item.Named e 0 (erased_ident label)) (erased_tree (expr.IsNull' s (only a) at test) places)
same_named (expr.Binary' left_at s (only a) o at right_at t (only b)) label h places rest = ap (λ e. item.Named e 0 (erased_ident label)) (erased_tree (expr.Binary' left_at s (only a) o at right_at t (only b)) places)
same_named (expr.Between' s (only a) at t (only b) u (only c)) label h places rest = ap (λ e. item.Named e 0 (erased_ident label)) (erased_tree (expr.Between' s (only a) at t (only b) u (only c)) places)

same_column_item : (column : ColumnRef) (at named_at : ℕ) → Same item_tree plain_item erased_item (item.Column column at named_at)
same_column_item column at named_at places = ap (λ c. item.Column c 0 0) (erased_column_tree column places)

same_named_item : (e : Expr) (at : ℕ) (label : Ident) → IsApart e label.text → Same item_tree plain_item erased_item (item.Named e at label)
same_named_item e at label h places = same_named e label h places (drop 1 (behind (words (plain e)) places))

same_item_by : (column : ColumnRef) (at : ℕ) (label : Ident) (b : Bool) → bytes_eq column.column.text label.text ≡ b → Same item_tree plain_item erased_item (cond b (item.Column column at label.at) (item.Named (expr.Column column) at label))
same_item_by column at label true is = same_column_item column at label.at
same_item_by column at label false is = same_named_item (expr.Column column) at label is

same_item_of : (e : Expr) (at : ℕ) (label : Ident) → Same item_tree plain_item erased_item (item_of e at label)
same_item_of (expr.Column column) at label = same_item_by column at label (bytes_eq column.column.text label.text) refl
same_item_of (expr.Number n at') at label = same_named_item (expr.Number n at') at label tt
same_item_of (expr.Text text at') at label = same_named_item (expr.Text text at') at label tt
same_item_of (expr.Truth truth at') at label = same_named_item (expr.Truth truth at') at label tt
same_item_of (expr.Timestamp moment at') at label = same_named_item (expr.Timestamp moment at') at label tt
same_item_of (expr.Interval span at') at label = same_named_item (expr.Interval span at') at label tt
same_item_of (expr.CountRows at') at label = same_named_item (expr.CountRows at') at label tt
same_item_of (expr.Aggregate' f at' s a) at label = same_named_item (expr.Aggregate' f at' s a) at label tt
same_item_of (expr.Unary' o at' s a) at label = same_named_item (expr.Unary' o at' s a) at label tt
same_item_of (expr.IsNull' s a at' test) at label = same_named_item (expr.IsNull' s a at' test) at label tt
same_item_of (expr.Binary' left_at s a o at' right_at t b) at label = same_named_item (expr.Binary' left_at s a o at' right_at t b) at label tt
same_item_of (expr.Between' s a at' t b u c) at label = same_named_item (expr.Between' s a at' t b u c) at label tt

same_item : (i : WrittenItem) (places : List ℕ) → Same item_tree plain_item erased_item (item_tree i places)
same_item (bare_item column) places = same_column_item (column_tree column places) (first places) (column_tree column places).column.at
same_item (named_item value label) places = same_item_of (tree value places) (first places) (ident label (drop 1 (behind (words value) places)))

same_items : (items : List WrittenItem) (places : List ℕ) → Each (Same item_tree plain_item erased_item) (each_tree item_words item_tree 1 items places)
same_items [] places = tt
same_items (i ∷ items) places = (same_item i places, same_items items (drop 1 (behind (item_words i) places)))

same_condition : (condition : Condition) → Same condition_tree (λ made. plain made.value) erased_condition condition
same_condition condition places = ap (λ value. record { at = 0; value = value }) (erased_tree condition.value (drop 1 places))

same_join : (join : Join) → Same join_tree plain_join erased_join join
same_join join places =
    let on = same_condition join.on (drop 2 (behind (kind_words join.kind false) places)) in
    ap (λ on. record { kind = join.kind; at = 0; stream = erased_ident join.stream; on = on }) on

same_deduplicate : (deduplicate : Deduplicate) → Same deduplicate_tree plain_deduplicate erased_deduplicate deduplicate
same_deduplicate deduplicate places =
    let columns = same_each name_words ident 1 (λ column. column.text) erased_ident deduplicate.columns (every (Same ident (λ column. column.text) erased_ident) (λ column p. refl) deduplicate.columns) (drop 2 places) in
    ap (λ columns. record { at = 0; columns = columns }) columns

same_group_item : (g : Group) → Same group_item_tree plain_group erased_group_item g
same_group_item (group.Column column) places = refl
same_group_item (group.Window window) places = refl

same_group : (by : GroupBy) → Same group_tree plain_group_by erased_group by
same_group by places =
    let items = same_each group_item_words group_item_tree 1 plain_group erased_group_item by.items (every (Same group_item_tree plain_group erased_group_item) same_group_item by.items) (drop 2 places) in
    ap (λ items. record { at = 0; items = items }) items

same_distinct : (distinct : Option ℕ) (places : List ℕ) → option_map {U = ℕ} (λ at. 0) (distinct_tree (is_some distinct) places) ≡ option_map {U = ℕ} (λ at. 0) distinct
same_distinct None places = refl
same_distinct (Some at) places = refl

same_select : (select : Select) → Each (Same item_tree plain_item erased_item) select.items → Same select_tree plain_select erased_select select
same_select select items_same places =
    let printed = plain_select select in
    let at = parts_at (plain_select select) places in
    let distinct = same_distinct select.distinct (drop 1 places) in
    let items = same_each item_words item_tree 1 plain_item erased_item select.items items_same at.items in
    let join = same_maybe join_tree plain_join erased_join same_join select.join at.join in
    let filter = same_maybe condition_tree (λ made. plain made.value) erased_condition same_condition select.filter at.filter in
    let deduplicate = same_maybe deduplicate_tree plain_deduplicate erased_deduplicate same_deduplicate select.deduplicate at.deduplicate in
    let group = same_maybe group_tree plain_group_by erased_group same_group select.group at.group in
    let having = same_maybe condition_tree (λ made. plain made.value) erased_condition same_condition select.having at.having in
    let order = same_each order_item_words order_item_tree 1 plain_order erased_order select.order (every (Same order_item_tree plain_order erased_order) (λ by p. refl) select.order) (drop 2 at.order) in
    let limit = same_maybe limit_tree (λ most. most.most) erased_limit (λ most p. refl) select.limit at.limit in
    λ i. record {
      distinct = distinct i;
      items = items i;
      from = erased_ident select.from;
      join = join i;
      filter = filter i;
      deduplicate = deduplicate i;
      group = group i;
      having = having i;
      order = order i;
      limit = limit i;
      mode = select.mode;
    }

same_query : (query : WrittenQuery) (places : List ℕ) → Same query_tree plain_query erased (query_tree query places)
same_query query places again =
    let made = query_tree query places in
    let from_select = behind (flat_map declared_words query.streams) places in
    let streams = same_each declared_words declared_tree 0 plain_stream erased_stream made.streams (every (Same declared_tree plain_stream erased_stream) same_stream made.streams) again in
    let select = same_select made.select (same_items query.select.items (parts_at query.select from_select).items) (behind (flat_map declared_words (map plain_stream made.streams)) again) in
    λ i. record { streams = streams i; select = select i }

again_of : (query : WrittenQuery) (places : List ℕ) → IsRegularQuery IsFit query → (made : Query) → query_tree query places ≡ made → (tokens : List Lexed) → map (λ token. token.said) tokens ≡ query_words (plain_query made) → (same : Query) × IsWritten tokens same × (erased same ≡ erased made)
again_of query places regular made meant tokens said =
    let starts = map (λ token. token.start) tokens in (
      query_tree (plain_query made) starts,
      record {
        written = plain_query made;
        regular = let P : Query → Type 0 = λ q. IsRegularQuery IsFit (plain_query q) in subst P meant (regular_query query places regular);
        said = said;
        meant = refl;
      },
      let P : Query → Type 0 = λ q. erased (query_tree (plain_query q) starts) ≡ erased q in subst P meant (same_query query places starts),
    )

pub is_read_again : IsReadAgain
is_read_again tokens query is again said = again_of is.written (map (λ token. token.start) tokens) is.regular query is.meant again said
