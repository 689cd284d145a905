-- The clauses of a query that are written are read.
use Rattle.std.proofs.Common.{◌≡◌, ℕ, ℤ, zero, suc, ◌+◌, ◌≤◌, Bool, true, false, sym, ap, ◌∙◌, arith, List, [], ◌∷◌, ◌++◌, map, drop, length, refl, Option, Some, None, Ok, append_assoc, append-nil}
use Rattle.std.specs.Prelude.{if◌then◌else◌, IfSome}
use Rattle.std.specs.List.{flat_map}
use Rattle.std.specs.Option.{option_map}
use Rattle.ssq_ast.specs.declared.expr.Span.{Span}
use Rattle.ssq_ast.specs.declared.query.Direction.{Direction}
use Rattle.ssq_ast.specs.declared.query.Direction.TheVariants as direction
use Rattle.ssq_ast.specs.declared.query.Group.TheVariants as group
use Rattle.ssq_ast.specs.declared.query.JoinKind.{JoinKind}
use Rattle.ssq_ast.specs.declared.query.JoinKind.TheVariants as join
use Rattle.ssq_ast.specs.declared.query.Mode.{Mode}
use Rattle.ssq_ast.specs.declared.query.Mode.TheVariants as mode
use Rattle.ssq_ast.specs.declared.query.Stream.{Stream}
use Rattle.ssq_ast.specs.Expression.{Words, Written, WrittenColumn, words, column_words, first, ident, tree, of_column}
use Rattle.ssq_ast.specs.Statement.{WrittenDecl, WrittenWatermark, WrittenStream, WrittenItem, bare_item, named_item, WrittenJoin, WrittenGroup, column_group, window_group, WrittenOrder, comma, separated, type_key, mode_key, name_words, decl_words, watermark_words, declared_words, item_words, kind_words, join_words, condition_words, deduplicate_words, group_item_words, group_words, direction_words, order_item_words, order_words, limit_words, each_tree, decl_tree, watermark_tree, declared_tree, item_tree, condition_tree, join_tree, deduplicate_tree, group_item_tree, group_tree, order_item_tree, limit_tree, IsFilled, Each, IsSpanText, IsFit, IsRegularStream, IsRegularItem, IsRegularGroup}
use Rattle.ssq_lex.specs.declared.keyword.Keyword.{Keyword}
use Rattle.ssq_lex.specs.declared.keyword.Keyword.TheVariants as key
use Rattle.ssq_lex.specs.declared.symbol.Symbol.TheVariants as mark
use Rattle.ssq_lex.specs.Lexeme.{keyword, name, quoted, symbol}
use Rattle.ssq_value.specs.declared.column.ColType.{ColType}
use Rattle.ssq_value.specs.declared.column.ColType.TheVariants as kind
use Rattle.ssq_parse.specs.Queries.{type_at, decl_at, watermark_at, stream_at, streams_then, streams_from, item_by, item_at, item_of, condition_by, condition_at, joined_at, join_at, deduplicate_by, deduplicate_at, slide_at, window_at, group_item_at, group_by, group_at, direction_at, order_item_at, order_by, order_at, limit_by, limit_at, mode_at}
use Rattle.ssq_parse.specs.Reading.{Ahead, ◌>>=◌, seen, sees, is_keyword, is_name, keyword_at, symbol_at, name_at, quoted_at, number_at}
use Rattle.ssq_parse.proofs.Laid.{Where, next, skip, laid, two, skip_more, skip_starts, Stops}
use Rattle.ssq_parse.proofs.LaidExpressions.{whole_reads}
use Rattle.ssq_parse.proofs.LaidOperands.{span_reads}
use Rattle.ssq_parse.proofs.LaidOperators.{made}
use Rattle.ssq_parse.proofs.LaidParts.{Other, unseen, list_reads, stage_of, Later, later_stops, later_some, other_keyword, unseen_keyword, no_comma}

three : (places : List ℕ) → drop 1 (drop 1 (drop 1 places)) ≡ drop 3 places
three [] = refl
three (x ∷ places) = two places

four : (places : List ℕ) → drop 1 (drop 1 (drop 1 (drop 1 places))) ≡ drop 4 places
four [] = refl
four (x ∷ places) = three places

-- what is true of any part
abbrev Any : {A : Type 0} → A → Type 0
Any x = Unit {0}

each_any : {A : Type 0} (xs : List A) → Each Any xs
each_any [] = tt
each_any (x ∷ xs) = (tt, each_any xs)

name_reads : (text : List ℕ) → Unit {0} → (more : Words) → Unit {0} → (p : Where) → name_at (laid (name_words text ++ more) p) ≡ Ok (ident text p.starts, laid more (skip (name_words text) p))
unfolding name_at
name_reads text good more end p = refl

-- ---- declarations

type_reads : (k : ColType) (more : Words) (p : Where) → type_at (laid (keyword (type_key k) ∷ more) p) ≡ Ok (k, laid more (next p))
unfolding type_at keyword_at
type_reads kind.Bigint more p = refl
type_reads kind.Str more p = refl
type_reads kind.Timestamp more p = refl
type_reads kind.Bool more p = refl

decl_reads : (decl : WrittenDecl) → Unit {0} → (more : Words) → Unit {0} → (p : Where) → decl_at (laid (decl_words decl ++ more) p) ≡ Ok (decl_tree decl p.starts, laid more (skip (decl_words decl) p))
unfolding decl_at name_at
decl_reads decl good more end p = ap (λ read. read >>= (λ typed. Ok (record { name = ident decl.name p.starts; kind = typed.0 }, typed.1))) (type_reads decl.kind more (next p))

watermark_reads : (w : Option WrittenWatermark) → IfSome w (λ w. IsSpanText w.delay) → (more : Words) (p : Where)
    → watermark_at (laid (watermark_words w ++ symbol mark.Semicolon ∷ more) p) ≡ Ok (option_map (λ w. watermark_tree w p.starts) w, laid (symbol mark.Semicolon ∷ more) (skip (watermark_words w) p))
unfolding watermark_at keyword_at name_at
watermark_reads None good more p = refl
watermark_reads (Some w) good more p =
    let q : Where = next (next (next (next p))) in
    ap (λ read. read >>= (λ span. Ok (Some (record { column = ident w.column (next (next p)).starts; delay = span.0 }), span.1))) (span_reads w.delay good (symbol mark.Semicolon ∷ more) q)
    ∙ ap (λ from. Ok (Some (record { column = ident w.column from; delay = w.delay }), laid (symbol mark.Semicolon ∷ more) (next q))) (two p.starts)

-- by the places of its name, its columns and its watermark
abbrev declared_by : WrittenStream → ℕ → List ℕ → List ℕ → List ℕ → Stream
declared_by s at named columns watermark = record {
  at = at;
  name = ident s.name named;
  columns = each_tree decl_words decl_tree 1 s.columns columns;
  source = s.source;
  watermark = option_map (λ w. watermark_tree w watermark) s.watermark;
}

abbrev columns_of : WrittenStream → Words
columns_of s = separated (map decl_words s.columns)

declared_parts : (S W more : Words) (q : List ℕ)
    → (((S ++ symbol mark.RightParen ∷ []) ++ keyword key.From ∷ quoted q ∷ W) ++ symbol mark.Semicolon ∷ []) ++ more
    ≡ S ++ (symbol mark.RightParen ∷ keyword key.From ∷ quoted q ∷ (W ++ symbol mark.Semicolon ∷ more))
declared_parts S W more q = simp append_assoc

-- after STREAM, the name and a bracket
abbrev declared_rest : WrittenStream → Words → Words
declared_rest s more = columns_of s ++ (symbol mark.RightParen ∷ keyword key.From ∷ quoted s.source ∷ (watermark_words s.watermark ++ symbol mark.Semicolon ∷ more))

abbrev behind_stream : WrittenStream → Words → Words
behind_stream s more = keyword key.Stream ∷ name s.name ∷ symbol mark.LeftParen ∷ declared_rest s more

declared_front : (s : WrittenStream) (more : Words) → declared_words s ++ more ≡ keyword key.Create ∷ behind_stream s more
declared_front s more = ap (λ ws. keyword key.Create ∷ keyword key.Stream ∷ name s.name ∷ symbol mark.LeftParen ∷ ws) (declared_parts (columns_of s) (watermark_words s.watermark) more s.source)

declared_behind : (S W : Words) (q : List ℕ) (p : Where)
    → skip (((S ++ symbol mark.RightParen ∷ []) ++ keyword key.From ∷ quoted q ∷ W) ++ symbol mark.Semicolon ∷ []) p ≡ next (skip W (next (next (next (skip S p)))))
declared_behind S W q p = simp skip_more

stream_reads : (s : WrittenStream) → IsRegularStream s → (more : Words) (p : Where)
    → stream_at (first p.starts) (laid (behind_stream s more) (next p)) ≡ Ok (declared_tree s p.starts, laid more (skip (declared_words s) p))
unfolding stream_at keyword_at name_at symbol_at quoted_at
stream_reads s regular more p =
    let c : Where = next (next (next (next p))) in
    let d : Where = skip (columns_of s) c in
    let w : Where = next (next (next d)) in
    let W : Words = watermark_words s.watermark in
    let named = two p.starts in
    let columns = four p.starts in
    let watermark = three d.starts ∙ ap (drop 3) (sym (skip_starts (columns_of s) c) ∙ ap (drop (length (columns_of s))) columns) in
    let ended = sym (declared_behind (columns_of s) W s.source c) in
    ap (λ read. read >>= (λ columns. symbol_at mark.RightParen columns.1 >>= (λ closed. keyword_at key.From closed.1 >>= (λ from. quoted_at from.1 >>= (λ source.
    watermark_at source.1 >>= (λ watermark. symbol_at mark.Semicolon watermark.1 >>= (λ ended.
    Ok (record { at = first p.starts; name = ident s.name (next (next p)).starts; columns = columns.0; source = source.0.1; watermark = watermark.0 }, ended.1))))))))
    (list_reads decl_at decl_words decl_tree Any Any decl_reads (λ more. tt) s.columns regular.columns (each_any s.columns)
    (symbol mark.RightParen ∷ keyword key.From ∷ quoted s.source ∷ (W ++ symbol mark.Semicolon ∷ more)) (omega arith) tt refl c)
    ∙ ap (λ read. read >>= (λ watermark. symbol_at mark.Semicolon watermark.1 >>= (λ ended.
    Ok (record { at = first p.starts; name = ident s.name (next (next p)).starts; columns = each_tree decl_words decl_tree 1 s.columns c.starts; source = s.source; watermark = watermark.0 }, ended.1))))
    (watermark_reads s.watermark regular.delay more w)
    ∙ (λ i. Ok (declared_by s (first p.starts) (named i) (columns i) (watermark i), laid more (ended i)))

module _ (more : Words) (other : Other (is_keyword key.Create) more) where
  abbrev Declared : List WrittenStream → Words
  Declared xs = flat_map declared_words xs

  pub streams_read_from : (xs : List WrittenStream) → Each IsRegularStream xs → (turns : ℕ) → length xs ≤ turns → (found : List Stream) (p : Where)
      → streams_from turns found (laid (Declared xs ++ more) p) ≡ Ok (found ++ each_tree declared_words declared_tree 0 xs p.starts, laid more (skip (Declared xs) p))
  unfolding streams_from
  streams_read_from [] good zero enough found p = ap (λ streams. Ok (streams, laid more p)) (sym (append-nil found))
  streams_read_from [] good (suc turns) enough found p =
      ap (λ create. streams_then (streams_from turns) found create (laid more p)) (unseen (is_keyword key.Create) more other p)
      ∙ ap (λ streams. Ok (streams, laid more p)) (sym (append-nil found))
  streams_read_from (x ∷ xs) good zero enough found p = absurd (omega arith)
  streams_read_from (x ∷ xs) good (suc turns) enough found p =
      let q : Where = skip (declared_words x) p in
      ap (λ ws. streams_from (suc turns) found (laid ws p)) (append_assoc (declared_words x) (Declared xs) more ∙ declared_front x (Declared xs ++ more))
      ∙ ap (λ read. read >>= (λ next. streams_from turns (found ++ next.0 ∷ []) next.1)) (stream_reads x good.0 (Declared xs ++ more) p)
      ∙ streams_read_from xs good.1 turns (omega arith) (found ++ declared_tree x p.starts ∷ []) q
      ∙ ap (λ trees. Ok (trees, laid more (skip (Declared xs) q))) (append_assoc found (declared_tree x p.starts ∷ []) (each_tree declared_words declared_tree 0 xs q.starts))
      ∙ ap (λ from. Ok (found ++ declared_tree x p.starts ∷ each_tree declared_words declared_tree 0 xs from, laid more (skip (Declared xs) q))) (sym (skip_starts (declared_words x) p))
      ∙ ap (λ at. Ok (found ++ each_tree declared_words declared_tree 0 (x ∷ xs) p.starts, laid more at)) (sym (skip_more (declared_words x) (Declared xs) p))

-- ---- items

pub record ItemEnd (more : Words) : Type 0 where
  pub stops : Stops 0 more
  pub no_as : Other (is_keyword key.As) more

column_fit : (column : WrittenColumn) → IsFit (of_column column)
column_fit column = record { regular = tt; brackets = omega arith; heights = omega arith }

named_first : (stream : Option (List ℕ)) (column : List ℕ) (more : Words) (p : Where) → sees is_name (laid (column_words (record { stream = stream; column = column }) ++ more) p) ≡ true
named_first None column more p = refl
named_first (Some stream) column more p = refl

pub item_reads : (x : WrittenItem) → IsRegularItem IsFit x → (more : Words) → ItemEnd more → (p : Where) → item_at (laid (item_words x ++ more) p) ≡ Ok (item_tree x p.starts, laid more (skip (item_words x) p))
unfolding item_at name_at
item_reads (bare_item column) good more end p =
    let q : Where = skip (column_words column) p in
    let tokens : Ahead = laid (column_words column ++ more) p in
    ap (λ read. read >>= (λ value. item_by (sees is_name tokens) value.0 (seen (is_keyword key.As) value.1) value.1)) (whole_reads (of_column column) (column_fit column) more end.stops p)
    ∙ ap (λ found. item_by (sees is_name tokens) (made (of_column column) p) found (laid more q)) (unseen (is_keyword key.As) more end.no_as q)
    ∙ ap (λ b. item_by b (made (of_column column) p) None (laid more q)) (named_first column.stream column.column more p)
item_reads (named_item value label) fit more end p =
    let q : Where = skip (words value) p in
    let ws : Words = keyword key.As ∷ name label ∷ more in
    let tokens : Ahead = laid (words value ++ ws) p in
    ap (λ ws. item_at (laid ws p)) (append_assoc (words value) (keyword key.As ∷ name label ∷ []) more)
    ∙ ap (λ read. read >>= (λ value. item_by (sees is_name tokens) value.0 (seen (is_keyword key.As) value.1) value.1)) (whole_reads value fit ws (omega arith) p)
    ∙ ap (λ from. Ok (item_of (tree value p.starts) (first p.starts) (ident label (drop 1 from)), laid more (next (next q)))) (sym (skip_starts (words value) p))
    ∙ ap (λ at. Ok (item_tree (named_item value label) p.starts, laid more at)) (sym (skip_more (words value) (keyword key.As ∷ name label ∷ []) p))

-- ---- what may stand after the stream

pub condition_reads : (k : Keyword) (n : ℕ) → is_keyword k (keyword k) ≡ true → stage_of k + 1 ≤ n → (c : Option Written) → IfSome c IsFit → (more : Words) → Later n more → (p : Where)
    → condition_at k (laid (condition_words k c ++ more) p) ≡ Ok (option_map (λ c. condition_tree c p.starts) c, laid more (skip (condition_words k c) p))
unfolding condition_at
condition_reads k n is below None fit more l p = ap (λ at. condition_by at (laid more p)) (unseen_keyword k n below more l p)
condition_reads k n is below (Some c) fit more l p =
    ap (λ b. condition_by (if b then Some (first p.starts) else None) (laid (keyword k ∷ (words c ++ more)) p)) is
    ∙ ap (λ read. read >>= (λ value. Ok (Some (record { at = first p.starts; value = value.0.value }), value.1))) (whole_reads c fit more (later_stops n more l) (next p))

joined_reads : (j : WrittenJoin) (k : JoinKind) → IsFit j.on → (more : Words) → Stops 0 more → (p : Where)
    → joined_at k (laid (keyword key.Join ∷ name j.stream ∷ keyword key.On ∷ (words j.on ++ more)) p)
    ≡ Ok (Some (record { kind = k; at = first p.starts; stream = ident j.stream (drop 1 p.starts); on = condition_tree j.on (drop 2 p.starts) }), laid more (skip (words j.on) (next (next (next p)))))
unfolding joined_at keyword_at name_at
joined_reads j k fit more stops p =
    ap (λ read. read >>= (λ value. Ok (Some (record { kind = k; at = first p.starts; stream = ident j.stream (drop 1 p.starts); on = record { at = first (next (next p)).starts; value = value.0.value } }), value.1)))
    (whole_reads j.on fit more stops (next (next (next p))))
    ∙ ap (λ from. Ok (Some (record { kind = k; at = first p.starts; stream = ident j.stream (drop 1 p.starts); on = condition_tree j.on from }), laid more (skip (words j.on) (next (next (next p)))))) (two p.starts)

join_by : (k : JoinKind) (has_word : Bool) (j : WrittenJoin) → IsFit j.on → (more : Words) → Stops 0 more → (p : Where)
    → join_at (laid (kind_words k has_word ++ keyword key.Join ∷ name j.stream ∷ keyword key.On ∷ (words j.on ++ more)) p)
    ≡ Ok (Some (join_tree (record { kind = k; has_word = has_word; stream = j.stream; on = j.on }) p.starts), laid more (skip (words j.on) (next (next (next (skip (kind_words k has_word) p))))))
unfolding join_at
join_by join.Inner true j fit more stops p = joined_reads j join.Inner fit more stops (next p)
join_by join.Inner false j fit more stops p = joined_reads j join.Inner fit more stops p
join_by join.Left true j fit more stops p =
    joined_reads j join.Left fit more stops (next (next p))
    ∙ ap (λ from. Ok (Some (record { kind = join.Left; at = first from; stream = ident j.stream (drop 1 from); on = condition_tree j.on (drop 2 from) }), laid more (skip (words j.on) (next (next (next (next (next p)))))))) (two p.starts)
join_by join.Left false j fit more stops p = joined_reads j join.Left fit more stops (next p)
join_by join.Right true j fit more stops p =
    joined_reads j join.Right fit more stops (next (next p))
    ∙ ap (λ from. Ok (Some (record { kind = join.Right; at = first from; stream = ident j.stream (drop 1 from); on = condition_tree j.on (drop 2 from) }), laid more (skip (words j.on) (next (next (next (next (next p)))))))) (two p.starts)
join_by join.Right false j fit more stops p = joined_reads j join.Right fit more stops (next p)

no_join : (more : Words) → Later 2 more → (p : Where) → join_at (laid more p) ≡ Ok (None, laid more p)
unfolding join_at
no_join more l p = simp (unseen_keyword key.Inner 2 (omega arith) more l p, unseen_keyword key.Left 2 (omega arith) more l p, unseen_keyword key.Right 2 (omega arith) more l p, unseen_keyword key.Join 2 (omega arith) more l p)

pub join_reads : (j : Option WrittenJoin) → IfSome j (λ j. IsFit j.on) → (more : Words) → Later 2 more → (p : Where)
    → join_at (laid (join_words j ++ more) p) ≡ Ok (option_map (λ j. join_tree j p.starts) j, laid more (skip (join_words j) p))
join_reads None fit more l p = no_join more l p
join_reads (Some j) fit more l p =
    ap (λ ws. join_at (laid ws p)) (append_assoc (kind_words j.kind j.has_word) (keyword key.Join ∷ name j.stream ∷ keyword key.On ∷ words j.on) more)
    ∙ join_by j.kind j.has_word j fit more (later_stops 2 more l) p
    ∙ ap (λ at. Ok (Some (join_tree j p.starts), laid more at)) (sym (skip_more (kind_words j.kind j.has_word) (keyword key.Join ∷ name j.stream ∷ keyword key.On ∷ words j.on) p))

pub deduplicate_reads : (d : Option (List (List ℕ))) → IfSome d IsFilled → (more : Words) → Later 4 more → (p : Where)
    → deduplicate_at (laid (deduplicate_words d ++ more) p) ≡ Ok (option_map (λ columns. deduplicate_tree columns p.starts) d, laid more (skip (deduplicate_words d) p))
unfolding deduplicate_at keyword_at
deduplicate_reads None filled more l p = ap (λ at. deduplicate_by at (laid more p)) (unseen_keyword key.Deduplicate 4 (omega arith) more l p)
deduplicate_reads (Some columns) filled more l p =
    let q : Where = next (next p) in
    ap (λ read. read >>= (λ columns. Ok (Some (record { at = first p.starts; columns = columns.0 }), columns.1)))
    (list_reads name_at name_words ident Any Any name_reads (λ more. tt) columns filled (each_any columns) more (later_some 4 more l) tt (no_comma 4 (omega arith) more l) q)
    ∙ ap (λ from. Ok (Some (record { at = first p.starts; columns = each_tree name_words ident 1 columns from }), laid more (skip (separated (map name_words columns)) q))) (two p.starts)

window_reads : (column : List ℕ) (size : Span) (slide : Option Span) → IsSpanText size → IfSome slide IsSpanText → (more : Words) (p : Where)
    → group_item_at (laid (group_item_words (window_group (record { column = column; size = size; slide = slide })) ++ more) p)
    ≡ Ok (group_item_tree (window_group (record { column = column; size = size; slide = slide })) p.starts, laid more (skip (group_item_words (window_group (record { column = column; size = size; slide = slide }))) p))
unfolding group_item_at window_at name_at symbol_at slide_at
window_reads column size None good so more p =
    let q : Where = next (next (next (next p))) in
    ap (λ read. read >>= (λ size. slide_at size.1 >>= (λ slide. symbol_at mark.RightParen slide.1 >>= (λ closed.
    Ok (record { at = first p.starts; column = ident column (next (next p)).starts; size = size.0; slide = slide.0 }, closed.1)))) >>= (λ found. Ok (group.Window found.0, found.1)))
    (span_reads size good (symbol mark.RightParen ∷ more) q)
    ∙ ap (λ from. Ok (group.Window (record { at = first p.starts; column = ident column from; size = size; slide = None }), laid more (next (next q)))) (two p.starts)
window_reads column size (Some slide) good so more p =
    let q : Where = next (next (next (next p))) in
    let r : Where = next (next q) in
    ap (λ read. read >>= (λ size. slide_at size.1 >>= (λ slide. symbol_at mark.RightParen slide.1 >>= (λ closed.
    Ok (record { at = first p.starts; column = ident column (next (next p)).starts; size = size.0; slide = slide.0 }, closed.1)))) >>= (λ found. Ok (group.Window found.0, found.1)))
    (span_reads size good (comma ∷ quoted slide.text ∷ symbol mark.RightParen ∷ more) q)
    ∙ ap (λ read. read >>= (λ found. Ok (Some found.0, found.1)) >>= (λ slide. symbol_at mark.RightParen slide.1 >>= (λ closed.
    Ok (record { at = first p.starts; column = ident column (next (next p)).starts; size = size; slide = slide.0 }, closed.1))) >>= (λ found. Ok (group.Window found.0, found.1)))
    (span_reads slide so (symbol mark.RightParen ∷ more) r)
    ∙ ap (λ from. Ok (group.Window (record { at = first p.starts; column = ident column from; size = size; slide = Some slide }), laid more (next (next r)))) (two p.starts)

group_item_reads : (x : WrittenGroup) → IsRegularGroup x → (more : Words) → Unit {0} → (p : Where) → group_item_at (laid (group_item_words x ++ more) p) ≡ Ok (group_item_tree x p.starts, laid more (skip (group_item_words x) p))
unfolding group_item_at name_at
group_item_reads (column_group column) good more end p = refl
group_item_reads (window_group w) good more end p = window_reads w.column w.size w.slide good.0 good.1 more p

pub group_reads : (g : Option (List WrittenGroup)) → IfSome g IsFilled → IfSome g (Each IsRegularGroup) → (more : Words) → Later 5 more → (p : Where)
    → group_at (laid (group_words g ++ more) p) ≡ Ok (option_map (λ items. group_tree items p.starts) g, laid more (skip (group_words g) p))
unfolding group_at keyword_at
group_reads None filled good more l p = ap (λ at. group_by at (laid more p)) (unseen_keyword key.Group 5 (omega arith) more l p)
group_reads (Some items) filled good more l p =
    let q : Where = next (next p) in
    ap (λ read. read >>= (λ items. Ok (Some (record { at = first p.starts; items = items.0 }), items.1)))
    (list_reads group_item_at group_item_words group_item_tree IsRegularGroup Any group_item_reads (λ more. tt) items filled good more (later_some 5 more l) tt (no_comma 5 (omega arith) more l) q)
    ∙ ap (λ from. Ok (Some (record { at = first p.starts; items = each_tree group_item_words group_item_tree 1 items from }), laid more (skip (separated (map group_item_words items)) q))) (two p.starts)

-- ---- orders

record OrderEnd (more : Words) : Type 0 where
  no_desc : Other (is_keyword key.Desc) more
  no_asc : Other (is_keyword key.Asc) more

direction_reads : (d : Direction) (has_word : Bool) (more : Words) → OrderEnd more → (p : Where)
    → direction_at (laid (direction_words d has_word ++ more) p) ≡ Ok (d, laid more (skip (direction_words d has_word) p))
unfolding direction_at
direction_reads direction.Ascending true more end p = refl
direction_reads direction.Ascending false more end p = simp (unseen (is_keyword key.Desc) more end.no_desc p, unseen (is_keyword key.Asc) more end.no_asc p)
direction_reads direction.Descending has_word more end p = refl

order_item_reads : (o : WrittenOrder) → Unit {0} → (more : Words) → OrderEnd more → (p : Where) → order_item_at (laid (order_item_words o ++ more) p) ≡ Ok (order_item_tree o p.starts, laid more (skip (order_item_words o) p))
unfolding order_item_at name_at
order_item_reads o good more end p = ap (λ read. read >>= (λ directed. Ok (record { name = ident o.name p.starts; direction = directed.0 }, directed.1))) (direction_reads o.direction o.has_word more end (next p))

pub order_reads : (os : List WrittenOrder) (more : Words) → Later 7 more → (p : Where)
    → order_at (laid (order_words os ++ more) p) ≡ Ok (each_tree order_item_words order_item_tree 1 os (drop 2 p.starts), laid more (skip (order_words os) p))
unfolding order_at keyword_at
order_reads [] more l p = ap (λ at. order_by at (laid more p)) (unseen_keyword key.Order 7 (omega arith) more l p)
order_reads (o ∷ os) more l p =
    let q : Where = next (next p) in
    let end : OrderEnd more = record { no_desc = other_keyword key.Desc 7 (omega arith) more l; no_asc = other_keyword key.Asc 7 (omega arith) more l } in
    list_reads order_item_at order_item_words order_item_tree Any OrderEnd order_item_reads (λ more. record { no_desc = refl; no_asc = refl }) (o ∷ os) tt (each_any (o ∷ os)) more (later_some 7 more l) end (no_comma 7 (omega arith) more l) q
    ∙ ap (λ from. Ok (each_tree order_item_words order_item_tree 1 (o ∷ os) from, laid more (skip (separated (map order_item_words (o ∷ os))) q))) (two p.starts)

pub limit_reads : (most : Option ℤ) (more : Words) → Later 8 more → (p : Where)
    → limit_at (laid (limit_words most ++ more) p) ≡ Ok (option_map (λ most. limit_tree most p.starts) most, laid more (skip (limit_words most) p))
unfolding limit_at number_at
limit_reads None more l p = ap (λ at. limit_by at (laid more p)) (unseen_keyword key.Limit 8 (omega arith) more l p)
limit_reads (Some most) more l p = refl

pub mode_reads : (m : Mode) (more : Words) (p : Where) → mode_at (laid (keyword key.Output ∷ keyword (mode_key m) ∷ more) p) ≡ Ok (m, laid more (next (next p)))
unfolding mode_at keyword_at
mode_reads mode.Append more p = refl
mode_reads mode.Update more p = refl
mode_reads mode.Complete more p = refl
