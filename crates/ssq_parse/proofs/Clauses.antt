-- The clauses of queries are read as they are written.
use Rattle.std.proofs.Common.{◌≡◌, ℕ, Bool, true, false, sym, ap, ◌∙◌, List, [], ◌∷◌, map, drop, length, refl, Option, Some, None, Ok}
use Rattle.std.specs.Prelude.{if◌then◌else◌, IfSome}
use Rattle.std.specs.Option.{option_map}
use Rattle.ssq_ast.specs.declared.expr.Ident.{Ident}
use Rattle.ssq_ast.specs.declared.expr.Span.{Span}
use Rattle.ssq_ast.specs.declared.query.ColumnDecl.{ColumnDecl}
use Rattle.ssq_ast.specs.declared.query.Condition.{Condition}
use Rattle.ssq_ast.specs.declared.query.Deduplicate.{Deduplicate}
use Rattle.ssq_ast.specs.declared.query.Direction.{Direction}
use Rattle.ssq_ast.specs.declared.query.Direction.TheVariants as direction
use Rattle.ssq_ast.specs.declared.query.Group.{Group}
use Rattle.ssq_ast.specs.declared.query.Group.TheVariants as group
use Rattle.ssq_ast.specs.declared.query.GroupBy.{GroupBy}
use Rattle.ssq_ast.specs.declared.query.Join.{Join}
use Rattle.ssq_ast.specs.declared.query.JoinKind.{JoinKind}
use Rattle.ssq_ast.specs.declared.query.JoinKind.TheVariants as join
use Rattle.ssq_ast.specs.declared.query.Limit.{Limit}
use Rattle.ssq_ast.specs.declared.query.Mode.{Mode}
use Rattle.ssq_ast.specs.declared.query.Mode.TheVariants as mode
use Rattle.ssq_ast.specs.declared.query.OrderBy.{OrderBy}
use Rattle.ssq_ast.specs.declared.query.Stream.{Stream}
use Rattle.ssq_ast.specs.declared.query.Watermark.{Watermark}
use Rattle.ssq_ast.specs.declared.query.Window.{Window}
use Rattle.ssq_ast.specs.Expression.{Words, Written, words, tree, ident}
use Rattle.ssq_ast.specs.Expression as grammar
use Rattle.ssq_ast.specs.Statement.{WrittenWindow, column_group, window_group, Each, IsFilled, IsFit, IsSpanText, IsRegularStream, IsRegularGroup, comma, separated, each_tree, type_key, decl_words, decl_tree, watermark_words, watermark_tree, declared_words, declared_tree, name_words, condition_words, condition_tree, kind_words, join_words, join_tree, deduplicate_words, deduplicate_tree, slide_words, window_words, group_item_words, group_item_tree, group_words, group_tree, direction_words, order_item_words, order_item_tree, order_words, limit_words, limit_tree, mode_key}
use Rattle.ssq_lex.specs.declared.keyword.Keyword.{Keyword}
use Rattle.ssq_lex.specs.declared.keyword.Keyword.TheVariants as key
use Rattle.ssq_lex.specs.declared.symbol.Symbol.{Symbol}
use Rattle.ssq_lex.specs.declared.symbol.Symbol.TheVariants as mark
use Rattle.ssq_lex.specs.Lexeme.{Lexeme, keyword, name, number, quoted, symbol, Lexed}
use Rattle.ssq_value.specs.declared.column.ColType.{ColType}
use Rattle.ssq_value.specs.declared.column.ColType.TheVariants as kind
use Rattle.ssq_parse.specs.Expressions.{whole_at}
use Rattle.ssq_parse.specs.Queries.{list_at, or_type, type_at, decl_at, watermark_by, watermark_at, stream_at, condition_by, condition_at, joined_at, outer_at, bare_join, right_join, left_join, inner_join, join_at, deduplicate_by, deduplicate_at, slide_by, slide_at, window_at, group_item_by, group_item_at, group_by, group_at, direction_by, direction_at, order_item_at, order_by, order_at, limit_by, limit_at, or_mode, mode_by, mode_at}
use Rattle.ssq_parse.specs.Reading.{Ahead, Read, ◌>>=◌, behind, needed, seen, is_keyword, is_symbol, keyword_at, symbol_at, name_at, quoted_at, number_by, number_at, span_at}
use Rattle.ssq_parse.specs.Written.{starts, Took, IfRead}
use Rattle.ssq_parse.proofs.Operands.{symbol_sound, keyword_sound}
use Rattle.ssq_parse.proofs.Parts.{Part, Always, keep, list_sound}
use Rattle.ssq_parse.proofs.Primary.{Named, name_sound, Spanned, span_sound, quoted_sound}
use Rattle.ssq_parse.proofs.Whole.{whole_sound}
use Rattle.ssq_parse.proofs.Words.{took_none, took_one, took_more, then_holds, is_keyword-found, is_symbol-found}

-- ---- the next token, and places

next_by : {A : Type 0} (P : Ahead → A × Ahead → Type 0) (word : Lexeme) (by : Option ℕ → Ahead → Read A)
    → ((tokens : Ahead) → IfRead (by None tokens) (P tokens))
    → ((t : Lexed) (ts : Ahead) → t.said ≡ word → IfRead (by (Some t.start) (t ∷ ts)) (P (t ∷ ts)))
    → (t : Lexed) (ts : Ahead) (b : Bool) → (b ≡ true → t.said ≡ word) → IfRead (by (if b then Some t.start else None) (t ∷ ts)) (P (t ∷ ts))
next_by P word by none some t ts true is = some t ts (is refl)
next_by P word by none some t ts false is = none (t ∷ ts)

if_next : {A : Type 0} (P : Ahead → A × Ahead → Type 0) (is : Lexeme → Bool) (word : Lexeme) → ((said : Lexeme) → is said ≡ true → said ≡ word)
    → (by : Option ℕ → Ahead → Read A)
    → ((tokens : Ahead) → IfRead (by None tokens) (P tokens))
    → ((t : Lexed) (ts : Ahead) → t.said ≡ word → IfRead (by (Some t.start) (t ∷ ts)) (P (t ∷ ts)))
    → (tokens : Ahead) → IfRead (by (seen is tokens) tokens) (P tokens)
if_next P is word found by none some [] = none []
if_next P is word found by none some (t ∷ ts) = next_by P word by none some t ts (is t.said) (found t.said)

-- a clause that begins with a keyword
pub clause : {A : Type 0} (P : Ahead → A × Ahead → Type 0) (k : Keyword) (by : Option ℕ → Ahead → Read A)
    → ((tokens : Ahead) → IfRead (by None tokens) (P tokens))
    → ((t : Lexed) (ts : Ahead) → t.said ≡ keyword k → IfRead (by (Some t.start) (t ∷ ts)) (P (t ∷ ts)))
    → (tokens : Ahead) → IfRead (by (seen (is_keyword k) tokens) tokens) (P tokens)
clause P k by none some tokens = if_next P (is_keyword k) (keyword k) (is_keyword-found k) by none some tokens

pub thus : {A B : Type 0} {P : A × Ahead → Type 0} (Q : B × Ahead → Type 0) (read : Read A) (f : A × Ahead → Read B)
    → IfRead read P → ((found : A × Ahead) → P found → IfRead (f found) Q) → IfRead (read >>= f) Q
thus {P = P} Q read f holds more = then_holds P Q read f holds more

placed_by : (b : Bool) (word : Lexeme) (t : Lexed) (ts : Ahead) → (b ≡ true → t.said ≡ word)
    → IfRead (needed (if b then Some t.start else None) (t ∷ ts)) (λ found. Took (t ∷ ts) found.1 (word ∷ []) × (grammar.first (starts (t ∷ ts)) ≡ found.0))
placed_by true word t ts is = (took_one t ts word (is refl), refl)
placed_by false word t ts is = tt

pub keyword_placed : (k : Keyword) (tokens : Ahead) → IfRead (keyword_at k tokens) (λ found. Took tokens found.1 (keyword k ∷ []) × (grammar.first (starts tokens) ≡ found.0))
unfolding keyword_at
keyword_placed k [] = tt
keyword_placed k (t ∷ ts) = placed_by (is_keyword k t.said) (keyword k) t ts (is_keyword-found k t.said)

number_sound_by : (t : Lexed) (ts : Ahead) (word : Lexeme) → t.said ≡ word
    → IfRead (needed (number_by word) (t ∷ ts)) (λ found. Took (t ∷ ts) found.1 (number found.0 ∷ []))
number_sound_by t ts (number n) is = took_one t ts (number n) is
number_sound_by t ts (keyword k) is = tt
number_sound_by t ts (quoted text) is = tt
number_sound_by t ts (name text) is = tt
number_sound_by t ts (symbol s) is = tt

pub number_sound : (tokens : Ahead) → IfRead (number_at tokens) (λ found. Took tokens found.1 (number found.0 ∷ []))
unfolding number_at
number_sound [] = tt
number_sound (t ∷ ts) = number_sound_by t ts t.said refl

-- what was read, in a form that tells the reader
pub record Sure {A : Type 0} (read : Read A) (P : A × Ahead → Type 0) : Type 0 where
  pub holds : IfRead read P

pub sure : {A : Type 0} (read : Read A) (P : A × Ahead → Type 0) → IfRead read P → Sure read P
sure read P holds = record { holds = holds }

pub hence : {A B : Type 0} {read : Read A} {P : A × Ahead → Type 0} → Sure read P → (Q : B × Ahead → Type 0) (f : A × Ahead → Read B)
    → ((found : A × Ahead) → P found → IfRead (f found) Q) → IfRead (read >>= f) Q
hence {read = read} {P = P} s Q f more = then_holds P Q read f s.holds more

pub keyword_sure : (k : Keyword) (tokens : Ahead) → Sure (keyword_at k tokens) (λ found. Took tokens found.1 (keyword k ∷ []))
keyword_sure k tokens = record { holds = keyword_sound k tokens }

pub placed_sure : (k : Keyword) (tokens : Ahead) → Sure (keyword_at k tokens) (λ found. Took tokens found.1 (keyword k ∷ []) × (grammar.first (starts tokens) ≡ found.0))
placed_sure k tokens = record { holds = keyword_placed k tokens }

pub symbol_sure : (s : Symbol) (tokens : Ahead) → Sure (symbol_at s tokens) (λ found. Took tokens found.1 (symbol s ∷ []))
symbol_sure s tokens = record { holds = symbol_sound s tokens }

pub name_sure : (tokens : Ahead) → Sure (name_at tokens) (Named tokens)
name_sure tokens = record { holds = name_sound tokens }

quoted_sure : (tokens : Ahead) → Sure (quoted_at tokens) (λ found. Took tokens found.1 (quoted found.0.1 ∷ []))
quoted_sure tokens = record { holds = quoted_sound tokens }

span_sure : (tokens : Ahead) → Sure (span_at tokens) (Spanned tokens)
span_sure tokens = record { holds = span_sound tokens }

-- the places after what was taken
pub onward : {u v : Ahead} {ws : Words} {places : List ℕ} → places ≡ starts u → Took u v ws → drop (length ws) places ≡ starts v
onward {ws = ws} here took = ap (drop (length ws)) here ∙ took.left

pub name_there : (u : Ahead) (found : Ident × Ahead) (places : List ℕ) → places ≡ starts u → Named u found → ident found.0.text places ≡ found.0
name_there u found places here named =
    let at : grammar.first places ≡ found.0.at = ap grammar.first here ∙ named.1 in
    λ i. record { text = found.0.text; at = at i }

pub name_part : (tokens : Ahead) → IfRead (name_at tokens) (Part name_words ident Always tokens)
name_part tokens = keep (name_at tokens) (name_sound tokens)
    (λ found named. record { written = found.0.text; took = named.0; is_good = tt; meant = name_there tokens found (starts tokens) refl named })

-- ---- lists

abbrev pub Listed : {W A : Type 0} → (W → Words) → (W → List ℕ → A) → (W → Type 0) → Ahead → List A × Ahead → Type 0
Listed wrote made good = Part (λ ws. separated (map wrote ws)) (λ ws places. each_tree wrote made 1 ws places) (λ ws. IsFilled ws × Each good ws)

pub listed : {W A : Type 0} (wrote : W → Words) (made : W → List ℕ → A) (good : W → Type 0) (part : Ahead → Read A)
    → ((tokens : Ahead) → IfRead (part tokens) (Part wrote made good tokens))
    → (tokens : Ahead) → IfRead (list_at part tokens) (Listed wrote made good tokens)
listed wrote made good part sound tokens = keep (list_at part tokens) (list_sound wrote made good part sound tokens)
    (λ found f. record { written = f.first ∷ f.others; took = f.took; is_good = (tt, f.each); meant = f.meant ∙ sym f.whole })

-- ---- conditions

abbrev pub Conditioned : Keyword → Ahead → Option Condition × Ahead → Type 0
Conditioned k = Part (condition_words k) (λ condition places. option_map (λ c. condition_tree c places) condition) (λ condition. IfSome condition IsFit)

pub condition_sound : (k : Keyword) (tokens : Ahead) → IfRead (condition_at k tokens) (Conditioned k tokens)
unfolding condition_at
condition_sound k tokens = clause (Conditioned k) k condition_by
    (λ tokens. record { written = None; took = took_none tokens; is_good = tt; meant = refl })
    (λ t ts word. thus (Conditioned k (t ∷ ts)) (whole_at ts) (λ value. Ok (Some (record { at = t.start; value = value.0.value }), value.1)) (whole_sound ts) (λ value s. record {
      written = Some s.written;
      took = took_more (took_one t ts (keyword k) word) s.took;
      is_good = record { regular = s.regular; brackets = s.opened; heights = s.tall };
      meant = λ i. Some (record { at = t.start; value = s.meant i });
    })) tokens

-- ---- orders and limits

abbrev Directed : Ahead → Direction × Ahead → Type 0
Directed tokens found = (has_word : Bool) × Took tokens found.1 (direction_words found.0 has_word)

direction_sound : (tokens : Ahead) → IfRead (direction_at tokens) (Directed tokens)
unfolding direction_at
direction_sound tokens = clause Directed key.Desc direction_by
    (λ tokens. clause Directed key.Asc (λ word tokens. Ok (direction.Ascending, behind word tokens))
    (λ tokens. (false, took_none tokens)) (λ t ts word. (true, took_one t ts (keyword key.Asc) word)) tokens)
    (λ t ts word. (false, took_one t ts (keyword key.Desc) word)) tokens

order_part : (tokens : Ahead) → IfRead (order_item_at tokens) (Part order_item_words order_item_tree Always tokens)
unfolding order_item_at
order_part tokens = hence (name_sure tokens) (Part order_item_words order_item_tree Always tokens) _ (λ called named. thus (Part order_item_words order_item_tree Always tokens) (direction_at called.1) (λ directed. Ok (record { name = called.0; direction = directed.0 }, directed.1)) (direction_sound called.1) (λ directed d.
    let name_is : ident called.0.text (starts tokens) ≡ called.0 = name_there tokens called (starts tokens) refl named in
    record {
      written = record { name = called.0.text; direction = directed.0; has_word = d.0 };
      took = took_more named.0 d.1;
      is_good = tt;
      meant = λ i. record { name = name_is i; direction = directed.0 };
    }))

abbrev pub Ordered : Ahead → List OrderBy × Ahead → Type 0
Ordered = Part order_words (λ orders places. each_tree order_item_words order_item_tree 1 orders (drop 2 places)) Always

pub order_sound : (tokens : Ahead) → IfRead (order_at tokens) (Ordered tokens)
unfolding order_at
order_sound tokens = clause Ordered key.Order order_by
    (λ tokens. record { written = []; took = took_none tokens; is_good = tt; meant = refl })
    (λ t ts word. hence (keyword_sure key.By ts) (Ordered (t ∷ ts)) _ (λ by b.
    keep {Q = Ordered (t ∷ ts)} (list_at order_item_at by.1) (list_sound order_item_words order_item_tree Always order_item_at order_part by.1) (λ found f. record {
      written = f.first ∷ f.others;
      took = took_more (took_one t ts (keyword key.Order) word) (took_more b f.took);
      is_good = tt;
      meant = ap (each_tree order_item_words order_item_tree 1 (f.first ∷ f.others)) b.left ∙ f.meant ∙ sym f.whole;
    }))) tokens

abbrev pub Limited : Ahead → Option Limit × Ahead → Type 0
Limited = Part limit_words (λ limit places. option_map (λ most. limit_tree most places) limit) Always

pub limit_sound : (tokens : Ahead) → IfRead (limit_at tokens) (Limited tokens)
unfolding limit_at
limit_sound tokens = clause Limited key.Limit limit_by
    (λ tokens. record { written = None; took = took_none tokens; is_good = tt; meant = refl })
    (λ t ts word. thus (Limited (t ∷ ts)) (number_at ts) (λ most. Ok (Some (record { at = t.start; most = most.0 }), most.1)) (number_sound ts) (λ most m. record {
      written = Some most.0;
      took = took_more (took_one t ts (keyword key.Limit) word) m;
      is_good = tt;
      meant = refl;
    })) tokens

-- ---- modes and types

abbrev Shown : Ahead → Mode × Ahead → Type 0
Shown tokens found = Took tokens found.1 (keyword (mode_key found.0) ∷ [])

abbrev complete_at : Ahead → Read Mode
complete_at tokens = keyword_at key.Complete tokens >>= (λ found. Ok (mode.Complete, found.1))

shown_sound : (tokens : Ahead) → IfRead (mode_by tokens) (Shown tokens)
shown_sound tokens = clause Shown key.Append (λ word tokens. or_mode mode.Append word (or_mode mode.Update (seen (is_keyword key.Update) tokens) (complete_at tokens) tokens) tokens)
    (λ tokens. clause Shown key.Update (λ word tokens. or_mode mode.Update word (complete_at tokens) tokens)
    (λ tokens. thus (Shown tokens) (keyword_at key.Complete tokens) (λ found. Ok (mode.Complete, found.1)) (keyword_sound key.Complete tokens) (λ found took. took))
    (λ t ts word. took_one t ts (keyword key.Update) word) tokens)
    (λ t ts word. took_one t ts (keyword key.Append) word) tokens

abbrev pub Moded : Ahead → Mode × Ahead → Type 0
Moded tokens found = Took tokens found.1 (keyword key.Output ∷ keyword (mode_key found.0) ∷ [])

pub mode_sound : (tokens : Ahead) → IfRead (mode_at tokens) (Moded tokens)
unfolding mode_at
mode_sound tokens = hence (keyword_sure key.Output tokens) (Moded tokens) _ (λ output o.
    keep {Q = Moded tokens} (mode_by output.1) (shown_sound output.1) (λ found took. took_more o took))

abbrev Typed : Ahead → ColType × Ahead → Type 0
Typed tokens found = Took tokens found.1 (keyword (type_key found.0) ∷ [])

abbrev boolean_at : Ahead → Read ColType
boolean_at tokens = keyword_at key.Boolean tokens >>= (λ found. Ok (kind.Bool, found.1))

abbrev timestamp_on : Ahead → Read ColType
timestamp_on tokens = or_type kind.Timestamp (seen (is_keyword key.Timestamp) tokens) (boolean_at tokens) tokens

abbrev string_on : Ahead → Read ColType
string_on tokens = or_type kind.Str (seen (is_keyword key.String) tokens) (timestamp_on tokens) tokens

type_sound : (tokens : Ahead) → IfRead (type_at tokens) (Typed tokens)
unfolding type_at
type_sound tokens = clause Typed key.Bigint (λ word tokens. or_type kind.Bigint word (string_on tokens) tokens)
    (λ tokens. clause Typed key.String (λ word tokens. or_type kind.Str word (timestamp_on tokens) tokens)
    (λ tokens. clause Typed key.Timestamp (λ word tokens. or_type kind.Timestamp word (boolean_at tokens) tokens)
    (λ tokens. thus (Typed tokens) (keyword_at key.Boolean tokens) (λ found. Ok (kind.Bool, found.1)) (keyword_sound key.Boolean tokens) (λ found took. took))
    (λ t ts word. took_one t ts (keyword key.Timestamp) word) tokens)
    (λ t ts word. took_one t ts (keyword key.String) word) tokens)
    (λ t ts word. took_one t ts (keyword key.Bigint) word) tokens

-- ---- declarations

abbrev Declared : Ahead → ColumnDecl × Ahead → Type 0
Declared = Part decl_words decl_tree Always

decl_part : (tokens : Ahead) → IfRead (decl_at tokens) (Declared tokens)
unfolding decl_at
decl_part tokens = hence (name_sure tokens) (Declared tokens) _ (λ called named.
    thus (Declared tokens) (type_at called.1) (λ typed. Ok (record { name = called.0; kind = typed.0 }, typed.1)) (type_sound called.1) (λ typed took.
    let name_is : ident called.0.text (starts tokens) ≡ called.0 = name_there tokens called (starts tokens) refl named in
    record {
      written = record { name = called.0.text; kind = typed.0 };
      took = took_more named.0 took;
      is_good = tt;
      meant = λ i. record { name = name_is i; kind = typed.0 };
    }))

abbrev Marked : Ahead → Option Watermark × Ahead → Type 0
Marked = Part watermark_words (λ watermark places. option_map (λ w. watermark_tree w places) watermark) (λ watermark. IfSome watermark (λ w. IsSpanText w.delay))

watermark_sound : (tokens : Ahead) → IfRead (watermark_at tokens) (Marked tokens)
unfolding watermark_at
watermark_sound tokens = clause Marked key.Watermark watermark_by
    (λ tokens. record { written = None; took = took_none tokens; is_good = tt; meant = refl })
    (λ t ts word.
    hence (keyword_sure key.For ts) (Marked (t ∷ ts)) _ (λ for f.
    hence (name_sure for.1) (Marked (t ∷ ts)) _ (λ column c.
    hence (keyword_sure key.Delay column.1) (Marked (t ∷ ts)) _ (λ delay d.
    thus (Marked (t ∷ ts)) (span_at delay.1) (λ span. Ok (Some (record { column = column.0; delay = span.0 }), span.1)) (span_sound delay.1) (λ span s.
    let column_is : ident column.0.text (drop 1 (starts ts)) ≡ column.0 = name_there for.1 column (drop 1 (starts ts)) f.left c in
    record {
      written = Some (record { column = column.0.text; delay = span.0 });
      took = took_more (took_one t ts (keyword key.Watermark) word) (took_more f (took_more c.0 (took_more d s.0)));
      is_good = s.1;
      meant = λ i. Some (record { column = column_is i; delay = span.0 });
    }))))) tokens

abbrev pub Streamed : Ahead → Stream × Ahead → Type 0
Streamed = Part declared_words declared_tree IsRegularStream

pub stream_sound : (t : Lexed) (ts : Ahead) → t.said ≡ keyword key.Create → IfRead (stream_at t.start ts) (Streamed (t ∷ ts))
unfolding stream_at
stream_sound t ts word =
    hence (keyword_sure key.Stream ts) (Streamed (t ∷ ts)) _ (λ declared d.
    hence (name_sure declared.1) (Streamed (t ∷ ts)) _ (λ called n.
    hence (symbol_sure mark.LeftParen called.1) (Streamed (t ∷ ts)) _ (λ opened o.
    hence (sure (list_at decl_at opened.1) (Listed decl_words decl_tree Always opened.1) (listed decl_words decl_tree Always decl_at decl_part opened.1)) (Streamed (t ∷ ts)) _ (λ columns c.
    hence (symbol_sure mark.RightParen columns.1) (Streamed (t ∷ ts)) _ (λ closed cl.
    hence (keyword_sure key.From closed.1) (Streamed (t ∷ ts)) _ (λ from f.
    hence (quoted_sure from.1) (Streamed (t ∷ ts)) _ (λ source s.
    hence (sure (watermark_at source.1) (Marked source.1) (watermark_sound source.1)) (Streamed (t ∷ ts)) _ (λ watermark w.
    thus (Streamed (t ∷ ts)) (symbol_at mark.Semicolon watermark.1)
    (λ ended. Ok (record { at = t.start; name = called.0; columns = columns.0; source = source.0.1; watermark = watermark.0 }, ended.1))
    (symbol_sound mark.Semicolon watermark.1) (λ ended e.
    let columns_words : Words = separated (map decl_words c.written) in
    let to_columns : drop 3 (starts ts) ≡ starts opened.1 = (took_more d (took_more n.0 o)).left in
    let to_watermark : drop 3 (drop (length columns_words) (drop 3 (starts ts))) ≡ starts source.1 =
    onward (onward to_columns c.took) (took_more cl (took_more f s)) in
    let name_is : ident called.0.text (drop 1 (starts ts)) ≡ called.0 = name_there declared.1 called (drop 1 (starts ts)) d.left n in
    let columns_are : each_tree decl_words decl_tree 1 c.written (drop 3 (starts ts)) ≡ columns.0 =
    ap (each_tree decl_words decl_tree 1 c.written) to_columns ∙ c.meant in
    let watermark_is : option_map (λ x. watermark_tree x (drop 3 (drop (length columns_words) (drop 3 (starts ts))))) w.written ≡ watermark.0 =
    ap (λ p. option_map (λ x. watermark_tree x p) w.written) to_watermark ∙ w.meant in
    record {
      written = record { name = called.0.text; columns = c.written; source = source.0.1; watermark = w.written };
      took =
          took_more (took_more
          (took_more (took_one t ts (keyword key.Create) word) (took_more d (took_more n.0 (took_more o (took_more c.took cl)))))
          (took_more f (took_more s w.took))) e;
      is_good = record { columns = c.is_good.0; delay = w.is_good };
      meant = λ i. record { at = t.start; name = name_is i; columns = columns_are i; source = source.0.1; watermark = watermark_is i };
    })))))))))

-- ---- joins

abbrev pub Joined : Ahead → Option Join × Ahead → Type 0
Joined = Part join_words (λ joined places. option_map (λ j. join_tree j places) joined) (λ joined. IfSome joined (λ j. IsFit j.on))

joined_sound : (what : JoinKind) (has_word : Bool) (start us : Ahead) → Took start us (kind_words what has_word) → IfRead (joined_at what us) (Joined start)
unfolding joined_at
joined_sound what has_word start us front =
    hence (placed_sure key.Join us) (Joined start) _ (λ word w.
    hence (name_sure word.1) (Joined start) _ (λ stream n.
    hence (placed_sure key.On stream.1) (Joined start) _ (λ on o.
    thus (Joined start) (whole_at on.1)
    (λ value. Ok (Some (record { kind = what; at = word.0; stream = stream.0; on = record { at = on.0; value = value.0.value } }), value.1))
    (whole_sound on.1) (λ value s.
    let from_join : List ℕ = drop (length (kind_words what has_word)) (starts start) in
    let to_stream : drop 1 from_join ≡ starts word.1 = onward front.left w.0 in
    let to_on : drop 2 from_join ≡ starts stream.1 = onward front.left (took_more w.0 n.0) in
    let to_value : drop 1 (drop 2 from_join) ≡ starts on.1 = onward to_on o.0 in
    let at_is : grammar.first from_join ≡ word.0 = ap grammar.first front.left ∙ w.1 in
    let stream_is : ident stream.0.text (drop 1 from_join) ≡ stream.0 = name_there word.1 stream (drop 1 from_join) to_stream n in
    let on_at : grammar.first (drop 2 from_join) ≡ on.0 = ap grammar.first to_on ∙ o.1 in
    let value_is : tree s.written (drop 1 (drop 2 from_join)) ≡ value.0.value = ap (tree s.written) to_value ∙ s.meant in
    record {
      written = Some (record { kind = what; has_word = has_word; stream = stream.0.text; on = s.written });
      took = took_more front (took_more w.0 (took_more n.0 (took_more o.0 s.took)));
      is_good = record { regular = s.regular; brackets = s.opened; heights = s.tall };
      meant = λ i. Some (record { kind = what; at = at_is i; stream = stream_is i; on = record { at = on_at i; value = value_is i } });
    }))))

outer_next : (what : JoinKind) (start : Ahead) (o : Lexed) (vs : Ahead) → Took start (o ∷ vs) (kind_words what false)
    → ((rest : Ahead) → Took (o ∷ vs) rest (keyword key.Outer ∷ []) → Took start rest (kind_words what true))
    → (b : Bool) → (b ≡ true → o.said ≡ keyword key.Outer) → IfRead (joined_at what (behind (if b then Some o.start else None) (o ∷ vs))) (Joined start)
outer_next what start o vs front more true is = joined_sound what true start vs (more vs (took_one o vs (keyword key.Outer) (is refl)))
outer_next what start o vs front more false is = joined_sound what false start (o ∷ vs) front

outer_sound : (what : JoinKind) (start us : Ahead) → Took start us (kind_words what false)
    → ((rest : Ahead) → Took us rest (keyword key.Outer ∷ []) → Took start rest (kind_words what true)) → IfRead (outer_at what us) (Joined start)
outer_sound what start [] front more = joined_sound what false start [] front
outer_sound what start (o ∷ vs) front more = outer_next what start o vs front more (is_keyword key.Outer o.said) (is_keyword-found key.Outer o.said)

bare_sound : (b : Bool) (tokens : Ahead) → IfRead (bare_join b tokens) (Joined tokens)
bare_sound false tokens = record { written = None; took = took_none tokens; is_good = tt; meant = refl }
bare_sound true tokens = joined_sound join.Inner false tokens tokens (took_none tokens)

pub join_sound : (tokens : Ahead) → IfRead (join_at tokens) (Joined tokens)
unfolding join_at
join_sound tokens = clause Joined key.Inner inner_join
    (λ tokens. clause Joined key.Left left_join
    (λ tokens. clause Joined key.Right right_join
    (λ tokens. bare_sound _ tokens)
    (λ t ts word. outer_sound join.Right (t ∷ ts) ts (took_one t ts (keyword key.Right) word) (λ rest took. took_more (took_one t ts (keyword key.Right) word) took)) tokens)
    (λ t ts word. outer_sound join.Left (t ∷ ts) ts (took_one t ts (keyword key.Left) word) (λ rest took. took_more (took_one t ts (keyword key.Left) word) took)) tokens)
    (λ t ts word. joined_sound join.Inner true (t ∷ ts) ts (took_one t ts (keyword key.Inner) word)) tokens

-- ---- deduplication

abbrev pub Deduplicated : Ahead → Option Deduplicate × Ahead → Type 0
Deduplicated = Part deduplicate_words (λ columns places. option_map (λ c. deduplicate_tree c places) columns) (λ columns. IfSome columns IsFilled)

pub deduplicate_sound : (tokens : Ahead) → IfRead (deduplicate_at tokens) (Deduplicated tokens)
unfolding deduplicate_at
deduplicate_sound tokens = clause Deduplicated key.Deduplicate deduplicate_by
    (λ tokens. record { written = None; took = took_none tokens; is_good = tt; meant = refl })
    (λ t ts word.
    hence (keyword_sure key.By ts) (Deduplicated (t ∷ ts)) _ (λ by b.
    thus (Deduplicated (t ∷ ts)) (list_at name_at by.1) (λ columns. Ok (Some (record { at = t.start; columns = columns.0 }), columns.1))
    (listed name_words ident Always name_at name_part by.1) (λ columns c.
    let columns_are : each_tree name_words ident 1 c.written (drop 1 (starts ts)) ≡ columns.0 = ap (each_tree name_words ident 1 c.written) b.left ∙ c.meant in
    record {
      written = Some c.written;
      took = took_more (took_one t ts (keyword key.Deduplicate) word) (took_more b c.took);
      is_good = c.is_good.0;
      meant = λ i. Some (record { at = t.start; columns = columns_are i });
    }))) tokens

-- ---- groups

abbrev Slid : Ahead → Option Span × Ahead → Type 0
Slid = Part slide_words (λ slide places. slide) (λ slide. IfSome slide IsSpanText)

slide_sound : (tokens : Ahead) → IfRead (slide_at tokens) (Slid tokens)
unfolding slide_at
slide_sound tokens = if_next Slid (is_symbol mark.Comma) comma (is_symbol-found mark.Comma) slide_by
    (λ tokens. record { written = None; took = took_none tokens; is_good = tt; meant = refl })
    (λ t ts word. thus (Slid (t ∷ ts)) (span_at ts) (λ found. Ok (Some found.0, found.1)) (span_sound ts) (λ found s. record {
      written = Some found.0;
      took = took_more (took_one t ts comma word) s.0;
      is_good = s.1;
      meant = refl;
    })) tokens

abbrev Grouped : Ahead → Group × Ahead → Type 0
Grouped = Part group_item_words group_item_tree IsRegularGroup

abbrev window_tree : WrittenWindow → List ℕ → Window
window_tree window places = record { at = grammar.first places; column = ident window.column (drop 2 places); size = window.size; slide = window.slide }

abbrev Windowed : Ahead → Window × Ahead → Type 0
Windowed = Part window_words window_tree (λ window. IsSpanText window.size × IfSome window.slide IsSpanText)

window_sound : (t : Lexed) (ts : Ahead) → t.said ≡ keyword key.Window → IfRead (window_at t.start ts) (Windowed (t ∷ ts))
unfolding window_at
window_sound t ts word =
    hence (symbol_sure mark.LeftParen ts) (Windowed (t ∷ ts)) _ (λ opened o.
    hence (name_sure opened.1) (Windowed (t ∷ ts)) _ (λ column n.
    hence (symbol_sure mark.Comma column.1) (Windowed (t ∷ ts)) _ (λ sep c.
    hence (span_sure sep.1) (Windowed (t ∷ ts)) _ (λ size s.
    hence (sure (slide_at size.1) (Slid size.1) (slide_sound size.1)) (Windowed (t ∷ ts)) _ (λ slide l.
    thus (Windowed (t ∷ ts)) (symbol_at mark.RightParen slide.1)
    (λ closed. Ok (record { at = t.start; column = column.0; size = size.0; slide = slide.0 }, closed.1))
    (symbol_sound mark.RightParen slide.1) (λ closed cl.
    let column_is : ident column.0.text (drop 1 (starts ts)) ≡ column.0 = name_there opened.1 column (drop 1 (starts ts)) o.left n in
    record {
      written = record { column = column.0.text; size = size.0; slide = l.written };
      took = took_more (took_one t ts (keyword key.Window) word) (took_more o (took_more n.0 (took_more c (took_more s.0 (took_more l.took cl)))));
      is_good = (s.1, l.is_good);
      meant = λ i. record { at = t.start; column = column_is i; size = size.0; slide = l.meant i };
    }))))))

group_part : (tokens : Ahead) → IfRead (group_item_at tokens) (Grouped tokens)
unfolding group_item_at
group_part tokens = clause Grouped key.Window group_item_by
    (λ tokens. thus (Grouped tokens) (name_at tokens) (λ found. Ok (group.Column found.0, found.1)) (name_sound tokens) (λ found n.
    let name_is : ident found.0.text (starts tokens) ≡ found.0 = name_there tokens found (starts tokens) refl n in
    record { written = column_group found.0.text; took = n.0; is_good = tt; meant = λ i. group.Column (name_is i) }))
    (λ t ts word. thus (Grouped (t ∷ ts)) (window_at t.start ts) (λ found. Ok (group.Window found.0, found.1)) (window_sound t ts word) (λ found w.
    record { written = window_group w.written; took = w.took; is_good = w.is_good; meant = λ i. group.Window (w.meant i) }))
    tokens

abbrev pub GroupedBy : Ahead → Option GroupBy × Ahead → Type 0
GroupedBy = Part group_words (λ items places. option_map (λ g. group_tree g places) items)
    (λ items. IfSome items IsFilled × IfSome items (Each IsRegularGroup))

pub group_sound : (tokens : Ahead) → IfRead (group_at tokens) (GroupedBy tokens)
unfolding group_at
group_sound tokens = clause GroupedBy key.Group group_by
    (λ tokens. record { written = None; took = took_none tokens; is_good = (tt, tt); meant = refl })
    (λ t ts word.
    hence (keyword_sure key.By ts) (GroupedBy (t ∷ ts)) _ (λ by b.
    thus (GroupedBy (t ∷ ts)) (list_at group_item_at by.1) (λ items. Ok (Some (record { at = t.start; items = items.0 }), items.1))
    (listed group_item_words group_item_tree IsRegularGroup group_item_at group_part by.1) (λ items g.
    let items_are : each_tree group_item_words group_item_tree 1 g.written (drop 1 (starts ts)) ≡ items.0 =
    ap (each_tree group_item_words group_item_tree 1 g.written) b.left ∙ g.meant in
    record {
      written = Some g.written;
      took = took_more (took_one t ts (keyword key.Group) word) (took_more b g.took);
      is_good = (g.is_good.0, g.is_good.1);
      meant = λ i. Some (record { at = t.start; items = items_are i });
    }))) tokens
