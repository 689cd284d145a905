-- Queries are read with one token more than they take: a token that is refused is the first that no query has there.
use Rattle.std.proofs.Common.{◌≡◌, ℕ, Bool, sym, ap, ◌∙◌, ◌++◌, refl, Option, Some, None, Ok, Err}
use Rattle.std.specs.Prelude.{is_some, if◌then◌else◌}
use Rattle.ssq_ast.specs.declared.expr.Ident.{Ident}
use Rattle.ssq_ast.specs.declared.expr.Span.{Span}
use Rattle.ssq_ast.specs.declared.query.Query.{Query}
use Rattle.ssq_ast.specs.declared.query.Window.{Window}
use Rattle.ssq_ast.specs.Statement.{IsWritten}
use Rattle.ssq_lex.specs.declared.keyword.Keyword.TheVariants as key
use Rattle.ssq_lex.specs.declared.symbol.Symbol.TheVariants as mark
use Rattle.ssq_lex.specs.Lexeme.{Lexeme}
use Rattle.ssq_parse.specs.declared.fault.ParseCause.TheVariants as cause
use Rattle.ssq_parse.specs.Queries.{watermark_by, watermark_at, slide_by, slide_at, window_at, alone, whole_query, query_from, query_at}
use Rattle.ssq_parse.specs.Reading.{Ahead, Made, Read, Refusal, ◌>>=◌, place, sees, is_keyword, is_symbol, keyword_at, symbol_at, span_at}
use Rattle.ssq_parse.proofs.LaidQueries.{query_reads}
use Rattle.ssq_parse.proofs.Local.{next, Local, Told, Seen, IfMissing, if_missing, first_same, place_same, IfBad, pure, nothing, skip, followed, looking, maybe_at, needs_then}
use Rattle.ssq_parse.proofs.LocalExpressions.{whole_local}
use Rattle.ssq_parse.proofs.LocalLoops.{list_local, streams_local}
use Rattle.ssq_parse.proofs.Readers as readers
use Rattle.ssq_parse.proofs.Readers.{Family}
use Rattle.ssq_parse.proofs.LocalParts.{if_seen, keyword_local, symbol_local, name_local, quoted_local, number_local, span_then, delay_asks, comma_asks}

if_sees : {A : Type 0} (is : Lexeme → Bool) (by : Bool → Ahead → Read A) → ((b : Bool) → Local (by b)) → Local (λ tokens. by (sees is tokens) tokens)
if_sees is by l = looking (sees is) (λ us vs same. ap is_some (first_same (λ token. if is token.said then Some token.start else None) us vs same)) by l

watermark_local : Local watermark_at
unfolding watermark_at keyword_at
watermark_local = if_seen (is_keyword key.Watermark) watermark_by (pure _)
    (λ at. skip (followed (keyword_local key.For) (λ for. followed name_local (λ column.
    needs_then (λ token. if is_keyword key.Delay token.said then Some token.start else None)
    (λ delay tokens. span_at tokens >>= (λ span. Ok (Some (record { column = column; delay = span.0 }), span.1)))
    (λ delay t ts is. span_then (λ span us. Ok (Some (record { column = column; delay = span }), us)) (λ span. pure _) t (delay_asks delay t is) ts)))))

slide_local : Local slide_at
unfolding slide_at
slide_local = maybe_at (λ token. if is_symbol mark.Comma token.said then Some token.start else None) slide_by (pure _)
    (λ at t ts is. span_then (λ span us. Ok (Some span, us)) (λ span. pure _) t (comma_asks at t is) ts)

-- after the size of a window
abbrev sized : ℕ → Ident → Span → Ahead → Read Window
sized at column size tokens = do
  slide ← slide_at tokens
  closed ← symbol_at mark.RightParen slide.1
  Ok (record { at = at; column = column; size = size; slide = slide.0 }, closed.1)

sized_local : (at : ℕ) (column : Ident) (size : Span) → Local (sized at column size)
sized_local at column size = followed slide_local (λ slide. followed (symbol_local mark.RightParen) (λ closed. pure _))

-- a comma, and the size after it
abbrev comma_at : ℕ → Ident → Ahead → Read Window
comma_at at column tokens = symbol_at mark.Comma tokens >>= (λ comma. span_at comma.1 >>= (λ size. sized at column size.0 size.1))

comma_local : (at : ℕ) (column : Ident) → Local (comma_at at column)
unfolding symbol_at
comma_local at column =
    needs_then (λ token. if is_symbol mark.Comma token.said then Some token.start else None) (λ comma tokens. span_at tokens >>= (λ size. sized at column size.0 size.1))
    (λ comma t ts is. span_then (sized at column) (sized_local at column) t (comma_asks comma t is) ts)

window_local : (at : ℕ) → Local (window_at at)
unfolding window_at
window_local at = followed (symbol_local mark.LeftParen) (λ opened. followed name_local (λ column. comma_local at column))

abbrev LocalAt : (A : Type 0) → ℕ → ℕ → (Ahead → Read A) → Type 0
LocalAt A many more reader = Local reader

local : Family LocalAt LocalAt
local = record {
  pure = pure;
  nothing = nothing;
  followed = followed;
  skip = skip;
  if_keyword = λ k. if_seen (is_keyword k);
  if_sees = if_sees;
  keyword = keyword_local;
  symbol = λ s is. symbol_local s;
  name = name_local;
  quoted = quoted_local;
  number = number_local;
  whole = whole_local;
  list = λ each none. list_local _ each none;
  watermark = watermark_local;
  window = window_local;
  streams = streams_local;
}

query_local : Local query_from
query_local = readers.query_is LocalAt LocalAt local

query_is : (tokens : Ahead) → query_at tokens ≡ whole_query (query_from tokens)
unfolding query_at
query_is tokens = refl

-- ---- no query goes on with a token that was refused

-- no query is written as these tokens, up to that place and the token there
pub record Stands (tokens : Ahead) (refusal : Refusal) : Type 0 where
  pub taken : Ahead
  pub rest : Ahead
  pub whole : tokens ≡ taken ++ rest
  pub here : place rest ≡ refusal.at
  pub none : (others : Ahead) → next rest ≡ next others → (query : Query) → IsWritten (taken ++ others) query → ⊥
  pub bad : IfBad refusal.cause taken rest

abbrev pub IfStands : Ahead → Made Query → Type 0
IfStands tokens (Ok query) = Unit {0}
IfStands tokens (Err refusal) = IfMissing refusal.cause refusal.at (Stands tokens refusal)

refuses_each : (tokens : Ahead) (refusal : Refusal) (query : Query) → query_at tokens ≡ Err refusal → IsWritten tokens query → ⊥
refuses_each tokens refusal query is w = let found : query_at tokens ≡ Ok query = query_reads tokens query w in absurd (cc)

stands : (tokens : Ahead) (refusal : Refusal) (taken rest : Ahead) → tokens ≡ taken ++ rest → place rest ≡ refusal.at → IfBad refusal.cause taken rest
    → ((others : Ahead) → next rest ≡ next others → whole_query (query_from (taken ++ others)) ≡ Err refusal) → Stands tokens refusal
stands tokens refusal taken rest whole at bad same = record {
  taken = taken;
  rest = rest;
  whole = whole;
  here = at;
  none = λ others is query. refuses_each (taken ++ others) refusal query (query_is (taken ++ others) ∙ same others is);
  bad = bad;
}

alone_stands : (tokens : Ahead) (query : Query) (rest : Ahead) → Seen query_from tokens rest (λ others. Ok (query, others))
    → (at : Option ℕ) → place rest ≡ at → IfStands tokens (alone query at rest)
alone_stands tokens query rest s None is = tt
alone_stands tokens query rest s (Some at) is =
    stands tokens (record { at = place rest; cause = cause.Expected }) s.taken rest s.whole refl tt (λ others same.
    ap whole_query (s.same others same)
    ∙ ap (λ p. alone query p others) (sym (place_same rest others same) ∙ is)
    ∙ ap (λ p. Err (record { at = p; cause = cause.Expected })) (sym (place_same rest others same)))

whole_stands : (tokens : Ahead) (read : Read Query) → Told query_from tokens read → IfStands tokens (whole_query read)
whole_stands tokens (Ok found) told = alone_stands tokens found.0 found.1 told (place found.1) refl
whole_stands tokens (Err refusal) told =
    if_missing refusal.cause refusal.at (λ u. stands tokens refusal u.seen.taken u.rest u.seen.whole u.at u.bad (λ others same. ap whole_query (u.seen.same others same))) told

pub query_stands : (tokens : Ahead) → IfStands tokens (query_at tokens)
unfolding query_at
query_stands tokens = whole_stands tokens (query_from tokens) (query_local.told tokens)
