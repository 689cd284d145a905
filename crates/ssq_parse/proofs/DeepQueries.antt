-- A query that is refused as too deep has a bracket too many at that place, or an operator that makes a tree too high.
use Rattle.std.proofs.Common.{ℕ, zero, suc, List, [], ◌∷◌, ◌++◌, length, refl, Option, Some, None, Ok, Err}
use Rattle.ssq_ast.specs.declared.query.Query.{Query}
use Rattle.ssq_ast.specs.declared.query.Stream.{Stream}
use Rattle.ssq_lex.specs.declared.keyword.Keyword.TheVariants as key
use Rattle.ssq_lex.specs.declared.symbol.Symbol.TheVariants as mark
use Rattle.ssq_parse.specs.Deep.{DeepBy}
use Rattle.ssq_parse.specs.Queries.{watermark_by, watermark_at, stream_at, streams_then, streams_from, streams_at, slide_by, slide_at, window_at, alone, whole_query, query_from, query_at}
use Rattle.ssq_parse.specs.Reading.{Ahead, Made, Read, place, is_symbol}
use Rattle.ssq_parse.proofs.DeepLemmas.{IfDeep}
use Rattle.ssq_parse.proofs.DeepWords.{Counted, Counts, Behind, pure, nothing, skip, followed, if_seen, keyword_seen, if_sees, comma_none, keyword_counts, symbol_counts, name_counts, quoted_counts, number_counts, span_counts, whole_counts, list_counts}
use Rattle.ssq_parse.proofs.Readers.{Family, query_is}

watermark_counts : Counts 0 0 watermark_at
unfolding watermark_at
watermark_counts = keyword_seen key.Watermark watermark_by (pure _)
    (λ at. skip (followed (keyword_counts key.For) (λ for. followed name_counts (λ column. followed (keyword_counts key.Delay) (λ delay. followed span_counts (λ span. pure _))))))

slide_counts : {many : ℕ} → Counts many many slide_at
unfolding slide_at
slide_counts = if_seen (is_symbol mark.Comma) comma_none slide_by (pure _) (λ at. skip (followed span_counts (λ span. pure _)))

window_counts : (at : ℕ) → Counts 0 0 (window_at at)
unfolding window_at
window_counts at =
    followed (symbol_counts mark.LeftParen refl) (λ opened.
    followed name_counts (λ column.
    followed (symbol_counts mark.Comma refl) (λ comma.
    followed span_counts (λ size.
    followed slide_counts (λ slide.
    followed (symbol_counts mark.RightParen refl) (λ closed. pure _))))))

streams_from_counts : ((at : ℕ) → Counts 0 0 (stream_at at)) → (turns : ℕ) (found : List Stream) → Counts 0 0 (streams_from turns found)
unfolding streams_from
streams_from_counts each zero found = pure _
streams_from_counts each (suc turns) found =
    keyword_seen key.Create (streams_then (streams_from turns) found) (pure _) (λ at. skip (followed (each at) (λ next. streams_from_counts each turns (found ++ next ∷ []))))

streams_counts : ((at : ℕ) → Counts 0 0 (stream_at at)) → Counts 0 0 streams_at
unfolding streams_at
streams_counts each = record { told = λ tokens. (streams_from_counts each (length tokens) []).told tokens }

abbrev CountsAt : (A : Type 0) → ℕ → ℕ → (Ahead → Read A) → Type 0
CountsAt A many more reader = Counts many more reader

abbrev BehindAt : (A : Type 0) → ℕ → ℕ → (Ahead → Read A) → Type 0
BehindAt A many more reader = Behind many more reader

counted : Family CountsAt BehindAt
counted = record {
  pure = pure;
  nothing = nothing;
  followed = followed;
  skip = skip;
  if_keyword = keyword_seen;
  if_sees = if_sees;
  keyword = keyword_counts;
  symbol = symbol_counts;
  name = name_counts;
  quoted = quoted_counts;
  number = number_counts;
  whole = whole_counts;
  list = λ each none. list_counts each;
  watermark = watermark_counts;
  window = window_counts;
  streams = streams_counts;
}

query_counts : Counts 0 0 query_from
query_counts = query_is CountsAt BehindAt counted

-- a query that is refused as too deep is so
abbrev pub IsDeep : Ahead → Made Query → Type 0
IsDeep tokens (Ok query) = Unit {0}
IsDeep tokens (Err refusal) = IfDeep refusal.cause refusal.at (DeepBy 0 tokens)

alone_deep : (tokens : Ahead) (query : Query) (rest : Ahead) (at : Option ℕ) → IsDeep tokens (alone query at rest)
alone_deep tokens query rest None = tt
alone_deep tokens query rest (Some at) = tt

whole_deep : (tokens : Ahead) (read : Read Query) → Counted 0 0 tokens read → IsDeep tokens (whole_query read)
whole_deep tokens (Ok found) led = alone_deep tokens found.0 found.1 (place found.1)
whole_deep tokens (Err refusal) told = told

pub query_deep : (tokens : Ahead) → IsDeep tokens (query_at tokens)
unfolding query_at
query_deep tokens = whole_deep tokens (query_from tokens) (query_counts.told tokens)
