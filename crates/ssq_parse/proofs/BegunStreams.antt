-- Where a token is missing in declarations, the words in front of it begin some.
use Rattle.std.proofs.Common.{◌≡◌, ℕ, ℤ, pos, zero, suc, List, [], ◌∷◌, ◌++◌, map, drop, length, refl, Option, Some, None, Ok, append_assoc}
use Rattle.std.specs.Prelude.{IfSome}
use Rattle.std.specs.List.{flat_map}
use Rattle.ssq_ast.specs.declared.expr.Span.{Span}
use Rattle.ssq_ast.specs.declared.query.Stream.{Stream}
use Rattle.ssq_ast.specs.Expression.{Words}
use Rattle.ssq_ast.specs.Statement.{WrittenDecl, WrittenWatermark, WrittenStream, Each, IsSpanText, IsRegularStream, separated, type_key, decl_words, watermark_words, declared_words, name_words}
use Rattle.ssq_lex.specs.declared.keyword.Keyword.TheVariants as key
use Rattle.ssq_lex.specs.declared.symbol.Symbol.TheVariants as mark
use Rattle.ssq_lex.specs.Lexeme.{Lexeme, keyword, name, number, quoted, symbol}
use Rattle.ssq_value.specs.declared.column.ColType.{ColType}
use Rattle.ssq_value.specs.declared.column.ColType.TheVariants as kind
use Rattle.ssq_parse.specs.Queries.{or_type, type_at, decl_at, watermark_by, watermark_at, stream_at, streams_then, streams_from, streams_at}
use Rattle.ssq_parse.specs.Reading.{◌>>=◌, seen, is_keyword, keyword_at, name_at, quoted_at, number_at, span_at}
use Rattle.ssq_parse.proofs.Begun.{name_next, quoted_next, number_next, span_next}
use Rattle.ssq_parse.proofs.BegunPhrases.{Phrases, nothing, Tells, Behind, next_tells, word_tells, symbol_tells, tells_as, followed, pure, last, skip, if_keyword, list_tells}
use Rattle.ssq_parse.proofs.BegunTimes.{some_span, some_span_is}
use Rattle.ssq_parse.proofs.Clauses.{number_sound}
use Rattle.ssq_parse.proofs.Parts.{Always, keep}
use Rattle.ssq_parse.proofs.Primary.{name_sound, quoted_sound, span_sound}

-- ---- names, numbers and texts

-- the name v
abbrev pub v : List ℕ
v = 118 ∷ []

abbrev pub names : Phrases
names = record { Form = List ℕ; wrote = name_words; good = Always; one = v; fine = tt }

pub names_tell : Tells names name_at
names_tell = next_tells names name_at (λ tokens. keep (name_at tokens) (name_sound tokens) (λ found n. record { written = found.0.text; is_good = tt; took = n.0 })) (name_next (name v ∷ []))

abbrev texts : Phrases
texts = record { Form = List ℕ; wrote = λ text. quoted text ∷ []; good = Always; one = v; fine = tt }

texts_tell : Tells texts quoted_at
texts_tell = next_tells texts quoted_at (λ tokens. keep (quoted_at tokens) (quoted_sound tokens) (λ found took. record { written = found.0.1; is_good = tt; took = took })) (quoted_next (quoted v ∷ []))

abbrev pub numbers : Phrases
numbers = record { Form = ℤ; wrote = λ n. number n ∷ []; good = Always; one = pos 1; fine = tt }

pub numbers_tell : Tells numbers number_at
numbers_tell = next_tells numbers number_at (λ tokens. keep (number_at tokens) (number_sound tokens) (λ found took. record { written = found.0; is_good = tt; took = took })) (number_next (number (pos 1) ∷ []))

abbrev pub spans : Phrases
spans = record { Form = Span; wrote = λ span. quoted span.text ∷ []; good = IsSpanText; one = some_span; fine = some_span_is }

pub spans_tell : Tells spans span_at
spans_tell = next_tells spans span_at (λ tokens. keep (span_at tokens) (span_sound tokens) (λ found s. record { written = found.0; is_good = s.1; took = s.0 })) (span_next some_span.text)

-- ---- declarations

abbrev types : Phrases
types = record { Form = ColType; wrote = λ type. keyword (type_key type) ∷ []; good = Always; one = kind.Bigint; fine = tt }

-- the word of this type was read
type_word : (type : ColType) → Behind (keyword (type_key type)) types (λ tokens. Ok (type, drop 1 tokens))
type_word type = skip (record { make = λ w. type; made = λ w is. tt; said = λ w is. refl }) (pure nothing tt tt refl type)

types_tell : Tells types type_at
unfolding type_at
types_tell =
    if_keyword key.Bigint
    (λ o tokens. or_type kind.Bigint o (
    or_type kind.Str (seen (is_keyword key.String) tokens) (
    or_type kind.Timestamp (seen (is_keyword key.Timestamp) tokens) (
    keyword_at key.Boolean tokens >>= (λ found. Ok (kind.Bool, found.1))) tokens) tokens) tokens)
    (if_keyword key.String
    (λ o tokens. or_type kind.Str o (
    or_type kind.Timestamp (seen (is_keyword key.Timestamp) tokens) (
    keyword_at key.Boolean tokens >>= (λ found. Ok (kind.Bool, found.1))) tokens) tokens)
    (if_keyword key.Timestamp
    (λ o tokens. or_type kind.Timestamp o (keyword_at key.Boolean tokens >>= (λ found. Ok (kind.Bool, found.1))) tokens)
    (tells_as (record { make = λ w. kind.Bool; made = λ w is. tt; said = λ w is. refl }) (last (λ at. kind.Bool) (word_tells key.Boolean)))
    (λ at. type_word kind.Timestamp)) (λ at. type_word kind.Str)) (λ at. type_word kind.Bigint)

abbrev decls : Phrases
decls = record { Form = WrittenDecl; wrote = decl_words; good = Always; one = record { name = v; kind = kind.Bigint }; fine = tt }

decls_tell : Tells decls decl_at
unfolding decl_at
decls_tell = tells_as (record { make = λ w. record { name = w.0; kind = w.1 }; made = λ w is. tt; said = λ w is. refl })
    (followed names_tell (λ called. last (λ typed. record { name = called; kind = typed }) types_tell))

abbrev watermarks : Phrases
watermarks = record { Form = Option WrittenWatermark; wrote = watermark_words; good = λ w. IfSome w (λ w. IsSpanText w.delay); one = None; fine = tt }

watermarks_tell : Tells watermarks watermark_at
unfolding watermark_at
watermarks_tell = if_keyword key.Watermark watermark_by (pure watermarks None tt refl None)
    (λ at. skip (record { make = λ w. Some (record { column = w.1.1.0; delay = w.1.1.1.1 }); made = λ w is. is.1.1.1.1; said = λ w is. refl })
    (followed (word_tells key.For) (λ for. followed names_tell (λ column. followed (word_tells key.Delay) (λ delay.
    last (λ span. Some (record { column = column; delay = span })) spans_tell)))))

abbrev pub semicolon : Lexeme
semicolon = symbol mark.Semicolon

-- a declaration after CREATE
abbrev created : Phrases
created = record {
  Form = WrittenStream;
  wrote = λ stream. drop 1 (declared_words stream);
  good = IsRegularStream;
  one = record { name = v; columns = decls.one ∷ []; source = v; watermark = None };
  fine = record { columns = tt; delay = tt };
}

stream_said : (columns watermark : Words) (stream called opened closed from source ended : Lexeme)
    → stream ∷ called ∷ (opened ∷ columns ++ closed ∷ []) ++ from ∷ source ∷ watermark ++ ended ∷ []
    ≡ stream ∷ called ∷ opened ∷ (columns ++ (closed ∷ from ∷ source ∷ (watermark ++ ended ∷ [])))
stream_said columns watermark stream called opened closed from source ended = simp append_assoc

created_tell : (at : ℕ) → Tells created (stream_at at)
unfolding stream_at
created_tell at = tells_as (record {
  make = λ w. record { name = w.1.0; columns = w.1.1.1.0; source = w.1.1.1.1.1.1.0; watermark = w.1.1.1.1.1.1.1.0 };
  made = λ w is. record { columns = is.1.1.1.0.0; delay = is.1.1.1.1.1.1.1.0 };
  said = λ w is. stream_said (separated (map decl_words w.1.1.1.0)) (watermark_words w.1.1.1.1.1.1.1.0) (keyword key.Stream) (name w.1.0) (symbol mark.LeftParen) (symbol mark.RightParen) (keyword key.From) (quoted w.1.1.1.1.1.1.0) semicolon;
})
    (followed (word_tells key.Stream) (λ declared.
    followed names_tell (λ called.
    followed (symbol_tells mark.LeftParen) (λ opened.
    followed (list_tells decls decl_at decls_tell) (λ columns.
    followed (symbol_tells mark.RightParen) (λ closed.
    followed (word_tells key.From) (λ from.
    followed texts_tell (λ source.
    followed watermarks_tell (λ watermark.
    last (λ ended. record { at = at; name = called; columns = columns; source = source.1; watermark = watermark }) (symbol_tells mark.Semicolon))))))))))

abbrev pub streams : Phrases
streams = record { Form = List WrittenStream; wrote = λ ws. flat_map declared_words ws; good = Each IsRegularStream; one = []; fine = tt }

streams_from_tell : (turns : ℕ) (found : List Stream) → Tells streams (streams_from turns found)
unfolding streams_from
streams_from_tell zero found = pure streams [] tt refl found
streams_from_tell (suc turns) found = if_keyword key.Create (streams_then (streams_from turns) found) (pure streams [] tt refl found)
    (λ at. skip (record { make = λ w. w.1.0 ∷ w.1.1; made = λ w is. is.1; said = λ w is. refl })
    (followed (created_tell at) (λ next. streams_from_tell turns (found ++ next ∷ []))))

pub streams_tell : Tells streams streams_at
unfolding streams_at
streams_tell = record { told = λ tokens. (streams_from_tell (length tokens) []).told tokens }
