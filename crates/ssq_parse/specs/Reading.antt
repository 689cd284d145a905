-- How tokens are read from the left: a value and the tokens after it, or the first fault.
use Rattle.std.specs.Prelude.{◌≡◌, ℕ, ℤ, Bool, true, false, if◌then◌else◌, List, [], ◌∷◌, drop, Option, Some, None, is_some, Result, Ok, Err}
use denote.Enum.Bare.{sameb}
use Rattle.ssq_ast.specs.declared.expr.BinaryOp.{BinaryOp}
use Rattle.ssq_ast.specs.declared.expr.Ident.{Ident}
use Rattle.ssq_ast.specs.declared.expr.Moment.{Moment}
use Rattle.ssq_ast.specs.declared.expr.Span.{Span}
use Rattle.ssq_lex.specs.contracts.keyword.Keyword.{the_type as keyword_type}
use Rattle.ssq_lex.specs.contracts.symbol.Symbol.{the_type as symbol_type}
use Rattle.ssq_lex.specs.declared.keyword.Keyword.{Keyword}
use Rattle.ssq_lex.specs.declared.symbol.Symbol.{Symbol}
use Rattle.ssq_lex.specs.Lexeme.{Lexeme, keyword, name, number, quoted, symbol, Lexed}
use Rattle.ssq_parse.specs.declared.fault.ParseCause.{ParseCause}
use Rattle.ssq_parse.specs.declared.fault.ParseCause.TheVariants.{BadText, Expected}
use Rattle.ssq_parse.specs.declared.fault.Stop.{Stop}
use Rattle.ssq_parse.specs.declared.fault.Stop.TheVariants.{Refused, NoMemory}
use Rattle.ssq_parse.specs.declared.operators.Level.{Level}
use Rattle.ssq_parse.specs.Operators.{operator_of}
use Rattle.ssq_time.specs.Time.{span_of, time_of}

-- the tokens that are left
abbrev pub Ahead : Type 0
Ahead = List Lexed

-- what is wrong, and where: at a place, or where the tokens end
pub record Refusal : Type 0 where
  pub at : Option ℕ
  pub cause : ParseCause

abbrev pub Made : Type 0 → Type 0
Made A = Result A Refusal

abbrev pub Read : Type 0 → Type 0
Read A = Made (A × Ahead)

infixl 10 ◌>>=◌
abbrev pub ◌>>=◌ : {A B : Type 0} → Read A → (A × Ahead → Read B) → Read B
(Ok found) >>= f = f found
(Err refusal) >>= f = Err refusal

-- a value that takes no token
abbrev pub before : {A : Type 0} → Made A → Ahead → Read A
before (Ok x) tokens = Ok (x, tokens)
before (Err refusal) tokens = Err refusal

-- what a function of the code answers: what is made, unless memory ran out
abbrev pub Makes : {A : Type 0} → Made A → Result A Stop → Type 0
Makes made (Ok x) = made ≡ Ok x
Makes made (Err (Refused at cause)) = made ≡ Err (record { at = at; cause = cause })
Makes made (Err NoMemory) = Unit {0}

-- what a function of the code reads, and the tokens that it leaves, unless memory ran out
abbrev pub Reads : {A : Type 0} → Read A → Result A Stop → Ahead → Type 0
Reads read (Ok x) rest = read ≡ Ok (x, rest)
Reads read (Err (Refused at cause)) rest = read ≡ Err (record { at = at; cause = cause })
Reads read (Err NoMemory) rest = Unit {0}

abbrev pub stop_at : Option ℕ → ParseCause → Stop
stop_at at cause = Refused at cause

-- the place of the next token
abbrev pub place : Ahead → Option ℕ
place [] = None
place (token ∷ tokens) = Some token.start

abbrev pub refused : {A : Type 0} → Option ℕ → ParseCause → Made A
refused at cause = Err (record { at = at; cause = cause })

-- no token that may stand there
abbrev pub expected : {A : Type 0} → Ahead → Made A
expected tokens = refused (place tokens) Expected

-- what the next token is
abbrev pub first : {A : Type 0} → (Lexed → Option A) → Ahead → Option A
first is [] = None
first is (token ∷ tokens) = is token

-- the tokens after the next, if that one is taken
abbrev pub behind : {A : Type 0} → Option A → Ahead → Ahead
behind None tokens = tokens
behind (Some x) tokens = drop 1 tokens

-- the next token has to be taken
abbrev pub needed : {A : Type 0} → Option A → Ahead → Read A
needed None tokens = expected tokens
needed (Some x) tokens = Ok (x, drop 1 tokens)

-- ---- keywords and symbols

abbrev pub is_keyword : Keyword → Lexeme → Bool
is_keyword k (keyword found) = sameb keyword_type found k
is_keyword k other = false

abbrev pub is_symbol : Symbol → Lexeme → Bool
is_symbol s (symbol found) = sameb symbol_type found s
is_symbol s other = false

abbrev pub is_name : Lexeme → Bool
is_name (name text) = true
is_name other = false

-- the place of the next token, if it is this one
abbrev pub seen : (Lexeme → Bool) → Ahead → Option ℕ
seen is tokens = first (λ token. if is token.said then Some token.start else None) tokens

abbrev pub sees : (Lexeme → Bool) → Ahead → Bool
sees is tokens = is_some (seen is tokens)

unfoldable pub keyword_at : Keyword → Ahead → Read ℕ
keyword_at k tokens = needed (seen (is_keyword k) tokens) tokens

unfoldable pub symbol_at : Symbol → Ahead → Read ℕ
symbol_at s tokens = needed (seen (is_symbol s) tokens) tokens

-- an operator and its place
abbrev pub with_place : ℕ → Option BinaryOp → Option (BinaryOp × ℕ)
with_place at None = None
with_place at (Some op) = Some (op, at)

abbrev pub first_operator : Level → Ahead → Option (BinaryOp × ℕ)
first_operator level tokens = first (λ token. with_place token.start (operator_of level token.said)) tokens

-- ---- names, numbers and texts

abbrev pub ident_by : ℕ → Lexeme → Option Ident
ident_by at (name text) = Some (record { text = text; at = at })
ident_by at other = None

unfoldable pub name_at : Ahead → Read Ident
name_at tokens = needed (first (λ token. ident_by token.start token.said) tokens) tokens

abbrev pub quoted_by : ℕ → Lexeme → Option (ℕ × List ℕ)
quoted_by at (quoted text) = Some (at, text)
quoted_by at other = None

unfoldable pub quoted_at : Ahead → Read (ℕ × List ℕ)
quoted_at tokens = needed (first (λ token. quoted_by token.start token.said) tokens) tokens

abbrev pub number_by : Lexeme → Option ℤ
number_by (number n) = Some n
number_by other = None

unfoldable pub number_at : Ahead → Read ℤ
number_at tokens = needed (first (λ token. number_by token.said) tokens) tokens

-- a text that says a number of microseconds, and what is made of both
abbrev pub as_micros : {A : Type 0} → (List ℕ → ℤ → A) → ℕ → List ℕ → Option ℤ → Made A
as_micros make at text None = refused (Some at) BadText
as_micros make at text (Some micros) = Ok (make text micros)

abbrev pub micros_at : {A : Type 0} → (List ℕ → ℤ → A) → (List ℕ → Option ℤ) → Ahead → Read A
micros_at make of tokens = do
  found ← quoted_at tokens
  before (as_micros make found.0.0 found.0.1 (of found.0.1)) found.1

abbrev pub span_by : List ℕ → ℤ → Span
span_by text micros = record { text = text; micros = micros }

-- a text that is a span of time
unfoldable pub span_at : Ahead → Read Span
span_at tokens = micros_at span_by span_of tokens

abbrev pub moment_by : List ℕ → ℤ → Moment
moment_by text micros = record { text = text; micros = micros }

-- a text that is a moment
unfoldable pub moment_at : Ahead → Read Moment
moment_at tokens = micros_at moment_by time_of tokens
