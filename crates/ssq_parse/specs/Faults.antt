-- What stands at the place of a fault: the end of what may be read, a byte of no character, a character that begins no token, a number that is too
-- great, a text without an end; a token that the grammar has no place for, a text that it has one for and that says none of the spans or times that it
-- has there, or a bracket or an operator with which the query is too deep.
use Rattle.std.specs.Prelude.{◌≡◌, ◌≢◌, ◌≤◌, ◌<◌, ◌^◌, ◌==◌, ◌&&◌, ℕ, true, false, List, [], ◌∷◌, ◌++◌, length, take, drop, slice_index, Option, Some, None}
use Rattle.std.specs.Char.{is_ascii_digit}
use Rattle.std.specs.List.{prefix_len}
use Rattle.std.specs.Str.{IsValidUpTo}
use Rattle.std.specs.Str.Parse.{digits_value}
use Rattle.ssq_ast.specs.declared.query.Query.{Query}
use Rattle.ssq_ast.specs.Expression.{Words}
use Rattle.ssq_ast.specs.Statement.{IsWritten}
use Rattle.ssq_lex.specs.declared.fault.LexCause.{LexCause}
use Rattle.ssq_lex.specs.declared.keyword.Keyword.TheVariants as key
use Rattle.ssq_lex.specs.declared.symbol.Symbol.TheVariants as mark
use Rattle.ssq_lex.specs.Cut.{begins_name, cut_of, is_blank}
use Rattle.ssq_lex.specs.Lexeme.{Lexeme, doubled, keyword, quoted, symbol}
use Rattle.ssq_lex.specs.Spelling.{long_symbol, short_symbol}
use Rattle.ssq_time.specs.Time.{span_of, time_of}
use Rattle.ssq_parse.specs.declared.fault.ParseCause.{ParseCause}
use Rattle.ssq_parse.specs.declared.fault.ParseCause.TheVariants as cause
use Rattle.ssq_parse.specs.declared.fault.ParseFault.{ParseFault}
use Rattle.ssq_parse.specs.declared.fault.ParseFault.TheVariants.{Refused, NoMemory}
use Rattle.ssq_parse.specs.Begun.{BeginsQuery, IsBegun, or_end}
use Rattle.ssq_parse.specs.Deep.{DeepBy}
use Rattle.ssq_parse.specs.Reading.{Ahead, place}
use Rattle.ssq_parse.specs.Written.{says}

-- the next word, if one is left
abbrev pub next_word : Words → Option Lexeme
next_word [] = None
next_word (w ∷ ws) = Some w

-- No query has this token after those in front of it: no tokens are a query whose words begin with those in front of it and
-- go on with this one, whatever stands after it and wherever the words stand. At the file's end, none are a query whose
-- words are these.
pub record IsFirst (file : List ℕ) (at : ℕ) : Type 0 where
  pub taken : Ahead
  pub rest : Ahead
  pub whole : (cut_of file).tokens ≡ taken ++ rest
  pub here : or_end (length file) (place rest) ≡ at
  pub none : (others : Ahead) (words : Words) → says others ≡ says taken ++ words → next_word (says rest) ≡ next_word words
      → (query : Query) → IsWritten others query → ⊥

-- The token at this place is one that the grammar has no place for: what stands in front of it begins a query, and no query has it there.
pub record IsUnexpected (file : List ℕ) (at : ℕ) : Type 0 where
  pub begun : IsBegun file at
  pub first : IsFirst file at

-- the last word
abbrev pub last_word : Words → Option Lexeme
last_word [] = None
last_word (w ∷ []) = Some w
last_word (w ∷ v ∷ ws) = last_word (v ∷ ws)

-- The text is no span of time after DELAY, INTERVAL or a comma, or no time after TIMESTAMP. Where the grammar has some text, but not this one, the
-- comma is one in WINDOW, and TIMESTAMP begins a literal.
abbrev pub IsBadBehind : Option Lexeme → List ℕ → Type 0
IsBadBehind (Some (keyword key.Delay)) text = span_of text ≡ None
IsBadBehind (Some (keyword key.Interval)) text = span_of text ≡ None
IsBadBehind (Some (symbol mark.Comma)) text = span_of text ≡ None
IsBadBehind (Some (keyword key.Timestamp)) text = time_of text ≡ None
IsBadBehind other text = ⊥

-- the next word is a text, and is no such span or time after the word in front of it
abbrev pub IsBadNext : Option Lexeme → Option Lexeme → Type 0
IsBadNext front (Some (quoted text)) = IsBadBehind front text
IsBadNext front other = ⊥

-- The token at this place is a text that is no span or no time where one has to stand: what stands in front of it begins a query, a query goes on with
-- some text there, and none with this one. So it stands where the grammar has a text for a span or for a time, and not where it has none.
pub record IsMisread (file : List ℕ) (at : ℕ) : Type 0 where
  pub begun : IsBegun file at
  pub first : IsFirst file at
  pub takes : (text : List ℕ) × BeginsQuery (begun.front ++ quoted text ∷ [])
  pub bad : IsBadNext (last_word (says first.taken)) (next_word (says first.rest))

-- The token at this place is a bracket with which more than 64 stand open, or an operator with which a tree grows higher than 64.
abbrev pub IsTooDeep : List ℕ → ℕ → Type 0
IsTooDeep file at = DeepBy 0 (cut_of file).tokens at

-- The tokens end at this place, and begin a query; what stands there is none.
pub record IsUnread (Is : List ℕ → Type 0) (file : List ℕ) (at : ℕ) : Type 0 where
  pub cause : LexCause
  pub ends : (cut_of file).fault ≡ Some (record { at = at; cause = cause })
  pub begun : BeginsQuery (says (cut_of file).tokens)
  pub is : Is (drop at file)

-- the first character begins no token: it is no blank, begins no comment, no name, no number and no text, and is no symbol, alone or with the next one
pub record BeginsNothing (bytes : List ℕ) : Type 0 where
  pub no_blank : is_blank (slice_index bytes 0) ≡ false
  pub no_comment : (slice_index bytes 0 == 45 && slice_index bytes 1 == 45) ≡ false
  pub no_name : begins_name (slice_index bytes 0) ≡ false
  pub no_number : is_ascii_digit (slice_index bytes 0) ≡ false
  pub no_text : slice_index bytes 0 ≢ 39
  pub no_symbol : short_symbol (slice_index bytes 0) ≡ None
  pub no_symbol_of_two : long_symbol (slice_index bytes 0) (slice_index bytes 1) ≡ None

-- the digits in front, all of them, are a number that is too great
pub record BeginsTooGreat (bytes : List ℕ) : Type 0 where
  pub digit : is_ascii_digit (slice_index bytes 0) ≡ true
  pub great : 2 ^ 63 ≤ digits_value 10 (take (prefix_len is_ascii_digit bytes) bytes)

-- a quote opens a text that has no end: after no text in which each quote is doubled stands a single one
pub record BeginsOpen (bytes : List ℕ) : Type 0 where
  pub opens : slice_index bytes 0 ≡ 39
  pub endless : (text rest : List ℕ) → bytes ≡ 39 ∷ doubled text ++ 39 ∷ rest → slice_index rest 0 ≢ 39 → ⊥

-- what holds of the place of a fault, by its cause
abbrev pub FaultAt : List ℕ → ParseCause → ℕ → Type 0
FaultAt file cause.TooLong at = (65536 < length file) × (at ≡ 65536)
FaultAt file cause.NotUtf8 at = (length file ≤ 65536) × IsValidUpTo file at
FaultAt file cause.BadChar at = IsUnread BeginsNothing file at
FaultAt file cause.BadNumber at = IsUnread BeginsTooGreat file at
FaultAt file cause.Unclosed at = IsUnread BeginsOpen file at
FaultAt file cause.Expected at = IsUnexpected file at
FaultAt file cause.BadText at = IsMisread file at
FaultAt file cause.TooDeep at = IsTooDeep file at

abbrev pub StandsAt : List ℕ → ParseFault → Type 0
StandsAt file (Refused at cause) = FaultAt file cause at
StandsAt file NoMemory = Unit {0}
