-- How a text is cut into tokens: by cases on the bytes at its front.
use Rattle.std.specs.Prelude.{ℕ, zero, suc, ◌+◌, ◌-◌, ◌^◌, ℤ, pos, Bool, not, ◌&&◌, ◌||◌, if◌then◌else◌, ◌==◌, nat_lt, List, [], ◌∷◌, ◌++◌, take, drop, slice_index, Option, Some, None, Result, Ok, Err}
use Rattle.std.specs.Char.{is_ascii_digit, is_ascii_alphabetic, is_ascii_alphanumeric}
use Rattle.std.specs.List.{prefix_len}
use Rattle.std.specs.Option.{option_map}
use Rattle.std.specs.Str.Parse.{digits_value}
use Rattle.ssq_lex.specs.declared.fault.LexCause.{LexCause}
use Rattle.ssq_lex.specs.declared.fault.LexCause.TheVariants.{BadChar, BadNumber, Unclosed}
use Rattle.ssq_lex.specs.declared.fault.Refusal.{Refusal}
use Rattle.ssq_lex.specs.declared.keyword.Keyword.{Keyword}
use Rattle.ssq_lex.specs.declared.symbol.Symbol.{Symbol}
use Rattle.ssq_lex.specs.Lexeme.{Lexeme, keyword, name, number, quoted, symbol, undoubled, Lexed}
use Rattle.ssq_lex.specs.Spelling.{keyword_of, short_symbol, long_symbol}

-- What stands at the front of a text, and how many bytes it takes. A blank and a comment say nothing.
pub record Head : Type 0 where
  pub said : Option Lexeme
  pub len : ℕ

-- space, tab, CR and LF
abbrev pub is_blank : ℕ → Bool
is_blank b = b == 32 || b == 9 || b == 13 || b == 10

-- a letter or `_`
abbrev pub begins_name : ℕ → Bool
begins_name b = is_ascii_alphabetic b || b == 95

-- a letter, a digit or `_`
abbrev pub is_in_name : ℕ → Bool
is_in_name b = is_ascii_alphanumeric b || b == 95

-- a comment goes on up to a line feed
abbrev pub is_in_line : ℕ → Bool
is_in_line b = not (b == 10)

-- a word that is a keyword in some case of its letters is no name
abbrev pub word_as : List ℕ → Option Keyword → Lexeme
word_as word (Some k) = keyword k
word_as word None = name word

unfoldable pub word_at : List ℕ → Head
word_at bytes =
    let len = prefix_len is_in_name bytes in
    record { said = Some (word_as (take len bytes) (keyword_of (take len bytes))); len = len }

-- a number counts by its value, whatever zeros lead it
abbrev pub value_of : List ℕ → Result ℤ LexCause
value_of digits = let value = digits_value 10 digits in if nat_lt value (2 ^ 63) then Ok (pos value) else Err BadNumber

abbrev pub number_to : ℕ → Result ℤ LexCause → Result Head LexCause
number_to len (Ok value) = Ok (record { said = Some (number value); len = len })
number_to len (Err cause) = Err cause

unfoldable pub number_at : List ℕ → Result Head LexCause
number_at bytes = let len = prefix_len is_ascii_digit bytes in number_to len (value_of (take len bytes))

-- The place of the quote that ends a text, counted from after the opening one. Two quotes one after the
-- other belong to the text.
abbrev pub closing : List ℕ → Option ℕ
closing [] = None
closing (b ∷ []) = if b == 39 then Some 0 else None
closing (b ∷ c ∷ bs) =
    if b == 39 then (if c == 39 then option_map (λ at. 2 + at) (closing bs) else Some 0)
    else option_map (λ at. 1 + at) (closing (c ∷ bs))

abbrev pub text_to : List ℕ → Option ℕ → Result Head LexCause
text_to bytes None = Err Unclosed
text_to bytes (Some len) = Ok (record { said = Some (quoted (undoubled (take len (drop 1 bytes)))); len = len + 2 })

unfoldable pub text_at : List ℕ → Result Head LexCause
text_at bytes = text_to bytes (closing (drop 1 bytes))

-- the longer symbol is taken
abbrev pub symbol_of : Option Symbol → Option Symbol → Result Head LexCause
symbol_of (Some s) other = Ok (record { said = Some (symbol s); len = 2 })
symbol_of None (Some s) = Ok (record { said = Some (symbol s); len = 1 })
symbol_of None None = Err BadChar

unfoldable pub symbol_at : List ℕ → Result Head LexCause
symbol_at bytes = symbol_of (long_symbol (slice_index bytes 0) (slice_index bytes 1)) (short_symbol (slice_index bytes 0))

abbrev pub skipped : ℕ → Head
skipped len = record { said = None; len = len }

-- what stands at the front of a text that isn't empty
unfoldable pub front : List ℕ → Result Head LexCause
front bytes =
    let b = slice_index bytes 0 in
    if is_blank b then Ok (skipped 1)
    else (if b == 45 && slice_index bytes 1 == 45 then Ok (skipped (prefix_len is_in_line bytes))
    else (if begins_name b then Ok (word_at bytes)
    else (if is_ascii_digit b then number_at bytes
    else (if b == 39 then text_at bytes
    else symbol_at bytes))))

-- the tokens in front of the first fault, or all of them, and that fault
pub record Cut : Type 0 where
  pub tokens : List Lexed
  pub fault : Option Refusal

-- the token that a front at this place is, if it is one
abbrev pub token_at : ℕ → ℕ → Option Lexeme → List Lexed
token_at at len None = []
token_at at len (Some lexeme) = record { start = at; end = at + len; said = lexeme } ∷ []

-- tokens, and then those of the rest
abbrev pub followed : List Lexed → Cut → Cut
followed front rest = record { tokens = front ++ rest.tokens; fault = rest.fault }

-- A front at a place, and then what stands after it. The rest is asked by how many bytes of it the front takes,
-- beside its first.
abbrev pub and_rest : ℕ → Result Head LexCause → (ℕ → Cut) → Cut
and_rest at (Err cause) rest = record { tokens = []; fault = Some (record { at = at; cause = cause }) }
and_rest at (Ok head) rest = followed (token_at at head.len head.said) (rest (head.len - 1))

-- how a text is cut from a place on, where the first bytes belong to what stands before
abbrev pub cut_from : ℕ → ℕ → List ℕ → Cut
cut_from taken at [] = record { tokens = []; fault = None }
cut_from (suc taken) at (b ∷ bytes) = cut_from taken (at + 1) bytes
cut_from zero at (b ∷ bytes) = and_rest at (front (b ∷ bytes)) (λ taken. cut_from taken (at + 1) bytes)

-- How a text is cut: from the left, each front is a token, a blank or a comment, up to the first fault.
unfoldable pub cut_of : List ℕ → Cut
cut_of = cut_from 0 0

abbrev pub Tokens : Type 0
Tokens = Result (List Lexed) Refusal

-- all tokens, or the fault
abbrev pub whole : List Lexed → Option Refusal → Tokens
whole tokens None = Ok tokens
whole tokens (Some refusal) = Err refusal

-- the tokens of a text, or its first fault
unfoldable pub tokens_of : List ℕ → Tokens
tokens_of bytes = whole (cut_of bytes).tokens (cut_of bytes).fault
