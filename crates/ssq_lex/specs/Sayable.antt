-- The words that a text can say, and that its tokens do say.
use Rattle.std.specs.Prelude.{◌≡◌, ℕ, ◌<◌, ◌≤◌, ◌^◌, true, length, slice_index, ℤ, pos, List, [], ◌∷◌, map, None, Ok}
use Rattle.std.specs.List.{All}
use Rattle.std.specs.Str.{IsUtf8}
use Rattle.ssq_lex.specs.Cut.{begins_name, is_in_name, Tokens, cut_of, tokens_of}
use Rattle.ssq_lex.specs.Lexeme.{Lexeme, keyword, name, number, quoted, symbol, Lexed}
use Rattle.ssq_lex.specs.Printing.{printed}
use Rattle.ssq_lex.specs.Spelling.{keyword_of}

-- a letter or `_`, then letters, digits and `_`, and no keyword in any case of its letters
pub record IsName (text : List ℕ) : Type 0 where
  pub begins : begins_name (slice_index text 0) ≡ true
  pub goes_on : (i : ℕ) → i < length text → is_in_name (slice_index text i) ≡ true
  pub no_keyword : keyword_of text ≡ None

-- from 0 to 9223372036854775807
abbrev pub IsNumber : ℤ → Type 0
IsNumber (pos n) = n < 2 ^ 63
IsNumber below = ⊥

-- a word that some text says
abbrev pub IsSayable : Lexeme → Type 0
IsSayable (keyword k) = Unit {0}
IsSayable (name text) = IsName text
IsSayable (number n) = IsNumber n
IsSayable (quoted text) = IsUtf8 text
IsSayable (symbol s) = Unit {0}

-- a text is cut into tokens that say these words
pub record AreRead (words : List Lexeme) (tokens : Tokens) : Type 0 where
  pub found : List Lexed
  pub all : tokens ≡ Ok found
  pub said : map (λ token. token.said) found ≡ words

-- What is printed is read again: the text of words that can be said is cut into just these words.
abbrev pub PrintedIsRead : Type 0
PrintedIsRead = (words : List Lexeme) → All IsSayable words → AreRead words (tokens_of (printed words))

-- and it is UTF-8
abbrev pub PrintedIsText : Type 0
PrintedIsText = (words : List Lexeme) → All IsSayable words → IsUtf8 (printed words)

-- tokens stand one after the other, from a place on and within a length, and each takes some bytes
abbrev pub StandInOrder : ℕ → ℕ → List Lexed → Type 0
StandInOrder from len [] = Unit {0}
StandInOrder from len (token ∷ tokens) = (from ≤ token.start) × (token.start < token.end) × (token.end ≤ len) × StandInOrder token.end len tokens

-- the tokens of a text stand in it in order, and each says a word that can be said
pub record AreTokensOf (text : List ℕ) (tokens : List Lexed) : Type 0 where
  pub order : StandInOrder 0 (length text) tokens
  pub said : All IsSayable (map (λ token. token.said) tokens)

-- The tokens of a text, up to its first fault, say words that can be said.
abbrev pub TokensAreSayable : Type 0
TokensAreSayable = (text : List ℕ) → IsUtf8 text → All IsSayable (map (λ token. token.said) (cut_of text).tokens)
