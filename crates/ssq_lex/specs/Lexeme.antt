-- What tokens say, and where they stand.
use Rattle.std.specs.Prelude.{ℕ, ℤ, List, [], ◌∷◌, if◌then◌else◌, ◌&&◌, ◌==◌}
use Rattle.ssq_lex.specs.declared.keyword.Keyword.{Keyword}
use Rattle.ssq_lex.specs.declared.symbol.Symbol.{Symbol}
use Rattle.ssq_lex.specs.declared.token.Kind.{Kind}
use Rattle.ssq_lex.specs.declared.token.Kind.TheVariants as kind
use Rattle.ssq_lex.specs.declared.token.Token.{Token}

-- what a token says, wherever it stands and however it is spaced
pub data Lexeme : Type 0 where
  keyword : Keyword → Lexeme
  name : List ℕ → Lexeme
  number : ℤ → Lexeme
  quoted : List ℕ → Lexeme
  symbol : Symbol → Lexeme

-- what a text between quotes says: two quotes stand for one
abbrev pub undoubled : List ℕ → List ℕ
undoubled [] = []
undoubled (b ∷ []) = b ∷ []
undoubled (b ∷ c ∷ bs) = if b == 39 && c == 39 then 39 ∷ undoubled bs else b ∷ undoubled (c ∷ bs)

-- a text as it stands between its quotes
abbrev pub doubled : List ℕ → List ℕ
doubled [] = []
doubled (b ∷ bs) = if b == 39 then 39 ∷ 39 ∷ doubled bs else b ∷ doubled bs

-- what a token of the code says
abbrev pub lexeme : Kind → Lexeme
lexeme (kind.Keyword k) = keyword k
lexeme (kind.Name s) = name s.now
lexeme (kind.Number n) = number n
lexeme (kind.Text s) = quoted (undoubled s.now)
lexeme (kind.Symbol s) = symbol s

-- a lexeme, and the bytes from start up to end that it takes
pub record Lexed : Type 0 where
  pub start : ℕ
  pub end : ℕ
  pub said : Lexeme

-- a token of the code, as what it says and where it stands
abbrev pub lexed : Token → Lexed
lexed t = record { start = t.start; end = t.end; said = lexeme t.kind }
