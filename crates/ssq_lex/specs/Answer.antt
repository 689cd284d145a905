-- What the calls of this crate answer.
use Rattle.std.specs.Prelude.{◌≡◌, ℕ, ◌<◌, ◌≤◌, List, length, drop, map, Option, Some, None, Result, Ok, Err}
use Rattle.std.specs.Option.{option_map}
use Rattle.std.specs.Str.{IsUtf8}
use Rattle.std.specs.Global.{Vec}
use Rattle.ssq_lex.specs.declared.fault.LexCause.{LexCause}
use Rattle.ssq_lex.specs.declared.fault.LexCause.TheVariants.{BadChar}
use Rattle.ssq_lex.specs.declared.fault.LexFault.{LexFault}
use Rattle.ssq_lex.specs.declared.fault.LexFault.TheVariants.{Refused, NoMemory}
use Rattle.ssq_lex.specs.declared.front.Front.{Front}
use Rattle.ssq_lex.specs.declared.lexer.Lexical.{Lexical}
use Rattle.ssq_lex.specs.declared.token.Token.{Token}
use Rattle.ssq_lex.specs.declared.symbol.Symbol.{Symbol}
use Rattle.ssq_lex.specs.Lexeme.{symbol, lexeme, lexed}
use Rattle.ssq_lex.specs.Cut.{Head, Cut, Tokens}

-- a front of the code, as what it says and how long it is
abbrev pub head : Front → Head
head f = record { said = option_map lexeme f.kind; len = f.len }

-- a symbol and its length, or none, as a front
abbrev pub symbol_head : Option (Symbol × ℕ) → Result Head LexCause
symbol_head None = Err BadChar
symbol_head (Some found) = Ok (record { said = Some (symbol found.0); len = found.1 })

-- a symbol is one or two characters long, which are ASCII
pub record IsShort (first second len : ℕ) : Type 0 where
  pub some : 0 < len
  pub two : len ≤ 2
  pub begins : (0 < first) × (first < 128)
  pub ends : len ≡ 2 → (0 < second) × (second < 128)

-- a front of the code takes its bytes off the text, one at least
pub record Cuts (f : Front) (bytes : List ℕ) : Type 0 where
  pub some : 0 < f.len
  pub within : f.len ≤ length bytes
  pub rest : f.rest.now ≡ drop f.len bytes
  pub utf8 : IsUtf8 f.rest.now

-- the code found this front, or this fault
abbrev pub Finds : Result Front LexCause → List ℕ → Result Head LexCause → Type 0
Finds (Ok f) bytes front = (front ≡ Ok (head f)) × Cuts f bytes
Finds (Err cause) bytes front = front ≡ Err cause

-- how the code cut a text
abbrev pub cut_by : Lexical → Cut
cut_by found = record { tokens = map lexed found.tokens.items; fault = found.fault }

-- the call answered these tokens or this refusal, unless memory ran out
abbrev pub Gives : Result (Vec Token) LexFault → Tokens → Type 0
Gives (Ok found) tokens = tokens ≡ Ok (map lexed found.items)
Gives (Err (Refused at cause)) tokens = tokens ≡ Err (record { at = at; cause = cause })
Gives (Err NoMemory) tokens = Unit {0}
