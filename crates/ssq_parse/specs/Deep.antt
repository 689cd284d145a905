-- What is too deep: a bracket that opens where 64 stand open, and an operator that makes a tree 65 high.
use Rattle.std.specs.Prelude.{◌≡◌, ℕ, ◌+◌, ◌-◌, ◌≤◌, if◌then◌else◌, [], ◌∷◌, Option, Some, None}
use denote.Enum.Bare.{sameb}
use Rattle.ssq_ast.specs.declared.expr.Expr.{Expr}
use Rattle.ssq_ast.specs.declared.expr.Expr.TheVariants as e
use Rattle.ssq_ast.specs.Expression.{Words, Written, words, level, IsRegular, height, tree}
use Rattle.ssq_lex.specs.contracts.symbol.Symbol.{the_type as symbol_type}
use Rattle.ssq_lex.specs.declared.keyword.Keyword.TheVariants as key
use Rattle.ssq_lex.specs.declared.symbol.Symbol.TheVariants as mark
use Rattle.ssq_lex.specs.Lexeme.{Lexeme, keyword, symbol}
use Rattle.ssq_parse.specs.Reading.{Ahead, place}
use Rattle.ssq_parse.specs.Written.{says, starts, Took}

-- how many brackets stand open after a word, where so many do in front of it
abbrev pub open_behind : Lexeme → ℕ → ℕ
open_behind (symbol s) many =
    if sameb symbol_type s mark.LeftParen then many + 1 else (if sameb symbol_type s mark.RightParen then many - 1 else many)
open_behind other many = many

-- how many stand open after these words
abbrev pub open_after : ℕ → Words → ℕ
open_after many [] = many
open_after many (w ∷ ws) = open_after (open_behind w many) ws

-- a bracket in front of which 64 stand open, where so many do in front of all these tokens
pub record OpensTooMany (many : ℕ) (tokens : Ahead) (at : ℕ) : Type 0 where
  pub front : Words
  pub rest : Ahead
  pub before : Took tokens rest front
  pub count : open_after many front ≡ 64
  pub others : Words
  pub bracket : says rest ≡ symbol mark.LeftParen ∷ others
  pub here : place rest ≡ Some at

-- the place of the operator that an expression is
abbrev pub operator_place : Expr → Option ℕ
operator_place (e.Unary' o at p x) = Some at
operator_place (e.Binary' left_at p a o at right_at q b) = Some at
operator_place (e.Between' p a at q b r c) = Some at
operator_place (e.IsNull' p x at test) = Some at
operator_place other = None

-- an expression of the grammar, 65 high, whose operator stands at this place
pub record RisesTooHigh (start : Ahead) (at : ℕ) : Type 0 where
  pub written : Written
  pub rest : Ahead
  pub took : Took start rest (words written)
  pub regular : IsRegular written
  pub high : height written ≡ 65
  pub here : operator_place (tree written (starts start)) ≡ Some at

-- IS at this place, after an operand 64 high: it counts at once, whatever stands after it
pub record TestsTooHigh (start : Ahead) (at : ℕ) : Type 0 where
  pub operand : Written
  pub rest : Ahead
  pub took : Took start rest (words operand)
  pub regular : IsRegular operand
  pub tight : 4 ≤ level operand
  pub high : height operand ≡ 64
  pub others : Words
  pub is : says rest ≡ keyword key.Is ∷ others
  pub here : place rest ≡ Some at

pub data HighFrom (start : Ahead) (at : ℕ) : Type 0 where
  operator_too_high : RisesTooHigh start at → HighFrom start at
  test_too_high : TestsTooHigh start at → HighFrom start at

-- it is so from one of the tokens on
pub record IsTooHigh (tokens : Ahead) (at : ℕ) : Type 0 where
  pub front : Words
  pub start : Ahead
  pub before : Took tokens start front
  pub high : HighFrom start at

-- At this place a bracket is one too many, or an operator makes a tree too high.
pub data DeepBy (many : ℕ) (tokens : Ahead) (at : ℕ) : Type 0 where
  too_many : OpensTooMany many tokens at → DeepBy many tokens at
  too_high : IsTooHigh tokens at → DeepBy many tokens at
