-- Which tokens are operators.
use Rattle.std.specs.Prelude.{Bool, false, Option, Some, None, if◌then◌else◌}
use denote.Enum.Bare.{sameb}
use Rattle.ssq_ast.specs.declared.expr.BinaryOp.{BinaryOp}
use Rattle.ssq_ast.specs.declared.expr.BinaryOp.TheVariants as op
use Rattle.ssq_ast.specs.declared.expr.UnaryOp.{UnaryOp}
use Rattle.ssq_ast.specs.declared.expr.UnaryOp.TheVariants as prefix
use Rattle.ssq_lex.specs.contracts.keyword.Keyword.{the_type as keyword_type}
use Rattle.ssq_lex.specs.contracts.symbol.Symbol.{the_type as symbol_type}
use Rattle.ssq_lex.specs.declared.keyword.Keyword.TheVariants as key
use Rattle.ssq_lex.specs.declared.symbol.Symbol.TheVariants as mark
use Rattle.ssq_lex.specs.Lexeme.{Lexeme, keyword, symbol, Lexed}
use Rattle.ssq_parse.specs.declared.operators.Level.{Level}
use Rattle.ssq_parse.specs.declared.operators.Level.TheVariants as level

-- the operator of a level that a token is
unfoldable pub operator_of : Level → Lexeme → Option BinaryOp
operator_of level.Or (keyword k) = if sameb keyword_type k key.Or then Some op.Or else None
operator_of level.And (keyword k) = if sameb keyword_type k key.And then Some op.And else None
operator_of level.Comparison (symbol mark.Equal) = Some op.Equal
operator_of level.Comparison (symbol mark.NotEqual) = Some op.NotEqual
operator_of level.Comparison (symbol mark.Less) = Some op.Less
operator_of level.Comparison (symbol mark.AtMost) = Some op.AtMost
operator_of level.Comparison (symbol mark.Greater) = Some op.Greater
operator_of level.Comparison (symbol mark.AtLeast) = Some op.AtLeast
operator_of level.Sum (symbol mark.Plus) = Some op.Add
operator_of level.Sum (symbol mark.Minus) = Some op.Subtract
operator_of level.Sum (symbol mark.Concat) = Some op.Concat
operator_of level.Product (symbol mark.Star) = Some op.Multiply
operator_of level.Product (keyword k) = if sameb keyword_type k key.Div then Some op.Divide else None
operator_of level.Product (symbol mark.Percent) = Some op.Remainder
operator_of l other = None

-- an operator that stands before its operand
unfoldable pub is_prefix : UnaryOp → Lexeme → Bool
is_prefix prefix.Not (keyword k) = sameb keyword_type k key.Not
is_prefix prefix.Minus (symbol s) = sameb symbol_type s mark.Minus
is_prefix op other = false

abbrev pub prefixes : UnaryOp → Lexed → Bool
prefixes op token = is_prefix op token.said
