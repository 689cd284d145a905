-- Each operator of a level is written so.
use Rattle.std.proofs.Common.{◌≡◌, ℕ, refl, sym, ap, subst, Bool, true, false, Option, Some, None, if◌then◌else◌, rules}
use denote.Enum.Bare.{sameb, same_true}
use Rattle.ssq_ast.specs.declared.expr.BinaryOp.{BinaryOp}
use Rattle.ssq_ast.specs.declared.expr.BinaryOp.TheVariants as op
use Rattle.ssq_ast.specs.declared.expr.UnaryOp.{UnaryOp}
use Rattle.ssq_ast.specs.declared.expr.UnaryOp.TheVariants as unary
use Rattle.ssq_ast.specs.Expression.{binary_word, binary_level, left_level, unary_word}
use Rattle.ssq_lex.specs.contracts.keyword.Keyword.{the_type as keyword_type}
use Rattle.ssq_lex.specs.contracts.symbol.Symbol.{the_type as symbol_type}
use Rattle.ssq_lex.specs.declared.keyword.Keyword.{Keyword}
use Rattle.ssq_lex.specs.declared.keyword.Keyword.TheVariants as key
use Rattle.ssq_lex.specs.declared.symbol.Symbol.TheVariants as mark
use Rattle.ssq_lex.specs.Lexeme.{Lexeme, keyword, symbol}
use Rattle.ssq_parse.specs.declared.operators.Level.{Level}
use Rattle.ssq_parse.specs.declared.operators.Level.TheVariants as level
use Rattle.ssq_parse.specs.Operators.{operator_of, is_prefix}

-- the grammar's numbers of a level: the operator's, and that of the operand on its left
abbrev pub number_of : Level → ℕ
number_of level.Or = 0
number_of level.And = 1
number_of level.Comparison = 3
number_of level.Sum = 4
number_of level.Product = 5

abbrev pub left_of : Level → ℕ
left_of level.Or = 0
left_of level.And = 1
left_of level.Comparison = 4
left_of level.Sum = 4
left_of level.Product = 5

pub record IsWrittenSo (l : Level) (word : Lexeme) (o : BinaryOp) : Type 0 where
  pub spelt : word ≡ binary_word o
  pub level : binary_level o ≡ number_of l
  pub left : left_level o ≡ left_of l

-- what an operator that was found is
abbrev pub IfFound : Level → Lexeme → Option BinaryOp → Type 0
IfFound l word None = Unit {0}
IfFound l word (Some o) = IsWrittenSo l word o

keyword_found : (k wanted : Keyword) (is_it : Bool) → sameb keyword_type k wanted ≡ is_it → (l : Level) (o : BinaryOp) → IsWrittenSo l (keyword wanted) o → IfFound l (keyword k) (if is_it then Some o else None)
keyword_found k wanted true is l o so = subst (λ w. IsWrittenSo l (keyword w) o) (sym (same_true keyword_type (search rules) k wanted is)) so
keyword_found k wanted false is l o so = tt

pub is_found : (l : Level) (word : Lexeme) → IfFound l word (operator_of l word)
unfolding operator_of
is_found level.Or (keyword k) = keyword_found k key.Or (sameb keyword_type k key.Or) refl level.Or op.Or (record { spelt = refl; level = refl; left = refl })
is_found level.And (keyword k) = keyword_found k key.And (sameb keyword_type k key.And) refl level.And op.And (record { spelt = refl; level = refl; left = refl })
is_found level.Comparison (symbol mark.Equal) = record { spelt = refl; level = refl; left = refl }
is_found level.Comparison (symbol mark.NotEqual) = record { spelt = refl; level = refl; left = refl }
is_found level.Comparison (symbol mark.Less) = record { spelt = refl; level = refl; left = refl }
is_found level.Comparison (symbol mark.AtMost) = record { spelt = refl; level = refl; left = refl }
is_found level.Comparison (symbol mark.Greater) = record { spelt = refl; level = refl; left = refl }
is_found level.Comparison (symbol mark.AtLeast) = record { spelt = refl; level = refl; left = refl }
is_found level.Sum (symbol mark.Plus) = record { spelt = refl; level = refl; left = refl }
is_found level.Sum (symbol mark.Minus) = record { spelt = refl; level = refl; left = refl }
is_found level.Sum (symbol mark.Concat) = record { spelt = refl; level = refl; left = refl }
is_found level.Product (symbol mark.Star) = record { spelt = refl; level = refl; left = refl }
is_found level.Product (symbol mark.Percent) = record { spelt = refl; level = refl; left = refl }
is_found level.Product (keyword k) = keyword_found k key.Div (sameb keyword_type k key.Div) refl level.Product op.Divide (record { spelt = refl; level = refl; left = refl })
is_found l other = tt

-- what holds where a test passes
abbrev pub IfTrue : Bool → Type 0 → Type 0
IfTrue true P = P
IfTrue false P = Unit {0}

if_true : (b : Bool) (P : Type 0) → (b ≡ true → P) → IfTrue b P
if_true true P holds = holds refl
if_true false P holds = tt

pub is_prefix_word : (o : UnaryOp) (word : Lexeme) → IfTrue (is_prefix o word) (word ≡ unary_word o)
unfolding is_prefix
is_prefix_word unary.Not (keyword k) = if_true (sameb keyword_type k key.Not) (keyword k ≡ keyword key.Not) (λ is. ap keyword (same_true keyword_type (search rules) k key.Not is))
is_prefix_word unary.Minus (symbol s) = if_true (sameb symbol_type s mark.Minus) (symbol s ≡ symbol mark.Minus) (λ is. ap symbol (same_true symbol_type (search rules) s mark.Minus is))
is_prefix_word o other = tt
