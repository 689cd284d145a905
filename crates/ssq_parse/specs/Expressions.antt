-- How expressions are read, one definition for each line of the grammar.
use Rattle.std.specs.Prelude.{ℕ, zero, suc, ◌==◌, true, false, if◌then◌else◌, [], ◌∷◌, take, drop, Option, Some, None, Ok}
use Rattle.std.specs.List.{prefix_len}
use Rattle.ssq_ast.specs.declared.expr.BinaryOp.{BinaryOp}
use Rattle.ssq_ast.specs.declared.expr.Expr.TheVariants as e
use Rattle.ssq_ast.specs.declared.expr.Function.{Function}
use Rattle.ssq_ast.specs.declared.expr.Function.TheVariants as function
use Rattle.ssq_ast.specs.declared.expr.Ident.{Ident}
use Rattle.ssq_ast.specs.declared.expr.NullTest.{NullTest}
use Rattle.ssq_ast.specs.declared.expr.NullTest.TheVariants as test
use Rattle.ssq_ast.specs.declared.expr.UnaryOp.{UnaryOp}
use Rattle.ssq_ast.specs.declared.expr.UnaryOp.TheVariants as prefix
use Rattle.ssq_lex.specs.declared.keyword.Keyword.{Keyword}
use Rattle.ssq_lex.specs.declared.keyword.Keyword.TheVariants as key
use Rattle.ssq_lex.specs.declared.symbol.Symbol.TheVariants as mark
use Rattle.ssq_lex.specs.Lexeme.{Lexeme, keyword, name, number, quoted, symbol}
use Rattle.ssq_parse.specs.declared.fault.ParseCause.TheVariants.{Expected, TooDeep}
use Rattle.ssq_parse.specs.declared.fault.Stop.{Stop}
use Rattle.ssq_parse.specs.declared.operators.Level.{Level}
use Rattle.ssq_parse.specs.declared.operators.Level.TheVariants as level
use Rattle.ssq_parse.specs.declared.tree.Tree.{Tree}
use Rattle.ssq_parse.specs.Operators.{prefixes}
use Rattle.ssq_parse.specs.Reading.{Ahead, Read, ◌>>=◌, before, refused, expected, stop_at, behind, seen, is_keyword, is_symbol, keyword_at, symbol_at, first_operator, name_at, span_at, moment_at}
use Rattle.ssq_parse.specs.Trees.{tree_of, leaf, binary, null_test, between, wrapped}

abbrev pub Reader : Type 0
Reader = Ahead → Read Tree

abbrev pub expected_at : ℕ → Stop
expected_at at = stop_at (Some at) Expected

abbrev pub too_deep : ℕ → Stop
too_deep at = stop_at (Some at) TooDeep

-- ---- `operand { operator operand }`, grouped to the left. Each operator makes the tree higher, and none is higher
-- than 64, so 64 turns are enough.
abbrev pub further_by : Option (BinaryOp × ℕ) → Reader → (Tree → Reader) → Tree → Reader
further_by None operand more left tokens = Ok (left, tokens)
further_by (Some op) operand more left tokens = do
  right ← operand (drop 1 tokens)
  longer ← before (binary op.0 op.1 left right.0) right.1
  more longer.0 longer.1

unfoldable pub further : Level → Reader → ℕ → Tree → Reader
further l operand zero left tokens = Ok (left, tokens)
further l operand (suc turns) left tokens = further_by (first_operator l tokens) operand (further l operand turns) left tokens

abbrev pub chain : Level → Reader → Reader
chain l operand tokens = operand tokens >>= (λ first. further l operand 64 first.0 first.1)

-- ---- `{ operator } operand`
abbrev pub prefixed : UnaryOp → Reader → Reader
prefixed op operand tokens = do
  found ← operand (drop (prefix_len (prefixes op) tokens) tokens)
  before (wrapped op (take (prefix_len (prefixes op) tokens) tokens) found.0) found.1

-- ---- operands without brackets

-- a name, or a name after that of its stream
abbrev pub column_by : Ident → Option ℕ → Reader
column_by first None tokens = Ok (leaf first.at (e.Column (record { stream = None; column = first })), tokens)
column_by first (Some dot) tokens = do
  column ← name_at (drop 1 tokens)
  Ok (leaf first.at (e.Column (record { stream = Some first; column = column.0 })), column.1)

unfoldable pub column_at : Ident → Reader
column_at first tokens = column_by first (seen (is_symbol mark.Dot) tokens) tokens

unfoldable pub timestamp_at : ℕ → Reader
timestamp_at at tokens = do
  moment ← moment_at tokens
  Ok (leaf at (e.Timestamp moment.0 at), moment.1)

unfoldable pub interval_at : ℕ → Reader
interval_at at tokens = do
  span ← span_at tokens
  Ok (leaf at (e.Interval span.0 at), span.1)

-- what IS asks, by the NOT after it
abbrev pub test_by : Option ℕ → NullTest
test_by None = test.Null
test_by (Some at) = test.NotNull

-- The number says how many brackets more may stand open, and the reader reads what stands in the next one.
module _ (depth : ℕ) (inner : Reader) where
  -- after a bracket at this place
  unfoldable pub inside_at : ℕ → Reader
  inside_at bracket tokens = if depth == 0 then refused (Some bracket) TooDeep else inner tokens

  unfoldable pub bracketed_at : ℕ → Reader
  bracketed_at bracket tokens = do
    found ← inside_at bracket tokens
    closed ← symbol_at mark.RightParen found.1
    Ok (tree_of found.0.value bracket found.0.height, closed.1)

  unfoldable pub argument_at : Function → ℕ → ℕ → Reader
  argument_at f at bracket tokens = do
    found ← inside_at bracket tokens
    closed ← symbol_at mark.RightParen found.1
    Ok (leaf at (e.Aggregate f at found.0.value), closed.1)

  unfoldable pub aggregate_at : Function → ℕ → Reader
  aggregate_at f at tokens = do
    bracket ← symbol_at mark.LeftParen tokens
    argument_at f at bracket.0 bracket.1

  abbrev pub rows_by : ℕ → ℕ → Option ℕ → Reader
  rows_by at bracket None tokens = argument_at function.Count at bracket tokens
  rows_by at bracket (Some star) tokens =
      if depth == 0 then refused (Some bracket) TooDeep
      else (symbol_at mark.RightParen (drop 1 tokens) >>= (λ closed. Ok (leaf at (e.CountRows at), closed.1)))

  -- COUNT, of rows or of an argument
  unfoldable pub count_at : ℕ → Reader
  count_at at tokens = do
    bracket ← symbol_at mark.LeftParen tokens
    rows_by at bracket.0 (seen (is_symbol mark.Star) bracket.1) bracket.1

  unfoldable pub worded_at : Keyword → ℕ → Reader
  worded_at key.True at tokens = Ok (leaf at (e.Truth true at), tokens)
  worded_at key.False at tokens = Ok (leaf at (e.Truth false at), tokens)
  worded_at key.Timestamp at tokens = timestamp_at at tokens
  worded_at key.Interval at tokens = interval_at at tokens
  worded_at key.Count at tokens = count_at at tokens
  worded_at key.Sum at tokens = aggregate_at function.Sum at tokens
  worded_at key.Min at tokens = aggregate_at function.Min at tokens
  worded_at key.Max at tokens = aggregate_at function.Max at tokens
  worded_at other at tokens = refused (Some at) Expected

  abbrev pub primary_by : Lexeme → ℕ → Reader
  primary_by (number n) at tokens = Ok (leaf at (e.Number n at), tokens)
  primary_by (quoted text) at tokens = Ok (leaf at (e.Text text at), tokens)
  primary_by (name text) at tokens = column_at (record { text = text; at = at }) tokens
  primary_by (keyword k) at tokens = worded_at k at tokens
  primary_by (symbol mark.LeftParen) at tokens = bracketed_at at tokens
  primary_by (symbol other) at tokens = refused (Some at) Expected

  unfoldable pub primary_at : Reader
  primary_at [] = refused None Expected
  primary_at (token ∷ tokens) = primary_by token.said token.start tokens

  -- ---- operators, the tightest first

  unfoldable pub signed_at : Reader
  signed_at = prefixed prefix.Minus primary_at

  unfoldable pub product_at : Reader
  product_at = chain level.Product signed_at

  unfoldable pub sum_at : Reader
  sum_at = chain level.Sum product_at

  -- IS counts at once, since its operand stands before it
  unfoldable pub null_test_at : ℕ → Tree → Reader
  null_test_at at left tokens = do
    tested ← before (null_test (test_by (seen (is_keyword key.Not) tokens)) at left) (behind (seen (is_keyword key.Not) tokens) tokens)
    null ← keyword_at key.Null tested.1
    Ok (tested.0, null.1)

  unfoldable pub between_at : ℕ → Tree → Reader
  between_at at left tokens = do
    low ← sum_at tokens
    and ← keyword_at key.And low.1
    high ← sum_at and.1
    before (between at left low.0 high.0) high.1

  abbrev pub ranged : Option ℕ → Tree → Reader
  ranged None left tokens = Ok (left, tokens)
  ranged (Some at) left tokens = between_at at left (drop 1 tokens)

  abbrev pub tested : Option ℕ → Tree → Reader
  tested None left tokens = ranged (seen (is_keyword key.Between) tokens) left tokens
  tested (Some at) left tokens = null_test_at at left (drop 1 tokens)

  abbrev pub compared : Option (BinaryOp × ℕ) → Tree → Reader
  compared None left tokens = tested (seen (is_keyword key.Is) tokens) left tokens
  compared (Some op) left tokens = sum_at (drop 1 tokens) >>= (λ right. before (binary op.0 op.1 left right.0) right.1)

  unfoldable pub comparison_at : Reader
  comparison_at tokens = sum_at tokens >>= (λ left. compared (first_operator level.Comparison left.1) left.0 left.1)

  unfoldable pub negation_at : Reader
  negation_at = prefixed prefix.Not comparison_at

  unfoldable pub conjunction_at : Reader
  conjunction_at = chain level.And negation_at

  unfoldable pub disjunction_at : Reader
  disjunction_at = chain level.Or conjunction_at

-- An expression, with brackets nested so deep at most. Nothing is read inside one bracket too many: it is refused
-- where it opens.
unfoldable pub expr_at : ℕ → Reader
expr_at zero tokens = expected tokens
expr_at (suc depth) tokens = disjunction_at depth (expr_at depth) tokens

-- outside all brackets
unfoldable pub whole_at : Reader
whole_at = expr_at 65
