-- The first word of an expression.
use Rattle.std.proofs.Common.{◌≡◌, ℕ, ◌+◌, ◌≤◌, Bool, true, false, ap, ◌∙◌, arith, List, [], ◌∷◌, ◌++◌, refl, Option, Some, None, append_assoc}
use Rattle.std.specs.Prelude.{if◌then◌else◌}
use Rattle.ssq_ast.specs.declared.expr.BinaryOp.{BinaryOp}
use Rattle.ssq_ast.specs.declared.expr.BinaryOp.TheVariants as op
use Rattle.ssq_ast.specs.declared.expr.Function.{Function}
use Rattle.ssq_ast.specs.declared.expr.Function.TheVariants as function
use Rattle.ssq_ast.specs.declared.expr.UnaryOp.{UnaryOp}
use Rattle.ssq_ast.specs.declared.expr.UnaryOp.TheVariants as unary
use Rattle.ssq_ast.specs.Expression.{Words, Written, words, truth_key, function_key, unary_word, binary_word, test_words, unary_level, binary_level, left_level, level, IsRegular, of_number, of_text, of_truth, of_moment, of_span, of_column, of_rows, of_function, bracketed, prefixed, null_tested, infixed, between}
use Rattle.ssq_lex.specs.declared.keyword.Keyword.TheVariants as key
use Rattle.ssq_lex.specs.declared.symbol.Symbol.TheVariants as mark
use Rattle.ssq_lex.specs.Lexeme.{Lexeme, keyword, name, number, quoted, symbol}
use Rattle.ssq_parse.specs.Operators.{is_prefix}
use Rattle.ssq_parse.specs.Reading.{seen, is_keyword, is_symbol}
use Rattle.ssq_parse.proofs.Laid.{Where, laid}
use Rattle.ssq_parse.proofs.LaidOperators.{Begins}
use Rattle.ssq_ast.specs.Expression as spec

abbrev pub column_head : Option (List ℕ) → List ℕ → Lexeme
column_head None column = name column
column_head (Some stream) column = name stream

abbrev pub head_of : Written → Lexeme
head_of (of_number n) = number n
head_of (of_text text) = quoted text
head_of (of_truth truth) = keyword (truth_key truth)
head_of (of_moment moment) = keyword key.Timestamp
head_of (of_span span) = keyword key.Interval
head_of (of_column column) = column_head column.stream column.column
head_of of_rows = keyword key.Count
head_of (of_function f argument) = keyword (function_key f)
head_of (bracketed inner) = symbol mark.LeftParen
head_of (prefixed o operand) = unary_word o
head_of (null_tested operand test) = head_of operand
head_of (infixed o left right) = head_of left
head_of (between operand low high) = head_of operand

pub record Headed (word : Lexeme) (ws : Words) : Type 0 where
  pub rest : Words
  pub is : ws ≡ word ∷ rest

pub further : {word : Lexeme} {ws us : Words} → us ≡ ws → Headed word ws → Headed word us
further same h = record { rest = h.rest; is = same ∙ h.is }

pub column_headed : (stream : Option (List ℕ)) (column : List ℕ) (more : Words) → Headed (column_head stream column) ((spec.stream_words stream ++ name column ∷ []) ++ more)
column_headed None column more = record { rest = more; is = refl }
column_headed (Some stream) column more = record { rest = symbol mark.Dot ∷ name column ∷ more; is = refl }

parts_4 : (a b c d : Words) → ((a ++ b) ++ c) ++ d ≡ a ++ (b ++ (c ++ d))
parts_4 a b c d = simp append_assoc

pub between_words : (operand low high : Written) (more : Words)
    → words (between operand low high) ++ more ≡ words operand ++ (keyword key.Between ∷ (words low ++ (keyword key.And ∷ (words high ++ more))))
between_words operand low high more = parts_4 (words operand) (keyword key.Between ∷ words low) (keyword key.And ∷ words high) more

pub headed : (w : Written) (more : Words) → Headed (head_of w) (words w ++ more)
headed (of_number n) more = record { rest = _; is = refl }
headed (of_text text) more = record { rest = _; is = refl }
headed (of_truth truth) more = record { rest = _; is = refl }
headed (of_moment moment) more = record { rest = _; is = refl }
headed (of_span span) more = record { rest = _; is = refl }
headed (of_column column) more = column_headed column.stream column.column more
headed of_rows more = record { rest = _; is = refl }
headed (of_function f argument) more = record { rest = _; is = refl }
headed (bracketed inner) more = record { rest = _; is = refl }
headed (prefixed o operand) more = record { rest = _; is = refl }
headed (null_tested operand test) more =
    further (append_assoc (words operand) (keyword key.Is ∷ test_words test) more) (headed operand (keyword key.Is ∷ test_words test ++ more))
headed (infixed o left right) more =
    further (append_assoc (words left) (binary_word o ∷ words right) more) (headed left (binary_word o ∷ words right ++ more))
headed (between operand low high) more =
    further (between_words operand low high more) (headed operand (keyword key.Between ∷ (words low ++ (keyword key.And ∷ (words high ++ more)))))

-- ---- no word that may stand where an expression may stand too

pub record Begun (w : Lexeme) : Type 0 where
  pub star : is_symbol mark.Star w ≡ false
  pub distinct : is_keyword key.Distinct w ≡ false

pub column_begun : (stream : Option (List ℕ)) (column : List ℕ) → Begun (column_head stream column)
column_begun None column = record { star = refl; distinct = refl }
column_begun (Some stream) column = record { star = refl; distinct = refl }

truth_begun : (truth : Bool) → Begun (keyword (truth_key truth))
truth_begun true = record { star = refl; distinct = refl }
truth_begun false = record { star = refl; distinct = refl }

function_begun : (f : Function) → Begun (keyword (function_key f))
function_begun function.Count = record { star = refl; distinct = refl }
function_begun function.Sum = record { star = refl; distinct = refl }
function_begun function.Min = record { star = refl; distinct = refl }
function_begun function.Max = record { star = refl; distinct = refl }

unary_begun : (o : UnaryOp) → Begun (unary_word o)
unary_begun unary.Not = record { star = refl; distinct = refl }
unary_begun unary.Minus = record { star = refl; distinct = refl }

pub begun : (w : Written) → Begun (head_of w)
begun (of_number n) = record { star = refl; distinct = refl }
begun (of_text text) = record { star = refl; distinct = refl }
begun (of_truth truth) = truth_begun truth
begun (of_moment moment) = record { star = refl; distinct = refl }
begun (of_span span) = record { star = refl; distinct = refl }
begun (of_column column) = column_begun column.stream column.column
begun of_rows = record { star = refl; distinct = refl }
begun (of_function f argument) = function_begun f
begun (bracketed inner) = record { star = refl; distinct = refl }
begun (prefixed o operand) = unary_begun o
begun (null_tested operand test) = begun operand
begun (infixed o left right) = begun left
begun (between operand low high) = begun operand

pub unseen_head : (is : Lexeme → Bool) (word : Lexeme) (ws : Words) → Headed word ws → is word ≡ false → (p : Where) → seen is (laid ws p) ≡ None
unseen_head is word ws h other p = ap (λ ws. seen is (laid ws p)) h.is ∙ ap (λ b. if b then Some (spec.first p.starts) else None) other

pub no_star : (w : Written) (more : Words) (p : Where) → seen (is_symbol mark.Star) (laid (words w ++ more) p) ≡ None
no_star w more p = let b = begun w in unseen_head (is_symbol mark.Star) (head_of w) (words w ++ more) (headed w more) b.star p

-- ---- no operator before an operand

left_tighter : (o : BinaryOp) → binary_level o ≤ left_level o
left_tighter op.Or = omega arith
left_tighter op.And = omega arith
left_tighter op.Equal = omega arith
left_tighter op.NotEqual = omega arith
left_tighter op.Less = omega arith
left_tighter op.AtMost = omega arith
left_tighter op.Greater = omega arith
left_tighter op.AtLeast = omega arith
left_tighter op.Add = omega arith
left_tighter op.Subtract = omega arith
left_tighter op.Concat = omega arith
left_tighter op.Multiply = omega arith
left_tighter op.Divide = omega arith
left_tighter op.Remainder = omega arith

prefix_column : (o : UnaryOp) (stream : Option (List ℕ)) (column : List ℕ) → is_prefix o (column_head stream column) ≡ false
unfolding is_prefix
prefix_column unary.Not None column = refl
prefix_column unary.Not (Some stream) column = refl
prefix_column unary.Minus None column = refl
prefix_column unary.Minus (Some stream) column = refl

prefix_head : (o : UnaryOp) (w : Written) → IsRegular w → unary_level o + 1 ≤ level w → is_prefix o (head_of w) ≡ false
unfolding is_prefix
prefix_head unary.Not (of_number n) regular tight = refl
prefix_head unary.Minus (of_number n) regular tight = refl
prefix_head unary.Not (of_text text) regular tight = refl
prefix_head unary.Minus (of_text text) regular tight = refl
prefix_head unary.Not (of_truth true) regular tight = refl
prefix_head unary.Not (of_truth false) regular tight = refl
prefix_head unary.Minus (of_truth truth) regular tight = refl
prefix_head unary.Not (of_moment moment) regular tight = refl
prefix_head unary.Minus (of_moment moment) regular tight = refl
prefix_head unary.Not (of_span span) regular tight = refl
prefix_head unary.Minus (of_span span) regular tight = refl
prefix_head o (of_column column) regular tight = prefix_column o column.stream column.column
prefix_head unary.Not of_rows regular tight = refl
prefix_head unary.Minus of_rows regular tight = refl
prefix_head unary.Not (of_function function.Count argument) regular tight = refl
prefix_head unary.Not (of_function function.Sum argument) regular tight = refl
prefix_head unary.Not (of_function function.Min argument) regular tight = refl
prefix_head unary.Not (of_function function.Max argument) regular tight = refl
prefix_head unary.Minus (of_function f argument) regular tight = refl
prefix_head unary.Not (bracketed inner) regular tight = refl
prefix_head unary.Minus (bracketed inner) regular tight = refl
prefix_head unary.Not (prefixed unary.Not operand) regular tight = absurd (omega arith)
prefix_head unary.Not (prefixed unary.Minus operand) regular tight = refl
prefix_head unary.Minus (prefixed unary.Not operand) regular tight = refl
prefix_head unary.Minus (prefixed unary.Minus operand) regular tight = absurd (omega arith)
prefix_head o (null_tested operand test) regular tight = prefix_head o operand regular.1 (let t = regular.0 in omega arith)
prefix_head o (infixed b left right) regular tight = prefix_head o left regular.1 (let l = left_tighter b in let t = regular.0 in omega arith)
prefix_head o (between operand low high) regular tight = prefix_head o operand regular.1 (let t = regular.0 in omega arith)

pub begins_plain : (o : UnaryOp) (w : Written) → IsRegular w → unary_level o + 1 ≤ level w → (more : Words) → Begins o (words w ++ more)
begins_plain o w regular tight more = let h = headed w more in rw h.is (prefix_head o w regular tight)
