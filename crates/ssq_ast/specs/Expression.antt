-- Expressions as they are written. The grammar stands here as trees of what is written, one kind for each of its
-- right-hand sides, with every bracket in them and without places: `words` tells how such a tree is written, and
-- `tree` which expression it is where its words stand at these places.
use Rattle.std.specs.Prelude.{◌≡◌, ℕ, ◌+◌, ◌≤◌, ℤ, max, Bool, true, false, nat_lt, if◌then◌else◌, List, [], ◌∷◌, ◌++◌, length, drop, slice_index, Option, Some, None}
use Rattle.std.specs.Option.{option_map}
use Rattle.ssq_lex.specs.declared.keyword.Keyword.{Keyword}
use Rattle.ssq_lex.specs.declared.keyword.Keyword.TheVariants as key
use Rattle.ssq_lex.specs.declared.symbol.Symbol.TheVariants as mark
use Rattle.ssq_lex.specs.Lexeme.{Lexeme, keyword, name, number, quoted, symbol}
use Rattle.ssq_time.specs.Time.{span_of, time_of}
use Rattle.ssq_ast.specs.declared.expr.BinaryOp.{BinaryOp}
use Rattle.ssq_ast.specs.declared.expr.BinaryOp.TheVariants as op
use Rattle.ssq_ast.specs.declared.expr.ColumnRef.{ColumnRef}
use Rattle.ssq_ast.specs.declared.expr.Expr.{Expr, Row_of-Expr, more_of-Expr, end_of-Expr}
use Rattle.ssq_ast.specs.declared.expr.Expr.TheVariants as expr
use Rattle.ssq_ast.specs.declared.expr.Function.{Function}
use Rattle.ssq_ast.specs.declared.expr.Function.TheVariants as function
use Rattle.ssq_ast.specs.declared.expr.Ident.{Ident}
use Rattle.ssq_ast.specs.declared.expr.Moment.{Moment}
use Rattle.ssq_ast.specs.declared.expr.NullTest.{NullTest}
use Rattle.ssq_ast.specs.declared.expr.NullTest.TheVariants as null_test
use Rattle.ssq_ast.specs.declared.expr.Span.{Span}
use Rattle.ssq_ast.specs.declared.expr.UnaryOp.{UnaryOp}
use Rattle.ssq_ast.specs.declared.expr.UnaryOp.TheVariants as unary_op

abbrev pub Words : Type 0
Words = List Lexeme

-- column = name [ "." name ]
pub record WrittenColumn : Type 0 where
  pub stream : Option (List ℕ)
  pub column : List ℕ

-- or   = and { OR and }
-- and  = not { AND not }
-- not  = NOT not | comp
-- comp = add [ ( "=" | "<>" | "<" | "<=" | ">" | ">=" ) add | IS [ NOT ] NULL | BETWEEN add AND add ]
-- add  = mul { ( "+" | "-" | "||" ) mul }
-- mul  = una { ( "*" | DIV | "%" ) una }
-- una  = "-" una | prim
-- prim = number | text | TRUE | FALSE | TIMESTAMP text | INTERVAL text
--      | COUNT "(" "*" ")" | ( COUNT | SUM | MIN | MAX ) "(" or ")" | column | "(" or ")"
-- These are one type here; `IsRegular` tells which of them may stand where.
pub data Written : Type 0 where
  of_number : ℤ → Written
  of_text : List ℕ → Written
  of_truth : Bool → Written
  of_moment : Moment → Written
  of_span : Span → Written
  of_column : WrittenColumn → Written
  of_rows : Written
  of_function : Function → Written → Written
  bracketed : Written → Written
  prefixed : UnaryOp → Written → Written
  null_tested : Written → NullTest → Written
  infixed : BinaryOp → Written → Written → Written
  between : Written → Written → Written → Written

abbrev pub truth_key : Bool → Keyword
truth_key true = key.True
truth_key false = key.False

abbrev pub function_key : Function → Keyword
function_key function.Count = key.Count
function_key function.Sum = key.Sum
function_key function.Min = key.Min
function_key function.Max = key.Max

abbrev pub unary_word : UnaryOp → Lexeme
unary_word unary_op.Not = keyword key.Not
unary_word unary_op.Minus = symbol mark.Minus

abbrev pub binary_word : BinaryOp → Lexeme
binary_word op.Or = keyword key.Or
binary_word op.And = keyword key.And
binary_word op.Equal = symbol mark.Equal
binary_word op.NotEqual = symbol mark.NotEqual
binary_word op.Less = symbol mark.Less
binary_word op.AtMost = symbol mark.AtMost
binary_word op.Greater = symbol mark.Greater
binary_word op.AtLeast = symbol mark.AtLeast
binary_word op.Add = symbol mark.Plus
binary_word op.Subtract = symbol mark.Minus
binary_word op.Concat = symbol mark.Concat
binary_word op.Multiply = symbol mark.Star
binary_word op.Divide = keyword key.Div
binary_word op.Remainder = symbol mark.Percent

abbrev pub test_words : NullTest → Words
test_words null_test.Null = keyword key.Null ∷ []
test_words null_test.NotNull = keyword key.Not ∷ keyword key.Null ∷ []

abbrev pub stream_words : Option (List ℕ) → Words
stream_words None = []
stream_words (Some stream) = name stream ∷ symbol mark.Dot ∷ []

abbrev pub column_words : WrittenColumn → Words
column_words column = stream_words column.stream ++ name column.column ∷ []

abbrev pub in_brackets : Words → Words
in_brackets inner = symbol mark.LeftParen ∷ inner ++ symbol mark.RightParen ∷ []

-- how an expression is written
abbrev pub words : Written → Words
words (of_number n) = number n ∷ []
words (of_text text) = quoted text ∷ []
words (of_truth truth) = keyword (truth_key truth) ∷ []
words (of_moment moment) = keyword key.Timestamp ∷ quoted moment.text ∷ []
words (of_span span) = keyword key.Interval ∷ quoted span.text ∷ []
words (of_column column) = column_words column
words of_rows = keyword key.Count ∷ in_brackets (symbol mark.Star ∷ [])
words (of_function f argument) = keyword (function_key f) ∷ in_brackets (words argument)
words (bracketed inner) = in_brackets (words inner)
words (prefixed o operand) = unary_word o ∷ words operand
words (null_tested operand test) = words operand ++ keyword key.Is ∷ test_words test
words (infixed o left right) = words left ++ binary_word o ∷ words right
words (between operand low high) = words operand ++ keyword key.Between ∷ words low ++ keyword key.And ∷ words high

-- how tightly operators bind: or 0, and 1, not 2, comp 3, add 4, mul 5, una 6, prim 7
abbrev pub unary_level : UnaryOp → ℕ
unary_level unary_op.Not = 2
unary_level unary_op.Minus = 6

abbrev pub binary_level : BinaryOp → ℕ
binary_level op.Or = 0
binary_level op.And = 1
binary_level op.Equal = 3
binary_level op.NotEqual = 3
binary_level op.Less = 3
binary_level op.AtMost = 3
binary_level op.Greater = 3
binary_level op.AtLeast = 3
binary_level op.Add = 4
binary_level op.Subtract = 4
binary_level op.Concat = 4
binary_level op.Multiply = 5
binary_level op.Divide = 5
binary_level op.Remainder = 5

-- the level that the outermost operator of an expression has
abbrev pub level : Written → ℕ
level (prefixed o operand) = unary_level o
level (null_tested operand test) = 3
level (infixed o left right) = binary_level o
level (between operand low high) = 3
level (of_number n) = 7
level (of_text text) = 7
level (of_truth truth) = 7
level (of_moment moment) = 7
level (of_span span) = 7
level (of_column column) = 7
level of_rows = 7
level (of_function f argument) = 7
level (bracketed inner) = 7

-- Left of an operator stands an operand of its own level, so that repeated operators group to the left; comparisons
-- do not repeat.
abbrev pub left_level : BinaryOp → ℕ
left_level op.Or = 0
left_level op.And = 1
left_level op.Equal = 4
left_level op.NotEqual = 4
left_level op.Less = 4
left_level op.AtMost = 4
left_level op.Greater = 4
left_level op.AtLeast = 4
left_level op.Add = 4
left_level op.Subtract = 4
left_level op.Concat = 4
left_level op.Multiply = 5
left_level op.Divide = 5
left_level op.Remainder = 5

-- right of an operator stands an operand that binds more tightly
abbrev pub right_level : BinaryOp → ℕ
right_level o = binary_level o + 1

-- Each operand binds as tightly as its place asks, and each time and span is the value of its text.
abbrev pub IsRegular : Written → Type 0
IsRegular (of_number n) = Unit {0}
IsRegular (of_text text) = Unit {0}
IsRegular (of_truth truth) = Unit {0}
IsRegular (of_moment moment) = time_of moment.text ≡ Some moment.micros
IsRegular (of_span span) = span_of span.text ≡ Some span.micros
IsRegular (of_column column) = Unit {0}
IsRegular of_rows = Unit {0}
IsRegular (of_function f argument) = IsRegular argument
IsRegular (bracketed inner) = IsRegular inner
IsRegular (prefixed o operand) = (unary_level o ≤ level operand) × IsRegular operand
IsRegular (null_tested operand test) = (4 ≤ level operand) × IsRegular operand
IsRegular (infixed o left right) =
    (left_level o ≤ level left) × IsRegular left × (right_level o ≤ level right) × IsRegular right
IsRegular (between operand low high) =
    (4 ≤ level operand) × IsRegular operand × (4 ≤ level low) × IsRegular low × (4 ≤ level high) × IsRegular high

-- how many brackets of an expression stand open at once, at most; those of functions count
abbrev pub opens : Written → ℕ
opens (of_number n) = 0
opens (of_text text) = 0
opens (of_truth truth) = 0
opens (of_moment moment) = 0
opens (of_span span) = 0
opens (of_column column) = 0
opens of_rows = 1
opens (of_function f argument) = opens argument + 1
opens (bracketed inner) = opens inner + 1
opens (prefixed o operand) = opens operand
opens (null_tested operand test) = opens operand
opens (infixed o left right) = max (opens left) (opens right)
opens (between operand low high) = max (opens operand) (max (opens low) (opens high))

-- an operand that is no operator is 1 high, an operator one higher than its highest operand; a function is no operator
abbrev pub height : Written → ℕ
height (of_number n) = 1
height (of_text text) = 1
height (of_truth truth) = 1
height (of_moment moment) = 1
height (of_span span) = 1
height (of_column column) = 1
height of_rows = 1
height (of_function f argument) = 1
height (bracketed inner) = height inner
height (prefixed o operand) = height operand + 1
height (null_tested operand test) = height operand + 1
height (infixed o left right) = max (height left) (height right) + 1
height (between operand low high) = max (height operand) (max (height low) (height high)) + 1

-- the greatest height in an expression: its own, and those of the arguments of functions in it
abbrev pub tallest : Written → ℕ
tallest (of_number n) = 1
tallest (of_text text) = 1
tallest (of_truth truth) = 1
tallest (of_moment moment) = 1
tallest (of_span span) = 1
tallest (of_column column) = 1
tallest of_rows = 1
tallest (of_function f argument) = tallest argument
tallest (bracketed inner) = tallest inner
tallest (prefixed o operand) = max (height operand + 1) (tallest operand)
tallest (null_tested operand test) = max (height operand + 1) (tallest operand)
tallest (infixed o left right) = max (max (height left) (height right) + 1) (max (tallest left) (tallest right))
tallest (between operand low high) =
    max (max (height operand) (max (height low) (height high)) + 1) (max (tallest operand) (max (tallest low) (tallest high)))

-- an expression in a box
pattern abbrev pub only : Expr → Row_of-Expr 1
only e = more_of-Expr e end_of-Expr

-- the place of the first of the words
abbrev pub first : List ℕ → ℕ
first places = slice_index places 0

-- the places from after these words on
abbrev pub behind : Words → List ℕ → List ℕ
behind front places = drop (length front) places

abbrev pub ident : List ℕ → List ℕ → Ident
ident text places = record { text = text; at = first places }

abbrev pub column_tree : WrittenColumn → List ℕ → ColumnRef
column_tree column places = record {
  stream = option_map (λ stream. ident stream places) column.stream;
  column = ident column.column (behind (stream_words column.stream) places);
}

-- the expression that is written, where the words stand at these places; brackets are none of it
abbrev pub tree : Written → List ℕ → Expr
tree (of_number n) places = expr.Number n (first places)
tree (of_text text) places = expr.Text text (first places)
tree (of_truth truth) places = expr.Truth truth (first places)
tree (of_moment moment) places = expr.Timestamp moment (first places)
tree (of_span span) places = expr.Interval span (first places)
tree (of_column column) places = expr.Column (column_tree column places)
tree of_rows places = expr.CountRows (first places)
tree (of_function f argument) places = expr.Aggregate' f (first places) tt (only (tree argument (drop 2 places)))
tree (bracketed inner) places = tree inner (drop 1 places)
tree (prefixed o operand) places = expr.Unary' o (first places) tt (only (tree operand (drop 1 places)))
tree (null_tested operand test) places =
    expr.IsNull' tt (only (tree operand places)) (first (behind (words operand) places)) test
tree (infixed o left right) places =
    let from_op = behind (words left) places in
    expr.Binary' (first places) tt (only (tree left places)) o (first from_op) (first (drop 1 from_op)) tt (only (tree right (drop 1 from_op)))
tree (between operand low high) places =
    let from_between = behind (words operand) places in
    let from_and = behind (words low) (drop 1 from_between) in
    expr.Between' tt (only (tree operand places)) (first from_between) tt (only (tree low (drop 1 from_between))) tt (only (tree high (drop 1 from_and)))

abbrev pub erased_ident : Ident → Ident
erased_ident i = record i { at = 0 }

abbrev pub erased_column : ColumnRef → ColumnRef
erased_column column = record { stream = option_map erased_ident column.stream; column = erased_ident column.column }

-- an expression, places aside: each place is 0
abbrev pub erased_expr : Expr → Expr
erased_expr (expr.Number n at) = expr.Number n 0
erased_expr (expr.Text text at) = expr.Text text 0
erased_expr (expr.Truth truth at) = expr.Truth truth 0
erased_expr (expr.Timestamp moment at) = expr.Timestamp moment 0
erased_expr (expr.Interval span at) = expr.Interval span 0
erased_expr (expr.Column column) = expr.Column (erased_column column)
erased_expr (expr.CountRows at) = expr.CountRows 0
erased_expr (expr.Aggregate' f at s (only argument)) = expr.Aggregate' f 0 tt (only (erased_expr argument))
erased_expr (expr.Unary' o at s (only operand)) = expr.Unary' o 0 tt (only (erased_expr operand))
erased_expr (expr.IsNull' s (only operand) at test) = expr.IsNull' tt (only (erased_expr operand)) 0 test
erased_expr (expr.Binary' left_at s (only left) o at right_at t (only right)) =
    expr.Binary' 0 tt (only (erased_expr left)) o 0 0 tt (only (erased_expr right))
erased_expr (expr.Between' s (only operand) at t (only low) u (only high)) =
    expr.Between' tt (only (erased_expr operand)) 0 tt (only (erased_expr low)) tt (only (erased_expr high))

-- brackets, where an operand binds less tightly than its place asks
abbrev pub within : ℕ → Written → Written
within asked operand = if nat_lt (level operand) asked then bracketed operand else operand

abbrev pub plain_column : ColumnRef → WrittenColumn
plain_column column = record { stream = option_map (λ i. i.text) column.stream; column = column.column.text }

-- the one way to write an expression with no bracket that could be left out
abbrev pub plain : Expr → Written
plain (expr.Number n at) = of_number n
plain (expr.Text text at) = of_text text
plain (expr.Truth truth at) = of_truth truth
plain (expr.Timestamp moment at) = of_moment moment
plain (expr.Interval span at) = of_span span
plain (expr.Column column) = of_column (plain_column column)
plain (expr.CountRows at) = of_rows
plain (expr.Aggregate' f at s (only argument)) = of_function f (plain argument)
plain (expr.Unary' o at s (only operand)) = prefixed o (within (unary_level o) (plain operand))
plain (expr.IsNull' s (only operand) at test) = null_tested (within 4 (plain operand)) test
plain (expr.Binary' left_at s (only left) o at right_at t (only right)) =
    infixed o (within (left_level o) (plain left)) (within (right_level o) (plain right))
plain (expr.Between' s (only operand) at t (only low) u (only high)) =
    between (within 4 (plain operand)) (within 4 (plain low)) (within 4 (plain high))
