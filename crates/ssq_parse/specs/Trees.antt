-- Trees and their heights. An operand that is no operator has height 1; an operator is one higher than its highest
-- operand, and no tree is higher than 64.
use Rattle.std.specs.Prelude.{ℕ, ◌+◌, max, nat_lt, if◌then◌else◌, List, [], ◌∷◌, Some, Ok, Err}
use Rattle.ssq_ast.specs.declared.expr.BinaryOp.{BinaryOp}
use Rattle.ssq_ast.specs.declared.expr.Expr.{Expr}
use Rattle.ssq_ast.specs.declared.expr.Expr.TheVariants as e
use Rattle.ssq_ast.specs.declared.expr.NullTest.{NullTest}
use Rattle.ssq_ast.specs.declared.expr.UnaryOp.{UnaryOp}
use Rattle.ssq_lex.specs.Lexeme.{Lexed}
use Rattle.ssq_parse.specs.declared.fault.ParseCause.TheVariants.{TooDeep}
use Rattle.ssq_parse.specs.declared.tree.Tree.{Tree}
use Rattle.ssq_parse.specs.Reading.{Made, refused}

-- what is made of what was made
infixl 10 ◌and_then◌
abbrev pub ◌and_then◌ : {A B : Type 0} → Made A → (A → Made B) → Made B
(Ok x) and_then f = f x
(Err refusal) and_then f = Err refusal

abbrev pub tree_of : Expr → ℕ → ℕ → Tree
tree_of value at height = record { value = value; at = at; height = height }

abbrev pub leaf : ℕ → Expr → Tree
leaf at value = tree_of value at 1

-- the height of an operator at a place, over an operand so high
abbrev pub risen : ℕ → ℕ → Made ℕ
risen at height = if nat_lt height 64 then Ok (height + 1) else refused (Some at) TooDeep

unfoldable pub unary : UnaryOp → ℕ → Tree → Made Tree
unary op at operand = risen at operand.height and_then (λ height. Ok (tree_of (e.Unary op at operand.value) at height))

unfoldable pub binary : BinaryOp → ℕ → Tree → Tree → Made Tree
binary op at left right =
    risen at (max left.height right.height) and_then (λ height. Ok (tree_of (e.Binary left.at left.value op at right.at right.value) left.at height))

unfoldable pub null_test : NullTest → ℕ → Tree → Made Tree
null_test test at operand =
    risen at operand.height and_then (λ height. Ok (tree_of (e.IsNull operand.value at test) operand.at height))

-- one operator over three operands
unfoldable pub between : ℕ → Tree → Tree → Tree → Made Tree
between at operand low high =
    risen at (max (max operand.height low.height) high.height) and_then (λ height. Ok (tree_of (e.Between operand.value at low.value high.value) operand.at height))

-- operators that stand before an operand: the last is the innermost, and counts first
unfoldable pub wrapped : UnaryOp → List Lexed → Tree → Made Tree
wrapped op [] operand = Ok operand
wrapped op (token ∷ tokens) operand = wrapped op tokens operand and_then unary op token.start
