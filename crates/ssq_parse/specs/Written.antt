-- What is read, as it is written: the words of the grammar in front of the tokens that are left.
use Rattle.std.specs.Prelude.{◌≡◌, ℕ, ◌≤◌, List, ◌++◌, map, drop, length, Ok, Err}
use Rattle.ssq_ast.specs.Expression.{Words, Written, words, level, IsRegular, opens, height, tallest, tree}
use Rattle.ssq_ast.specs.Expression as grammar
use Rattle.ssq_parse.specs.declared.tree.Tree.{Tree}
use Rattle.ssq_parse.specs.Expressions.{Reader, whole_at}
use Rattle.ssq_parse.specs.Reading.{Ahead, Made}

abbrev pub says : Ahead → Words
says tokens = map (λ token. token.said) tokens

abbrev pub starts : Ahead → List ℕ
starts tokens = map (λ token. token.start) tokens

-- the tokens in front of the rest are these words
pub record Took (tokens rest : Ahead) (words : Words) : Type 0 where
  pub said : says tokens ≡ words ++ says rest
  pub left : drop (length words) (starts tokens) ≡ starts rest

-- what holds of what was read, if it was
abbrev pub IfRead : {A : Type 0} → Made A → (A → Type 0) → Type 0
IfRead (Ok x) P = P x
IfRead (Err refusal) P = Unit {0}

-- a tree that was read, as it is written
pub record Spelled (asked depth : ℕ) (tokens : Ahead) (found : Tree) (rest : Ahead) : Type 0 where
  pub written : Written
  pub took : Took tokens rest (words written)
  pub regular : IsRegular written
  pub tight : asked ≤ level written
  pub high : height written ≡ found.height
  pub tall : tallest written ≤ 64
  pub opened : opens written ≤ depth
  pub meant : tree written (starts tokens) ≡ found.value
  pub at : grammar.first (starts tokens) ≡ found.at

abbrev pub Sound : ℕ → ℕ → Reader → Type 0
Sound asked depth reader = (tokens : Ahead) → IfRead (reader tokens) (λ found. Spelled asked depth tokens found.0 found.1)

-- Each expression that is read is one of the grammar, with its places: its words stand in front of the tokens that are
-- left, its operands stand where the grammar has them, at most 64 of its brackets are open at once, and no tree in it is
-- higher than 64.
abbrev pub EachIsWritten : Type 0
EachIsWritten = (tokens : Ahead) → IfRead (whole_at tokens) (λ found. Spelled 0 64 tokens found.0 found.1)
