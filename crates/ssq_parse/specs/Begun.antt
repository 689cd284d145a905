-- Words that begin a query: the grammar has more words after which they are one, however many brackets stand open in it and however high
-- its trees are.
use Rattle.std.specs.Prelude.{◌≡◌, ℕ, List, ◌++◌, length, slice_get, Option, Some, None}
use Rattle.ssq_ast.specs.Expression.{Words, IsRegular}
use Rattle.ssq_ast.specs.Statement.{WrittenQuery, IsRegularQuery, query_words}
use Rattle.ssq_lex.specs.Cut.{cut_of}
use Rattle.ssq_parse.specs.Written.{says, starts}

-- with some more words these are a query of the grammar, of whatever height
pub record BeginsQuery (front : Words) : Type 0 where
  pub written : WrittenQuery
  pub regular : IsRegularQuery IsRegular written
  pub more : Words
  pub said : query_words written ≡ front ++ more

-- a place, or the end where there is none
abbrev pub or_end : ℕ → Option ℕ → ℕ
or_end end None = end
or_end end (Some at) = at

-- The words of a file in front of this place begin a query. The place is that of the next word, or the file's end where no word is left.
pub record IsBegun (file : List ℕ) (at : ℕ) : Type 0 where
  pub front : Words
  pub rest : Words
  pub said : says (cut_of file).tokens ≡ front ++ rest
  pub here : or_end (length file) (slice_get (starts (cut_of file).tokens) (length front)) ≡ at
  pub begins : BeginsQuery front
