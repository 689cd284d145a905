-- The canonical text is a text of the same query.
use Rattle.std.specs.Prelude.{◌≡◌, List, map}
use Rattle.std.specs.List.{All}
use Rattle.ssq_lex.specs.Lexeme.{Lexed}
use Rattle.ssq_lex.specs.Sayable.{IsSayable}
use Rattle.ssq_ast.specs.declared.query.Query.{Query}
use Rattle.ssq_ast.specs.Canonical.{plain_query}
use Rattle.ssq_ast.specs.Places.{erased}
use Rattle.ssq_ast.specs.Statement.{IsWritten, query_words}

-- For each query that some tokens are written as: tokens that say the words of its canonical text are written as a
-- query too, which is the same, places aside.
abbrev pub IsReadAgain : Type 0
IsReadAgain =
    (tokens : List Lexed) (query : Query) → IsWritten tokens query →
    (again : List Lexed) → map (λ token. token.said) again ≡ query_words (plain_query query) →
    (same : Query) × IsWritten again same × (erased same ≡ erased query)

-- Where the tokens say words that can be said, so do the words of the canonical text.
abbrev pub IsSayableAgain : Type 0
IsSayableAgain =
    (tokens : List Lexed) (query : Query) → IsWritten tokens query →
    All IsSayable (map (λ token. token.said) tokens) → All IsSayable (query_words (plain_query query))
