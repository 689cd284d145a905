-- What the canonical text of a query is read as.
use Rattle.std.specs.Prelude.{◌≡◌, ℕ, ◌≤◌, List, length, Ok}
use Rattle.ssq_ast.specs.declared.query.Query.{Query}
use Rattle.ssq_ast.specs.Canonical.{canonical}
use Rattle.ssq_ast.specs.Places.{erased}
use Rattle.ssq_parse.specs.File.{query_of}

-- a file is this query, places aside
pub record IsFileOf (file : List ℕ) (query : Query) : Type 0 where
  pub same : Query
  pub read : query_of file ≡ Ok same
  pub equal : erased same ≡ erased query

-- the text of the query is a file of it, where a file may have so many bytes
abbrev pub HasFile : Query → Type 0
HasFile query = length (canonical query) ≤ 65536 → IsFileOf (canonical query) query

-- The text of a query that is read is a file of that query, where a file may have so many bytes.
abbrev pub TextIsParsed : Type 0
TextIsParsed = (file : List ℕ) (query : Query) → query_of file ≡ Ok query → HasFile query
