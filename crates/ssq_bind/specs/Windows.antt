-- By which windows rows are grouped.
use Rattle.std.specs.Prelude.{List}
use Rattle.ssq_lex.specs.Lexeme.{Lexed}
use Rattle.ssq_shape.specs.declared.bound.Bound.{Bound}
use Rattle.ssq_shape.specs.Windows.{HasWindows}
use Rattle.ssq_ast.specs.declared.query.Query.{Query}
use Rattle.ssq_ast.specs.Statement.{IsWritten}
use Rattle.ssq_check.specs.Fault.{AreNone}
use Rattle.ssq_check.specs.Whole.{QueryFaults}
use Rattle.ssq_bind.specs.Bound.{bound_of}

-- Where some tokens are written as the query, the bound query has at most one window, whose size and slide are spans, and
-- the size is one to 64 slides. That the numbers are spans comes from the texts in WINDOW; the rest from the rules of binding.
abbrev pub HasWindowsIfWritten : Query → Bound → Type 0
HasWindowsIfWritten query bound = (tokens : List Lexed) → IsWritten tokens query → HasWindows bound

-- A query that breaks no rule of binding has windows that fit, where it is written.
abbrev pub WindowsAreFit : Type 0
WindowsAreFit = (query : Query) → AreNone (QueryFaults query) → HasWindowsIfWritten query (bound_of query)
