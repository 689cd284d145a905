-- How late the rows of a stream may come.
use Rattle.std.specs.Prelude.{List, IfSome}
use Rattle.std.specs.List.{All}
use Rattle.ssq_lex.specs.Lexeme.{Lexed}
use Rattle.ssq_time.specs.Time.{IsSpan}
use Rattle.ssq_shape.specs.declared.bound.Stream.{Stream}
use Rattle.ssq_ast.specs.declared.query.Query.{Query}
use Rattle.ssq_ast.specs.Statement.{IsWritten}
use Rattle.ssq_bind.specs.Bound.{bound_of}

-- the delay of a watermarked stream is 1 second to 366 days long
abbrev pub HasSpan : Stream → Type 0
HasSpan stream = IfSome stream.delay IsSpan

-- A query that some tokens are written as reads streams whose delays are spans.
abbrev pub DelaysAreSpans : Type 0
DelaysAreSpans = (tokens : List Lexed) (query : Query) → IsWritten tokens query → All HasSpan (bound_of query).streams
