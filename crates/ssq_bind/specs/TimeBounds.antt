-- Where the bound of a join lies.
use Rattle.std.specs.Prelude.{◌≤ℤ◌, pos, IfSome, List}
use Rattle.ssq_lex.specs.Lexeme.{Lexed}
use Rattle.ssq_shape.specs.declared.bound.Bound.{Bound}
use Rattle.ssq_shape.specs.declared.bound.Shape.{Shape}
use Rattle.ssq_shape.specs.declared.bound.Shape.TheVariants as shape
use Rattle.ssq_shape.specs.declared.bound.TimeBound.{TimeBound}
use Rattle.ssq_ast.specs.declared.query.Query.{Query}
use Rattle.ssq_ast.specs.Statement.{IsWritten}
use Rattle.ssq_check.specs.Fault.{AreNone}
use Rattle.ssq_check.specs.Whole.{QueryFaults}
use Rattle.ssq_bind.specs.Bound.{bound_of}

-- It lies around the left row's time: its lower side is not above that, and its upper side not below.
pub record LiesAround (bound : TimeBound) : Type 0 where
  pub lo : bound.lo ≤ℤ pos 0
  pub hi : pos 0 ≤ℤ bound.hi

-- a join that has a bound has one that does
abbrev pub HasTimeBoundBy : Shape → Type 0
HasTimeBoundBy shape.Plain = Unit {0}
HasTimeBoundBy (shape.Group grouping) = Unit {0}
HasTimeBoundBy (shape.Dedup columns) = Unit {0}
HasTimeBoundBy (shape.Join joining) = IfSome joining.bound LiesAround

abbrev pub HasTimeBound : Bound → Type 0
HasTimeBound bound = HasTimeBoundBy bound.shape

-- So it is where some tokens are written as the query: the spans of ON are those of their texts, and none of these is below 0.
abbrev pub HasTimeBoundIfWritten : Query → Bound → Type 0
HasTimeBoundIfWritten query bound = (tokens : List Lexed) → IsWritten tokens query → HasTimeBound bound

-- A query that breaks no rule of binding has such a bound, if any, where it is written.
abbrev pub TimeBoundsLieAround : Type 0
TimeBoundsLieAround = (query : Query) → AreNone (QueryFaults query) → HasTimeBoundIfWritten query (bound_of query)
