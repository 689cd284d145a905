-- How much a query groups, deduplicates or joins by.
use Rattle.std.specs.Prelude.{◌≤◌, length}
use Rattle.ssq_shape.specs.declared.bound.Bound.{Bound}
use Rattle.ssq_shape.specs.declared.bound.Grouping.{Grouping}
use Rattle.ssq_shape.specs.declared.bound.Shape.{Shape}
use Rattle.ssq_shape.specs.declared.bound.Shape.TheVariants as shape
use Rattle.ssq_ast.specs.declared.query.Query.{Query}
use Rattle.ssq_check.specs.Fault.{AreNone}
use Rattle.ssq_check.specs.Whole.{QueryFaults}
use Rattle.ssq_bind.specs.Bound.{bound_of}

-- GROUP BY has at most 64 parts, and SELECT and HAVING have at most 64 aggregates together
pub record IsLimited (grouping : Grouping) : Type 0 where
  pub keys : length grouping.keys ≤ 64
  pub aggregates : length grouping.aggregates ≤ 64

-- DEDUPLICATE has at most 64 columns, and ON at most 64 key equalities
abbrev pub IsLimitedBy : Shape → Type 0
IsLimitedBy shape.Plain = Unit {0}
IsLimitedBy (shape.Group grouping) = IsLimited grouping
IsLimitedBy (shape.Dedup columns) = length columns ≤ 64
IsLimitedBy (shape.Join joining) = length joining.keys ≤ 64

-- if the query groups its rows, deduplicates or joins them, it keeps the limits of that
abbrev pub HasLimits : Bound → Type 0
HasLimits bound = IsLimitedBy bound.shape

-- A query that breaks no rule of binding keeps these limits.
abbrev pub GroupsAreLimited : Type 0
GroupsAreLimited = (query : Query) → AreNone (QueryFaults query) → HasLimits (bound_of query)
