-- Places are of no account once a query is bound.
use Rattle.std.specs.Prelude.{◌≡◌}
use Rattle.ssq_shape.specs.declared.bound.Bound.{Bound}
use Rattle.ssq_ast.specs.declared.query.Query.{Query}
use Rattle.ssq_ast.specs.Places.{erased}
use Rattle.ssq_bind.specs.Bound.{bound_of}

-- Two queries that are the same, places aside, are bound to the same bound query.
abbrev pub PlacesAreIgnored : Type 0
PlacesAreIgnored = (query other : Query) → erased other ≡ erased query → bound_of other ≡ bound_of query

-- this is the bound query of each query that is the same, places aside
abbrev pub IsOfEach : Query → Bound → Type 0
IsOfEach query bound = (other : Query) → erased other ≡ erased query → bound_of other ≡ bound
