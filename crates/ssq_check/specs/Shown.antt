-- The aggregates that SELECT and HAVING show, and whether a query groups its rows.
use Rattle.std.specs.Prelude.{ℕ, Bool, if◌then◌else◌, List, [], ◌∷◌, ◌++◌, slice_get, Option, Some, None}
use Rattle.std.specs.List.{flat_map}
use Rattle.ssq_ast.specs.declared.expr.Expr.{Expr}
use Rattle.ssq_ast.specs.declared.expr.Expr.TheVariants as expr
use Rattle.ssq_ast.specs.declared.query.Condition.{Condition}
use Rattle.ssq_ast.specs.declared.query.GroupBy.{GroupBy}
use Rattle.ssq_ast.specs.declared.query.Item.{Item}
use Rattle.ssq_ast.specs.declared.query.Item.TheVariants as item
use Rattle.ssq_ast.specs.declared.query.Query.{Query}
use Rattle.ssq_ast.specs.Expression.{only}
use Rattle.ssq_check.specs.declared.scope.Within.{Within}
use Rattle.ssq_check.specs.declared.scope.Within.TheVariants as within
use Rattle.ssq_check.specs.Names.{is_there}

-- the places of the aggregates that stand in no other, from the left
unfoldable pub aggregates : Expr → List ℕ
aggregates (expr.CountRows at) = at ∷ []
aggregates (expr.Aggregate' f at p (only x)) = at ∷ []
aggregates (expr.Unary' o at p (only x)) = aggregates x
aggregates (expr.IsNull' p (only x) at test) = aggregates x
aggregates (expr.Binary' left_at p (only a) o at right_at q (only b)) = aggregates a ++ aggregates b
aggregates (expr.Between' p (only a) at q (only b) r (only c)) = aggregates a ++ (aggregates b ++ aggregates c)
aggregates _ = []

abbrev pub item_aggregates : Item → List ℕ
item_aggregates (item.Column column at named_at) = []
item_aggregates (item.Named value at label) = aggregates value

abbrev pub having_aggregates : Option Condition → List ℕ
having_aggregates None = []
having_aggregates (Some condition) = aggregates condition.value

-- those of SELECT, then those of HAVING
abbrev pub shown_aggregates : Query → List ℕ
shown_aggregates query = flat_map item_aggregates query.select.items ++ having_aggregates query.select.having

-- where a query says that it groups its rows: at GROUP BY, else at its first aggregate
abbrev pub group_place_at : Option GroupBy → Option ℕ → Option ℕ
group_place_at (Some by) aggregate = Some by.at
group_place_at None aggregate = aggregate

abbrev pub group_place_by : Option GroupBy → List ℕ → Option ℕ
group_place_by group places = group_place_at group (slice_get places 0)

abbrev pub group_place : Query → Option ℕ
group_place query = group_place_by query.select.group (shown_aggregates query)

abbrev pub is_group : Query → Bool
is_group query = is_there (group_place query)

abbrev pub within_by : Bool → Within
within_by is_group = if is_group then within.Group else within.Row

-- where the expressions of SELECT and HAVING stand
abbrev pub shown_within : Query → Within
shown_within query = within_by (is_group query)
