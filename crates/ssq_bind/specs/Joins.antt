-- What a bound join is.
use Rattle.std.specs.Prelude.{ℕ, ℤ, pos, Bool, if◌then◌else◌, List, [], ◌∷◌, ◌++◌, slice_get, Option, Some, None}
use Rattle.std.specs.List.{flat_map}
use Rattle.ssq_shape.specs.declared.bound.Joining.{Joining}
use Rattle.ssq_shape.specs.declared.bound.JoinKind.{JoinKind as Kind}
use Rattle.ssq_shape.specs.declared.bound.JoinKind.TheVariants as kind
use Rattle.ssq_shape.specs.declared.bound.KeyPair.{KeyPair}
use Rattle.ssq_shape.specs.declared.bound.TimeBound.{TimeBound}
use Rattle.ssq_shape.specs.declared.typed.Typed.{Typed}
use Rattle.ssq_ast.specs.declared.expr.BinaryOp.{BinaryOp}
use Rattle.ssq_ast.specs.declared.expr.ColumnRef.{ColumnRef}
use Rattle.ssq_ast.specs.declared.expr.Expr.{Expr}
use Rattle.ssq_ast.specs.declared.expr.Expr.TheVariants as expr
use Rattle.ssq_ast.specs.declared.query.Join.{Join}
use Rattle.ssq_ast.specs.declared.query.JoinKind.{JoinKind}
use Rattle.ssq_ast.specs.declared.query.JoinKind.TheVariants as written
use Rattle.ssq_ast.specs.Expression.{only}
use Rattle.ssq_check.specs.declared.scope.Scope.{Scope}
use Rattle.ssq_check.specs.declared.scope.Side.{Side}
use Rattle.ssq_check.specs.declared.scope.Side.TheVariants as side
use Rattle.ssq_check.specs.declared.scope.Spot.{Spot}
use Rattle.ssq_check.specs.Joined.{is_and, is_equal, are_across, looked, bare_column}
use Rattle.ssq_bind.specs.declared.context.Context.{Context}
use Rattle.ssq_bind.specs.declared.join.Parts.{Parts}
use Rattle.ssq_bind.specs.Lists.{listed}
use Rattle.ssq_bind.specs.Value.{shift_of, row_value}

-- what an expression joins by AND
unfoldable pub parts_of : Expr → List Expr
parts_of (expr.Binary' left_at p (only a) o at right_at q (only b)) =
    if is_and o then parts_of a ++ parts_of b else expr.Binary' left_at p (only a) o at right_at q (only b) ∷ []
parts_of e = e ∷ []

-- ---- key equalities

abbrev pub pair_on : Side → ℕ → ℕ → KeyPair
pair_on side.Left a b = record { left = a; right = b }
pair_on side.Right a b = record { left = b; right = a }

abbrev pub pair_by : Option Spot → Option Spot → Option KeyPair
pair_by (Some a) (Some b) = Some (pair_on a.side a.index b.index)
pair_by (Some a) None = None
pair_by None b = None

abbrev pub pair_if : Bool → Option Spot → Option Spot → Option KeyPair
pair_if is_pair a b = if is_pair then pair_by a b else None

abbrev pub pair_of : BinaryOp → Option Spot → Option Spot → Option KeyPair
pair_of o a b = pair_if (is_equal o) (if are_across a b then a else None) b

-- `l.a = r.b`, whichever stands left
unfoldable pub key_pair : Scope → Expr → Option KeyPair
key_pair scope (expr.Binary' left_at p (only a) o at right_at q (only b)) = pair_of o (looked scope (bare_column a)) (looked scope (bare_column b))
key_pair scope _ = None

-- ---- the bound

abbrev pub spot_index : Option Spot → ℕ
spot_index None = 0
spot_index (Some spot) = spot.index

-- `l.t` of `l.t`, of `l.t - INTERVAL 'a'` and of `l.t + INTERVAL 'b'`
unfoldable pub shifted_column : Expr → Option ColumnRef
shifted_column (expr.Column column) = Some column
shifted_column (expr.Binary' left_at p (only a) o at right_at q (only b)) = bare_column a
shifted_column _ = None

abbrev pub or_none : Option ℤ → ℤ
or_none None = pos 0
or_none (Some by) = by

-- by how much it is shifted
unfoldable pub span_of : Expr → ℤ
span_of (expr.Binary' left_at p (only a) o at right_at q (only b)) = or_none (shift_of o b)
span_of _ = pos 0

abbrev pub bound_by : Scope → Expr → Expr → Expr → TimeBound
bound_by scope a b c = record {
  left = spot_index (looked scope (shifted_column b));
  right = spot_index (looked scope (bare_column a));
  lo = span_of b;
  hi = span_of c;
}

-- `r.t BETWEEN l.t - INTERVAL 'a' AND l.t + INTERVAL 'b'`
unfoldable pub time_bound : Scope → Expr → Option TimeBound
time_bound scope (expr.Between' p (only a) at q (only b) r (only c)) = Some (bound_by scope a b c)
time_bound scope _ = None

-- ---- the whole

abbrev pub keys_in : Context → Expr → List KeyPair
keys_in context e = listed (key_pair context.scope e)

abbrev pub bounds_in : Context → Expr → List TimeBound
bounds_in context e = listed (time_bound context.scope e)

abbrev pub rest_by : Option KeyPair → Option TimeBound → Typed → List Typed
rest_by None None value = value ∷ []
rest_by None (Some bound) value = []
rest_by (Some pair) bound value = []

-- what is neither
abbrev pub rest_in : Context → Expr → List Typed
rest_in context e = rest_by (key_pair context.scope e) (time_bound context.scope e) (row_value context e)

-- these parts of ON, after those that stand in front of them
abbrev pub parts_with : Context → Parts → List Expr → Parts
parts_with context parts es = record {
  keys = parts.keys ++ flat_map (keys_in context) es;
  bounds = parts.bounds ++ flat_map (bounds_in context) es;
  rest = parts.rest ++ flat_map (rest_in context) es;
}

abbrev pub kind_of : JoinKind → Kind
kind_of written.Inner = kind.Inner
kind_of written.Left = kind.Left
kind_of written.Right = kind.Right

-- the key equalities of ON in their order, its bound, and the rest of it
abbrev pub joining_of : Context → Join → Joining
joining_of context join = record {
  kind = kind_of join.kind;
  keys = flat_map (keys_in context) (parts_of join.on.value);
  bound = slice_get (flat_map (bounds_in context) (parts_of join.on.value)) 0;
  rest = flat_map (rest_in context) (parts_of join.on.value);
}
