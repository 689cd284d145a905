-- ON: what it joins by AND, which parts of it are key equalities, and which is the bound on times.
use Rattle.std.specs.Prelude.{◌≡◌, ℕ, Bool, true, false, not, ◌&&◌, ◌||◌, nat_eq, if◌then◌else◌, List, [], ◌∷◌, ◌++◌, map, filter, Option, Some, None, Result, Ok, Err}
use Rattle.ssq_value.specs.declared.column.ColType.TheVariants as type
use Rattle.ssq_value.specs.declared.column.Column.{Column}
use Rattle.ssq_shape.specs.Kinds.{is_kind}
use Rattle.ssq_ast.specs.declared.expr.BinaryOp.{BinaryOp}
use Rattle.ssq_ast.specs.declared.expr.BinaryOp.TheVariants as op
use Rattle.ssq_ast.specs.declared.expr.ColumnRef.{ColumnRef}
use Rattle.ssq_ast.specs.declared.expr.Expr.{Expr}
use Rattle.ssq_ast.specs.declared.expr.Expr.TheVariants as expr
use Rattle.ssq_ast.specs.declared.expr.Ident.{Ident}
use Rattle.ssq_ast.specs.Expression.{only}
use Rattle.ssq_check.specs.declared.fault.BindFault.{BindFault}
use Rattle.ssq_check.specs.declared.fault.Cause.TheVariants as cause
use Rattle.ssq_check.specs.declared.joined.Edge.{Edge}
use Rattle.ssq_check.specs.declared.joined.Edge.TheVariants as edge
use Rattle.ssq_check.specs.declared.scope.Scope.{Scope}
use Rattle.ssq_check.specs.declared.scope.Side.{Side}
use Rattle.ssq_check.specs.declared.scope.Side.TheVariants as side
use Rattle.ssq_check.specs.declared.scope.Source.{Source}
use Rattle.ssq_check.specs.declared.scope.Spot.{Spot}
use Rattle.ssq_check.specs.declared.scope.Within.TheVariants as within
use Rattle.ssq_check.specs.Fault.{Faults}
use Rattle.ssq_check.specs.Scope.{in_columns, bare_spot, named_spot, is_same_side}
use Rattle.ssq_check.specs.Broken.{Nothing, Either, Rule}
use Rattle.ssq_check.specs.Rules.{is_interval, kind}
use Rattle.ssq_check.specs.Lists.{Beyond, Each}
use Rattle.ssq_check.specs.Names.{is_there}

pub record Conjunct : Type 0 where
  pub at : ℕ
  pub value : Expr

abbrev pub is_and : BinaryOp → Bool
is_and op.And = true
is_and _ = false

abbrev pub is_equal : BinaryOp → Bool
is_equal op.Equal = true
is_equal _ = false

-- `-` before the lower side of a bound, `+` before the upper one
abbrev pub is_edge : Edge → BinaryOp → Bool
is_edge edge.Low op.Subtract = true
is_edge edge.High op.Add = true
is_edge _ _ = false

-- what an expression joins by AND, each part with its first token; the expression itself stands at the first token `at`
unfoldable pub conjuncts : ℕ → Expr → List Conjunct
conjuncts at (expr.Binary' left_at p (only a) o own right_at q (only b)) =
    if is_and o then conjuncts left_at a ++ conjuncts right_at b
    else record { at = at; value = expr.Binary' left_at p (only a) o own right_at q (only b) } ∷ []
conjuncts at e = record { at = at; value = e } ∷ []

-- ---- columns

abbrev pub spot_by : Scope → Option Ident → Ident → Result Spot BindFault
spot_by scope None column = bare_spot scope column
spot_by scope (Some stream) column = named_spot scope stream column

-- the column of a row that a name means
abbrev pub spot_of : Scope → ColumnRef → Result Spot BindFault
spot_of scope column = spot_by scope column.stream column.column

abbrev pub spot_in : Result Spot BindFault → Option Spot
spot_in (Ok spot) = Some spot
spot_in (Err f) = None

abbrev pub looked : Scope → Option ColumnRef → Option Spot
looked scope None = None
looked scope (Some column) = spot_in (spot_of scope column)

-- the column that an expression is
abbrev pub bare_column : Expr → Option ColumnRef
bare_column (expr.Column column) = Some column
bare_column _ = None

-- ---- key equalities

abbrev pub are_across : Option Spot → Option Spot → Bool
are_across (Some a) (Some b) = not (is_same_side a.side b.side)
are_across (Some a) None = false
are_across None b = false

-- `l.a = r.b`, whichever stands left
abbrev pub is_pair : Scope → BinaryOp → Expr → Expr → Bool
is_pair scope o a b = is_equal o && are_across (looked scope (bare_column a)) (looked scope (bare_column b))

unfoldable pub is_key_equality : Scope → Expr → Bool
is_key_equality scope (expr.Binary' left_at p (only a) o at right_at q (only b)) = is_pair scope o a b
is_key_equality scope _ = false

-- the places of key equalities
abbrev pub key_places : Scope → List Conjunct → List ℕ
key_places scope parts = map (λ part. part.at) (filter (λ part. is_key_equality scope part.value) parts)

-- ---- the bound

abbrev pub is_at : Option Spot → ℕ → Bool
is_at None index = false
is_at (Some spot) index = nat_eq spot.index index

abbrev pub is_time_spot : Spot → Bool
is_time_spot spot = is_kind type.Timestamp (Some spot.kind)

-- the event column of a watermarked stream, any TIMESTAMP column of another
abbrev pub is_event_by : Option (List ℕ) → List Column → Spot → Bool
is_event_by None columns spot = is_time_spot spot
is_event_by (Some name) columns spot = is_at (in_columns spot.side columns name) spot.index

abbrev pub is_event : Option Source → Spot → Bool
is_event None spot = false
is_event (Some source) spot = is_event_by source.watermark source.columns spot

abbrev pub if_so : Bool → Option ColumnRef → Option ColumnRef
if_so true column = column
if_so false column = None

-- the column of a bound's side: `l.t` alone, or with a span taken from it or put to it
unfoldable pub edge_column : Edge → Expr → Option ColumnRef
edge_column own (expr.Column column) = Some column
edge_column own (expr.Binary' left_at p (only a) o at right_at q (only b)) = if_so (is_edge own o && is_interval b) (bare_column a)
edge_column own _ = None

-- `l.t` or `l.t - INTERVAL 'a'`
abbrev pub low_column : Expr → Option ColumnRef
low_column e = edge_column edge.Low e

-- `l.t` or `l.t + INTERVAL 'b'`
abbrev pub high_column : Expr → Option ColumnRef
high_column e = edge_column edge.High e

abbrev pub is_right : Side → Bool
is_right side.Right = true
is_right side.Left = false

-- `r.t` between `l.t` and `l.t`: a column of JOIN's stream between one and the same column of FROM's, both of them event columns
abbrev pub are_bound : Scope → Option Spot → Option Spot → Option Spot → Bool
are_bound scope (Some r) (Some low) (Some high) =
    is_right r.side && not (is_right low.side) && not (is_right high.side)
    && nat_eq low.index high.index && is_event scope.right r && is_event scope.left low
are_bound scope (Some r) (Some low) None = false
are_bound scope (Some r) None high = false
are_bound scope None low high = false

-- `r.t BETWEEN l.t - INTERVAL 'a' AND l.t + INTERVAL 'b'`
abbrev pub is_bound : Scope → Expr → Expr → Expr → Bool
is_bound scope a b c = are_bound scope (looked scope (bare_column a)) (looked scope (low_column b)) (looked scope (high_column c))

abbrev pub are_typed : Scope → Expr → Expr → Expr → Bool
are_typed scope a b c = is_there (kind scope within.Row a) && is_there (kind scope within.Row b) && is_there (kind scope within.Row c)

-- where the expression is a BETWEEN, its place
unfoldable pub between_at : Expr → Option ℕ
between_at (expr.Between' p (only a) at q (only b) r (only c)) = Some at
between_at _ = None

abbrev pub is_between : Expr → Bool
is_between e = is_there (between_at e)

-- a BETWEEN that follows another one, or hasn't the bound's form; and there is no fault in it
abbrev pub is_misplaced_by : Scope → Bool → Expr → Expr → Expr → Bool
is_misplaced_by scope follows a b c = (follows || not (is_bound scope a b c)) && are_typed scope a b c

unfoldable pub is_misplaced : Scope → Bool → Expr → Bool
is_misplaced scope follows (expr.Between' p (only a) at q (only b) r (only c)) = is_misplaced_by scope follows a b c
is_misplaced scope follows _ = false

abbrev pub BoundRule : Option ℕ → Bool → Faults
BoundRule None misplaced = Nothing
BoundRule (Some at) misplaced = Rule cause.BadBound at (misplaced ≡ true)

-- the BETWEENs among some parts, in order
abbrev pub betweens : List Conjunct → List Conjunct
betweens parts = filter (λ part. is_between part.value) parts

-- a BETWEEN, which follows another or does not, where it may not stand
abbrev pub StrayFaults : Scope → Bool → Conjunct → Faults
StrayFaults scope follows part = BoundRule (between_at part.value) (is_misplaced scope follows part.value)

-- of some BETWEENs, those that may not stand where they are: the first follows none, and each other one does
abbrev pub StraysAmong : Scope → List Conjunct → Faults
StraysAmong scope [] = Nothing
StraysAmong scope (first ∷ others) = Either (StrayFaults scope false first) (Each (StrayFaults scope true) others)

-- a BETWEEN among the conjuncts of ON that may not stand there
unfoldable pub BoundFaults : Scope → List Conjunct → Faults
BoundFaults scope parts = StraysAmong scope (betweens parts)

-- key equalities beyond the 64th, and BETWEENs that may not stand where they are
abbrev pub ConjunctFaults : Scope → List Conjunct → Faults
ConjunctFaults scope parts = Either (Beyond (key_places scope parts)) (BoundFaults scope parts)
