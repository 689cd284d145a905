-- The type of an expression doesn't depend on places.
use Rattle.std.proofs.Common.{◌≡◌, refl, ℕ, Bool, true, false, ◌&&◌, List, Option, Some, None, Result, Ok, Err}
use Rattle.std.specs.Prelude.{if◌then◌else◌}
use Rattle.std.specs.Option.{option_map}
use Rattle.ssq_value.specs.declared.column.ColType.{ColType}
use Rattle.ssq_value.specs.declared.column.ColType.TheVariants as type
use Rattle.ssq_shape.specs.Kinds.{is_kind}
use Rattle.ssq_ast.specs.declared.expr.BinaryOp.{BinaryOp}
use Rattle.ssq_ast.specs.declared.expr.BinaryOp.TheVariants as op
use Rattle.ssq_ast.specs.declared.expr.Ident.{Ident}
use Rattle.ssq_ast.specs.declared.expr.ColumnRef.{ColumnRef}
use Rattle.ssq_ast.specs.declared.expr.Expr.{Expr}
use Rattle.ssq_ast.specs.declared.expr.Expr.TheVariants as expr
use Rattle.ssq_ast.specs.Expression.{only, erased_ident, erased_column, erased_expr}
use Rattle.ssq_check.specs.declared.fault.BindFault.{BindFault}
use Rattle.ssq_check.specs.declared.scope.Key.{Key}
use Rattle.ssq_check.specs.declared.scope.Scope.{Scope}
use Rattle.ssq_check.specs.declared.scope.Side.TheVariants as side
use Rattle.ssq_check.specs.declared.scope.Spot.{Spot}
use Rattle.ssq_check.specs.declared.scope.Within.{Within}
use Rattle.ssq_check.specs.declared.scope.Within.TheVariants as within
use Rattle.ssq_check.specs.Joined.{spot_in, spot_by}
use Rattle.ssq_check.specs.Scope.{in_source, only_one, known, source_named, is_key, is_window_here, grouped, column_kind_by, column_kind}
use Rattle.ssq_check.specs.Rules.{operands_of, operator_kind, unary_kind, aggregate_kind, between_kind, is_divisor, is_minus, is_nonzero, divides, is_interval, is_sum, may_stand, type_of, of_one, if_divides, together, kind}

one_stays : (a b : Option Spot) (m n : ℕ) → spot_in (only_one a b m) ≡ spot_in (only_one a b n)
one_stays (Some a) (Some b) m n = refl
one_stays (Some a) None m n = refl
one_stays None (Some b) m n = refl
one_stays None None m n = refl

known_stays : (a : Option Spot) (m n : ℕ) → spot_in (known a m) ≡ spot_in (known a n)
known_stays None m n = refl
known_stays (Some a) m n = refl

named_stays : (b c : Bool) (x y : Option Spot) (m n k l : ℕ) → spot_in (if b then known x m else if c then known y m else known None k) ≡ spot_in (if b then known x n else if c then known y n else known None l)
named_stays true c x y m n k l = known_stays x m n
named_stays false true x y m n k l = known_stays y m n
named_stays false false x y m n k l = refl

-- a name means the same column, wherever it is told
pub spot_stays : (scope : Scope) (stream : Option Ident) (column : Ident) → spot_in (spot_by scope (option_map erased_ident stream) (erased_ident column)) ≡ spot_in (spot_by scope stream column)
spot_stays scope None column = one_stays (in_source side.Left scope.left column.text) (in_source side.Right scope.right column.text) 0 column.at
spot_stays scope (Some stream) column =
    named_stays (source_named scope.left stream.text) (source_named scope.right stream.text) (in_source side.Left scope.left column.text) (in_source side.Right scope.right column.text) 0 column.at 0 stream.at

grouped_stays : (keys : List Key) (w : Within) (m n : ℕ) (r s : Result Spot BindFault) → spot_in r ≡ spot_in s → type_of (grouped keys w m r) ≡ type_of (grouped keys w n s)
grouped_stays keys w m n (Err f) (Err g) is = refl
grouped_stays keys w m n (Err f) (Ok s) is = absurd cc
grouped_stays keys w m n (Ok r) (Err g) is = absurd cc
grouped_stays keys within.Row m n (Ok r) (Ok s) is = (λ i. option_map (λ (spot : Spot). spot.kind) (is i))
grouped_stays keys within.Group m n (Ok r) (Ok s) is =
    let same : r ≡ s = cc in
    rw same (key_stays (is_key keys s) s.kind m n)
  where
    key_stays : (b : Bool) (own : ColType) (p q : ℕ) → type_of (if b then Ok own else Err (record { at = p; cause = Rattle.ssq_check.specs.declared.fault.Cause.TheVariants.NotGrouped })) ≡ type_of (if b then Ok own else Err (record { at = q; cause = Rattle.ssq_check.specs.declared.fault.Cause.TheVariants.NotGrouped }))
    key_stays true own p q = refl
    key_stays false own p q = refl

bare_stays : (b : Bool) (own : ColType) (r s : Result ColType BindFault) → type_of r ≡ type_of s → type_of (if b then Ok own else r) ≡ type_of (if b then Ok own else s)
bare_stays true own r s is = refl
bare_stays false own r s is = is

column_stays : (scope : Scope) (w : Within) (column : ColumnRef) → type_of (column_kind scope w (erased_column column)) ≡ type_of (column_kind scope w column)
column_stays scope w column = by column.stream
  where
    by : (stream : Option Ident) → type_of (column_kind_by scope w (option_map erased_ident stream) (erased_ident column.column)) ≡ type_of (column_kind_by scope w stream column.column)
    by None = bare_stays (is_window_here scope w column.column.text) type.Timestamp _ _ (grouped_stays scope.keys w 0 column.column.at _ _ (spot_stays scope None column.column))
    by (Some stream) = grouped_stays scope.keys w 0 stream.at _ _ (spot_stays scope (Some stream) column.column)

divides_stays : (o : BinaryOp) (e same : Expr) → is_divisor same ≡ is_divisor e → divides o same ≡ divides o e
divides_stays op.Divide e same is = is
divides_stays op.Remainder e same is = is
divides_stays _ e same is = refl

-- what is asked of an expression, so that another around it has a type
record Seen : Type 0 where
  interval : Bool
  nonzero : Bool
  divisor : Bool
  kind : Within → Option ColType

abbrev seen : Scope → Expr → Seen
seen scope e = record { interval = is_interval e; nonzero = is_nonzero e; divisor = is_divisor e; kind = λ w. kind scope w e }

-- no span and no number
abbrev other : Bool → (Within → Option ColType) → Seen
other divisor kind = record { interval = false; nonzero = false; divisor = divisor; kind = kind }

module _ (scope : Scope) where
  seen_stays : (e : Expr) → seen scope (erased_expr e) ≡ seen scope e
  unfolding is_divisor kind
  seen_stays (expr.Column column) = λ i. other false (λ w. column_stays scope w column i)
  seen_stays (expr.Aggregate' f at p (only x)) = λ i. other false (λ w. may_stand w (of_one (aggregate_kind f) ((seen_stays x i).kind within.Row)))
  seen_stays (expr.Unary' o at p (only x)) = λ i. other (is_minus o && (seen_stays x i).nonzero) (λ w. of_one (unary_kind o) ((seen_stays x i).kind w))
  seen_stays (expr.IsNull' p (only x) at test) = λ i. other false (λ w. of_one (λ own. Some type.Bool) ((seen_stays x i).kind w))
  seen_stays (expr.Binary' left_at p (only a) o at right_at q (only b)) =
      let divided = divides_stays o b (erased_expr b) (λ i. (seen_stays b i).divisor) in
      λ i. other false (λ w.
      if is_sum o && (seen_stays b i).interval && is_kind type.Timestamp ((seen_stays a i).kind w) then Some type.Timestamp
      else if_divides (divided i) (of_one (λ (pair : ColType × ColType). operator_kind (operands_of o) pair.0 pair.1) (together ((seen_stays a i).kind w) ((seen_stays b i).kind w))))
  seen_stays (expr.Between' p (only a) at q (only b) r (only c)) = λ i. other false (λ w.
      of_one (λ (triple : (ColType × ColType) × ColType). between_kind triple.0.0 triple.0.1 triple.1) (together (together ((seen_stays a i).kind w) ((seen_stays b i).kind w)) ((seen_stays c i).kind w)))
  seen_stays _ = refl

pub kind_stays : (scope : Scope) (w : Within) (e : Expr) → kind scope w (erased_expr e) ≡ kind scope w e
kind_stays scope w e = λ i. (seen_stays scope e i).kind w
