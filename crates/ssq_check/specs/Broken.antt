-- Which rules an expression breaks, and where: what each part of it breaks by itself, where its operands break none.
use Rattle.std.specs.Prelude.{◌≡◌, ◌⊎◌, ℕ, Bool, true, false, Option, Some, None, Result, Ok, Err}
use Rattle.ssq_value.specs.declared.column.ColType.{ColType}
use Rattle.ssq_ast.specs.declared.expr.BinaryOp.{BinaryOp}
use Rattle.ssq_ast.specs.declared.expr.Expr.{Expr}
use Rattle.ssq_ast.specs.declared.expr.Expr.TheVariants as expr
use Rattle.ssq_ast.specs.Expression.{only}
use Rattle.ssq_check.specs.declared.fault.Cause.{Cause}
use Rattle.ssq_check.specs.declared.fault.Cause.TheVariants as cause
use Rattle.ssq_check.specs.declared.fault.BindFault.{BindFault}
use Rattle.ssq_check.specs.declared.scope.Scope.{Scope}
use Rattle.ssq_check.specs.declared.scope.Within.{Within}
use Rattle.ssq_check.specs.declared.scope.Within.TheVariants as within
use Rattle.ssq_check.specs.Fault.{Faults}
use Rattle.ssq_check.specs.Scope.{column_kind}
use Rattle.ssq_check.specs.Rules.{operands_of, operator_kind, unary_kind, aggregate_kind, between_kind, divides, is_shift, together, kind}

abbrev pub Nothing : Faults
Nothing cause at = ⊥

abbrev pub Either : Faults → Faults → Faults
Either P Q cause at = P cause at ⊎ Q cause at

-- the rule of this cause, broken at this place where this holds
abbrev pub Rule : Cause → ℕ → Type 0 → Faults
Rule own place broken cause at = (cause ≡ own) × (at ≡ place) × broken

-- a fault that was found in looking a name up
abbrev pub Told : {A : Type 0} → Result A BindFault → Faults
Told (Ok a) cause at = ⊥
Told (Err f) cause at = (cause ≡ f.cause) × (at ≡ f.at)

-- P of the types of operands, where none of them has a fault
abbrev pub Of_one : {A : Type 0} → (A → Type 0) → Option A → Type 0
Of_one P None = ⊥
Of_one P (Some a) = P a

abbrev pub IsRow : Within → Type 0
IsRow within.Row = Unit {0}
IsRow within.Group = ⊥

-- AggregateHere: an aggregate stands where none may, and its argument has no fault
-- WrongType: the operands are not of the types that the operator or function asks for
-- BadDivisor: the right side is no divisor
abbrev pub AggregateFaults : Within → (ColType → Option ColType) → ℕ → Option ColType → Faults
AggregateFaults w f at argument =
    Either (Rule cause.WrongType at (Of_one (λ a. f a ≡ None) argument)) (Rule cause.AggregateHere at (IsRow w × Of_one (λ a. Unit {0}) argument))

abbrev pub UnaryFaults : (ColType → Option ColType) → ℕ → Option ColType → Faults
UnaryFaults f at operand = Rule cause.WrongType at (Of_one (λ a. f a ≡ None) operand)

abbrev pub BinaryFaults : BinaryOp → ℕ → Bool → ℕ → Option (ColType × ColType) → Faults
BinaryFaults o at divides right_at operands =
    Either (Rule cause.WrongType at (Of_one (λ pair. operator_kind (operands_of o) pair.0 pair.1 ≡ None) operands)) (Rule cause.BadDivisor right_at ((divides ≡ false) × Of_one (λ pair. Unit {0}) operands))

abbrev pub BetweenFaults : ℕ → Option ((ColType × ColType) × ColType) → Faults
BetweenFaults at operands = Rule cause.WrongType at (Of_one (λ triple. between_kind triple.0.0 triple.0.1 triple.1 ≡ None) operands)

-- a span after a time breaks no rule
abbrev pub Operated : Bool → Faults → Faults → Faults → Faults
Operated true Left Right Own cause at = Left cause at
Operated false Left Right Own cause at = Either (Either Left Right) Own cause at

-- the faults of an expression, with those of its parts
unfoldable pub FaultsIn : Scope → Within → Expr → Faults
FaultsIn scope w (expr.Number n at) = Nothing
FaultsIn scope w (expr.Text text at) = Nothing
FaultsIn scope w (expr.Truth truth at) = Nothing
FaultsIn scope w (expr.Timestamp moment at) = Nothing
FaultsIn scope w (expr.Interval span at) = Rule cause.WrongType at (Unit {0})
FaultsIn scope w (expr.Column column) = Told (column_kind scope w column)
FaultsIn scope w (expr.CountRows at) = Rule cause.AggregateHere at (IsRow w)
FaultsIn scope w (expr.Aggregate' f at p (only x)) =
    Either (FaultsIn scope within.Row x) (AggregateFaults w (aggregate_kind f) at (kind scope within.Row x))
FaultsIn scope w (expr.Unary' o at p (only x)) =
    Either (FaultsIn scope w x) (UnaryFaults (unary_kind o) at (kind scope w x))
FaultsIn scope w (expr.IsNull' p (only x) at test) = FaultsIn scope w x
FaultsIn scope w (expr.Binary' left_at p (only a) o at right_at q (only b)) =
    Operated (is_shift o (kind scope w a) b) (FaultsIn scope w a) (FaultsIn scope w b)
    (BinaryFaults o at (divides o b) right_at (together (kind scope w a) (kind scope w b)))
FaultsIn scope w (expr.Between' p (only a) at q (only b) r (only c)) =
    Either (Either (Either (FaultsIn scope w a) (FaultsIn scope w b)) (FaultsIn scope w c))
    (BetweenFaults at (together (together (kind scope w a) (kind scope w b)) (kind scope w c)))
