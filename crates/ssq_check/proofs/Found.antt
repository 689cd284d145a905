-- What is found of an expression is its type, or the first of its faults.
use Rattle.std.proofs.Common.{◌≡◌, sym, ap, refl, Bool, true, false, ◌&&◌, Option, Some, None, Ok, Err}
use Rattle.std.specs.Prelude.{if◌then◌else◌}
use Rattle.ssq_value.specs.declared.column.ColType.{ColType}
use Rattle.ssq_value.specs.declared.column.ColType.TheVariants as type
use Rattle.ssq_shape.specs.Kinds.{is_kind}
use Rattle.ssq_ast.specs.declared.expr.Expr.{Expr}
use Rattle.ssq_ast.specs.declared.expr.Expr.TheVariants as expr
use Rattle.ssq_ast.specs.Expression.{only}
use Rattle.ssq_check.specs.declared.fault.Cause.TheVariants as cause
use Rattle.ssq_check.specs.declared.scope.Scope.{Scope}
use Rattle.ssq_check.specs.declared.scope.Within.{Within}
use Rattle.ssq_check.specs.declared.scope.Within.TheVariants as within
use Rattle.ssq_check.specs.Fault.{both, Faults, AreNone, Answers}
use Rattle.ssq_check.specs.Scope.{column_kind}
use Rattle.ssq_check.specs.Broken.{Nothing, Either, Operated, UnaryFaults, AggregateFaults, BinaryFaults, BetweenFaults, FaultsIn}
use Rattle.ssq_check.specs.Rules.{operands_of, operator_kind, unary_kind, aggregate_kind, between_kind, divides, is_sum, is_interval, may_stand, of_one, if_divides, together, type_of, kind}
use Rattle.ssq_check.specs.Checked.{Checked, one_or, only_here, first_of, divided, binary_checked, is_time, checked}
use Rattle.ssq_check.proofs.First.{node, both_answers}
use Rattle.ssq_check.proofs.Nodes.{first_rule, told_answers, one_answers, rows_answers, aggregate_answers, operator_answers}

no_faults : AreNone Nothing
no_faults c at never = never

time_is : (P : Faults) (v : Option ColType) (r : Checked) → Answers P v r → is_kind type.Timestamp v ≡ is_time r
time_is P v (Ok type.Bigint) h = ap (is_kind type.Timestamp) h.0
time_is P v (Ok type.Str) h = ap (is_kind type.Timestamp) h.0
time_is P v (Ok type.Timestamp) h = ap (is_kind type.Timestamp) h.0
time_is P v (Ok type.Bool) h = ap (is_kind type.Timestamp) h.0
time_is P v (Err f) h = ap (is_kind type.Timestamp) h.0

-- what is a time has no fault
time_free : (P : Faults) (v : Option ColType) (r : Checked) → Answers P v r → is_time r ≡ true → AreNone P
time_free P v (Ok kind) h is = h.1
time_free P v (Err f) h is = absurd (cc)

third : (a b c : Bool) → (a && b && c) ≡ true → c ≡ true
third true true c is = is
third true false c is = absurd (cc)
third false b c is = absurd (cc)

if_none : (d : Bool) → if_divides d None ≡ None
if_none true = refl
if_none false = refl

null_answers : (P : Faults) (v : Option ColType) (r : Checked) → Answers P v r → Answers P (of_one (λ own. Some type.Bool) v) (Rattle.ssq_check.specs.Checked.null_checked r)
null_answers P v (Ok k) h = (ap (of_one (λ own. Some type.Bool)) h.0, h.1)
null_answers P v (Err f) h = (ap (of_one (λ own. Some type.Bool)) h.0, h.1)

may_none : (w : Within) → may_stand w None ≡ None
may_none within.Row = refl
may_none within.Group = refl

-- an operator with two operands, of which the right one is a span after a time or not
operated : (A B Own : Faults) (shift shifted : Bool) (value : Option ColType) (r : Checked) → shift ≡ shifted → (shifted ≡ true → AreNone A) → Answers (Either (Either A B) Own) value r
    → Answers (Operated shift A B Own) (if shift then Some type.Timestamp else value) (if shifted then Ok type.Timestamp else r)
operated A B Own true true value r same free h = (refl, free refl)
operated A B Own true false value r same free h = absurd (cc)
operated A B Own false true value r same free h = absurd (cc)
operated A B Own false false value r same free h = h

pub found : (scope : Scope) (w : Within) (e : Expr) → Answers (FaultsIn scope w e) (kind scope w e) (checked scope w e)
unfolding FaultsIn kind checked
found scope w (expr.Number n at) = (refl, no_faults)
found scope w (expr.Text text at) = (refl, no_faults)
found scope w (expr.Truth truth at) = (refl, no_faults)
found scope w (expr.Timestamp moment at) = (refl, no_faults)
found scope w (expr.Interval span at) = (refl, first_rule cause.WrongType at (Unit {0}) tt)
found scope w (expr.Column column) = told_answers (column_kind scope w column)
found scope w (expr.CountRows at) = rows_answers w at type.Bigint
found scope w (expr.Aggregate' f at p (only x)) =
    node (FaultsIn scope within.Row x) (AggregateFaults w (aggregate_kind f) at) (λ v. may_stand w (of_one (aggregate_kind f) v)) (kind scope within.Row x) (checked scope within.Row x)
    (λ k. only_here w at (one_or (aggregate_kind f k) cause.WrongType at)) (found scope within.Row x) (λ k. aggregate_answers w (aggregate_kind f k) at)
    (Rattle.ssq_check.proofs.First.none_either _ _ (λ c place r. r.2) (λ c place r. r.2.1)) (may_none w)
found scope w (expr.Unary' o at p (only x)) =
    node (FaultsIn scope w x) (UnaryFaults (unary_kind o) at) (of_one (unary_kind o)) (kind scope w x) (checked scope w x)
    (λ k. one_or (unary_kind o k) cause.WrongType at) (found scope w x) (λ k. one_answers (unary_kind o k) cause.WrongType at) (λ c place r. r.2) refl
found scope w (expr.IsNull' p (only x) at test) = null_answers (FaultsIn scope w x) (kind scope w x) (checked scope w x) (found scope w x)
found scope w (expr.Binary' left_at p (only a) o at right_at q (only b)) =
    let left = found scope w a in
    let right = found scope w b in
    operated (FaultsIn scope w a) (FaultsIn scope w b) (BinaryFaults o at (divides o b) right_at (together (kind scope w a) (kind scope w b))) _ _ _ _
    (ap (λ t. is_sum o && is_interval b && t) (time_is (FaultsIn scope w a) (kind scope w a) (checked scope w a) left))
    (λ is. time_free (FaultsIn scope w a) (kind scope w a) (checked scope w a) left (third (is_sum o) (is_interval b) (is_time (checked scope w a)) is))
    (node (Either (FaultsIn scope w a) (FaultsIn scope w b)) (BinaryFaults o at (divides o b) right_at) (λ v. if_divides (divides o b) (of_one (λ (pair : ColType × ColType). operator_kind (operands_of o) pair.0 pair.1) v))
    (together (kind scope w a) (kind scope w b)) (both (checked scope w a) (checked scope w b))
    (λ pair. first_of (both (one_or (operator_kind (operands_of o) pair.0 pair.1) cause.WrongType at) (divided (divides o b) right_at)))
    (both_answers (FaultsIn scope w a) (FaultsIn scope w b) (kind scope w a) (kind scope w b) (checked scope w a) (checked scope w b) left right)
    (λ pair. operator_answers (operator_kind (operands_of o) pair.0 pair.1) at (divides o b) right_at)
    (Rattle.ssq_check.proofs.First.none_either _ _ (λ c place r. r.2) (λ c place r. r.2.1)) (if_none (divides o b)))
found scope w (expr.Between' p (only a) at q (only b) r (only c)) =
    let first = both_answers (FaultsIn scope w a) (FaultsIn scope w b) (kind scope w a) (kind scope w b) (checked scope w a) (checked scope w b) (found scope w a) (found scope w b) in
    let all = both_answers (Either (FaultsIn scope w a) (FaultsIn scope w b)) (FaultsIn scope w c) (together (kind scope w a) (kind scope w b)) (kind scope w c) (both (checked scope w a) (checked scope w b)) (checked scope w c) first (found scope w c) in
    node (Either (Either (FaultsIn scope w a) (FaultsIn scope w b)) (FaultsIn scope w c)) (BetweenFaults at) (of_one (λ (triple : (ColType × ColType) × ColType). between_kind triple.0.0 triple.0.1 triple.1))
    (together (together (kind scope w a) (kind scope w b)) (kind scope w c)) (both (both (checked scope w a) (checked scope w b)) (checked scope w c))
    (λ triple. one_or (between_kind triple.0.0 triple.0.1 triple.1) cause.WrongType at) all (λ triple. one_answers (between_kind triple.0.0 triple.0.1 triple.1) cause.WrongType at) (λ c place r. r.2) refl

pub type_found : (P : Faults) (v : Option ColType) (r : Checked) → Answers P v r → type_of r ≡ v
type_found P v (Ok k) h = sym h.0
type_found P v (Err f) h = sym h.0
