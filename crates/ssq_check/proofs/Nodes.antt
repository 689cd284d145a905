-- Each part of an expression: what is found of it is its type, or the first of its faults.
use Rattle.std.proofs.Common.{◌≡◌, inr, sym, refl, arith, ℕ, Bool, true, false, Option, Some, None, Result, Ok, Err}
use Rattle.std.specs.Prelude.{if◌then◌else◌}
use Rattle.ssq_value.specs.declared.column.ColType.{ColType}
use Rattle.ssq_check.specs.declared.fault.Cause.{Cause}
use Rattle.ssq_check.specs.declared.fault.Cause.TheVariants as cause
use Rattle.ssq_check.specs.declared.fault.BindFault.{BindFault}
use Rattle.ssq_check.specs.declared.scope.Within.{Within}
use Rattle.ssq_check.specs.declared.scope.Within.TheVariants as within
use Rattle.ssq_check.specs.Fault.{both, Faults, AreNone, IsFirst, IsNoLater, Answers}
use Rattle.ssq_check.specs.Broken.{Either, Rule, Told, IsRow}
use Rattle.ssq_check.specs.Rules.{may_stand, type_of, together, if_divides}
use Rattle.ssq_check.specs.Checked.{Checked, one_or, only_here, divided, first_of}
use Rattle.ssq_check.proofs.First.{first_left, first_both, none_either, both_answers}

-- a rule that is broken is the first of itself
pub first_rule : (own : Cause) (at : ℕ) (Broken : Type 0) → Broken → IsFirst (Rule own at Broken) (record { at = at; cause = own })
first_rule own at Broken broken = record { is = (refl, refl, broken); least = least }
  where
    least : (c : Cause) (place : ℕ) → Rule own at Broken c place → IsNoLater (record { at = at; cause = own }) c place
    least c place r = inr (sym r.1, rw r.0 (omega arith))

pub no_rule : (own : Cause) (at : ℕ) (Broken : Type 0) → (Broken → ⊥) → AreNone (Rule own at Broken)
no_rule own at Broken never c place r = never r.2

some_none : {A B : Type 0} (a : A) → Some a ≡ None → B
some_none a is = absurd cc

pub first_told : (f : BindFault) → IsFirst (λ c at. (c ≡ f.cause) × (at ≡ f.at)) f
first_told f = record { is = (refl, refl); least = λ c at r. inr (sym r.1, rw r.0 (omega arith)) }

pub told_answers : (r : Checked) → Answers (Told r) (type_of r) r
told_answers (Ok kind) = (refl, λ c at never. never)
told_answers (Err f) = (refl, first_told f)

pub one_answers : (k : Option ColType) (own : Cause) (at : ℕ) → Answers (Rule own at (k ≡ None)) k (one_or k own at)
one_answers (Some kind) own at = (refl, no_rule own at (Some kind ≡ None) (some_none kind))
one_answers None own at = (refl, first_rule own at (None ≡ None) refl)

pub rows_answers : (w : Within) (at : ℕ) (kind : ColType) → Answers (Rule cause.AggregateHere at (IsRow w)) (may_stand w (Some kind)) (only_here w at (Ok kind))
rows_answers within.Row at kind = (refl, first_rule cause.AggregateHere at (IsRow within.Row) tt)
rows_answers within.Group at kind = (refl, no_rule cause.AggregateHere at (IsRow within.Group) (λ never. never))

pub aggregate_answers : (w : Within) (k : Option ColType) (at : ℕ)
    → Answers (Either (Rule cause.WrongType at (k ≡ None)) (Rule cause.AggregateHere at (IsRow w × Unit {0}))) (may_stand w k) (only_here w at (one_or k cause.WrongType at))
aggregate_answers within.Group (Some kind) at = (refl, none_either _ _ (no_rule cause.WrongType at (Some kind ≡ None) (some_none kind)) (no_rule cause.AggregateHere at (⊥ × Unit {0}) (λ never. never.0)))
aggregate_answers within.Group None at = (refl, first_left _ _ _ (first_rule cause.WrongType at (None ≡ None) refl) (no_rule cause.AggregateHere at (⊥ × Unit {0}) (λ never. never.0)))
aggregate_answers within.Row (Some kind) at = (refl, Rattle.ssq_check.proofs.First.first_right _ _ _ (no_rule cause.WrongType at (Some kind ≡ None) (some_none kind)) (first_rule cause.AggregateHere at (Unit {0} × Unit {0}) (tt, tt)))
aggregate_answers within.Row None at = (refl, first_both _ _ _ _ (first_rule cause.WrongType at (None ≡ None) refl) (first_rule cause.AggregateHere at (Unit {0} × Unit {0}) (tt, tt)))

abbrev unit_if : Bool → Option (Unit {0})
unit_if b = if b then Some tt else None

divided_answers : (divides : Bool) (at : ℕ) → Answers (Rule cause.BadDivisor at ((divides ≡ false) × Unit {0})) (unit_if divides) (divided divides at)
divided_answers true at = (refl, no_rule cause.BadDivisor at ((true ≡ false) × Unit {0}) (λ never. absurd (cc (never.0))))
divided_answers false at = (refl, first_rule cause.BadDivisor at ((false ≡ false) × Unit {0}) (refl, tt))

first_answers : (P : Faults) (k : Option ColType) (divides : Bool) (r : Result (ColType × Unit {0}) BindFault) → Answers P (together k (unit_if divides)) r → Answers P (if_divides divides k) (first_of r)
first_answers P (Some kind) true (Ok pair) h = ((λ i. Rattle.std.specs.Option.option_map (λ (p : ColType × Unit {0}). p.0) (h.0 i)), h.1)
first_answers P (Some kind) false (Ok pair) h = some_none _ (sym h.0)
first_answers P None true (Ok pair) h = some_none _ (sym h.0)
first_answers P None false (Ok pair) h = some_none _ (sym h.0)
first_answers P (Some kind) true (Err f) h = some_none _ h.0
first_answers P (Some kind) false (Err f) h = (refl, h.1)
first_answers P None true (Err f) h = (refl, h.1)
first_answers P None false (Err f) h = (refl, h.1)

pub operator_answers : (k : Option ColType) (at : ℕ) (divides : Bool) (right_at : ℕ)
    → Answers (Either (Rule cause.WrongType at (k ≡ None)) (Rule cause.BadDivisor right_at ((divides ≡ false) × Unit {0}))) (if_divides divides k) (first_of (both (one_or k cause.WrongType at) (divided divides right_at)))
operator_answers k at divides right_at =
    first_answers _ k divides _ (both_answers (Rule cause.WrongType at (k ≡ None)) (Rule cause.BadDivisor right_at ((divides ≡ false) × Unit {0})) k (unit_if divides) (one_or k cause.WrongType at) (divided divides right_at) (one_answers k cause.WrongType at) (divided_answers divides right_at))
