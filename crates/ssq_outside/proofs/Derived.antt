-- The derived equality and order of names are those of the contracts.
use Rattle.std.proofs.Common.{◌≡◌, ◌∙◌, ◌&&◌, ◌||◌, Bool, true, false, Some, cond, refl, sym}
use Rattle.std.specs.Bool.{Decides}
use Rattle.std.specs.declared.cmp.Ordering.TheVariants.{Less, Equal, Greater}
use Rattle.std.specs.Ordering.{is_lt, is_some_and, partial_lt, partial_ordering_then}
use Rattle.ssq_outside.specs.declared.name.Name.{Name}
use Rattle.ssq_outside.specs.declared.name.Name.TheVariants.{Meta, Plan, Commit, Out, Delta, Snapshot}
use Rattle.ssq_outside.specs.Files.{same_name, name_before}
use Rattle.ssq_outside.specs.contracts.name.NamePartialEq.TheImpl.{eq-value}
use Rattle.ssq_outside.specs.contracts.name.NamePartialOrd.TheImpl.{partial_cmp-value}
use Rattle.ssq_outside.proofs.Names.{same_name-true, same_name-same}

pub same_derived : (m n : Name) → eq-value.it m n ≡ same_name m n
same_derived Meta Meta = refl
same_derived (Plan e) (Plan f) = refl
same_derived (Commit e) (Commit f) = refl
same_derived (Out e) (Out f) = refl
same_derived (Delta p v) (Delta q w) = refl
same_derived (Snapshot p v) (Snapshot q w) = refl
same_derived _ _ = refl

-- by one number: it is less, or it is the same
by_one : (less same : Bool) → is_lt (cond less Less (cond same Equal Greater)) ≡ (less || (same && false))
by_one true same = refl
by_one false true = refl
by_one false false = refl

-- by one number, and then by another
by_two : (less same next_less next_same : Bool)
    → is_some_and is_lt (partial_ordering_then (Some (cond less Less (cond same Equal Greater))) (Some (cond next_less Less (cond next_same Equal Greater)))) ≡ (less || (same && next_less))
by_two true same next_less next_same = refl
by_two false true true next_same = refl
by_two false true false true = refl
by_two false true false false = refl
by_two false false next_less next_same = refl

pub before_derived : (m n : Name) → partial_lt partial_cmp-value.it m n ≡ name_before m n
before_derived Meta Meta = refl
before_derived (Plan e) (Plan f) = by_one _ _
before_derived (Commit e) (Commit f) = by_one _ _
before_derived (Out e) (Out f) = by_one _ _
before_derived (Delta p v) (Delta q w) = by_two _ _ _ _
before_derived (Snapshot p v) (Snapshot q w) = by_two _ _ _ _
before_derived _ _ = refl

-- the derived equality decides whether two names are one
pub decides_same : (m n : Name) → Decides (eq-value.it m n) (m ≡ n)
decides_same m n = (
  (λ is. same_name-true m n (sym (same_derived m n) ∙ is)),
  (λ is. same_derived m n ∙ rw is (same_name-same n)),
)
