-- A key that overflows is a cause for a step to show nothing, and the least of such keys.
use Rattle.std.proofs.Common.{◌≡◌, ℤ, Bool, List, Option, Some, refl, ap, sym, ◌∙◌}
use Rattle.std.specs.Prelude.{if◌then◌else◌}
use Rattle.std.specs.declared.cmp.Ordering.{Ordering}
use Rattle.std.specs.declared.cmp.Ordering.TheVariants.{Less, Equal, Greater}
use Rattle.std.specs.Ordering.{is_gt, is_lt}
use Rattle.ssq_value.specs.Order.{values_cmp}
use Rattle.ssq_value.specs.OrderLaws.{values_cmp_exact}
use Rattle.ssq_meaning.specs.FedRows.{FedRow}
use Rattle.ssq_meaning.specs.Group.{lesser_key}
use Rattle.ssq_meaning.specs.Meaning.{Values}
use Rattle.ssq_meaning.specs.Operator.{Operator}
use Rattle.ssq_step.specs.declared.fault.StepFault.{StepFault}
use Rattle.ssq_step.specs.declared.fault.StepFault.TheVariants.{Overflow, NoMemory}
use Rattle.ssq_step.specs.Shown.{IsExcess}
use Rattle.ssq_step.specs.Steps.{IsCause}

pub excess_is_cause : (operator : Operator) (old new : List FedRow) (before now : Option ℤ) (least : Option Values) (fault : StepFault) → least ≡ operator.fault old new before now → IsExcess least fault → IsCause operator old new before now fault
excess_is_cause operator old new before now least (Overflow key) same excess = sym same ∙ excess
excess_is_cause operator old new before now least NoMemory same excess = tt

-- one key more is the least where it is less than the least so far: of two that tie either is, since they are the same
pub less_is_least : (key other : Values) (least : Option Values) (less : Bool) → least ≡ Some other → less ≡ is_lt (values_cmp key other) → Some (lesser_key key least) ≡ (if less then Some key else least)
less_is_least key other least less there is =
    ap (λ (l : Option Values). Some (lesser_key key l)) there ∙ by (values_cmp key other) refl ∙ (λ i. if sym is i then Some key else sym there i)
  where
    by : (order : Ordering) → values_cmp key other ≡ order → Some (if is_gt order then other else key) ≡ (if is_lt order then Some key else Some other)
    by Less is = refl
    by Equal tie = ap (λ (k : Values). Some k) (values_cmp_exact key other tie)
    by Greater is = refl
