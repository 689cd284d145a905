-- The step of an epoch, of any operator.
use Rattle.std.specs.Prelude.{◌≡◌, ◌++◌, ⊤, ℤ, List, Option, Some, None}
use Rattle.std.specs.List.Sorted.{IsPermutation}
use Rattle.ssq_version.specs.State.{State, IsAfter}
use Rattle.ssq_meaning.specs.FedRows.{FedRow}
use Rattle.ssq_meaning.specs.Operator.{Operator}
use Rattle.ssq_step.specs.declared.fault.StepFault.{StepFault}
use Rattle.ssq_step.specs.declared.fault.StepFault.TheVariants.{Overflow, NoMemory}
use Rattle.ssq_step.specs.declared.stepped.Stepped.{Stepped}

-- Its change leads from the state over the rows before to the state over these rows too, at the new watermark; it shows the epoch's rows, as
-- a bag; and no key overflows.
pub record IsStep (operator : Operator) (state : State) (old new : List FedRow) (before now : Option ℤ) (stepped : Stepped) : Type 0 where
  pub leads : IsAfter stepped.change state (operator.state (old ++ new) now)
  pub shown : IsPermutation stepped.rows.items (operator.added old new before now)
  pub faultless : operator.fault old new before now ≡ None

-- it shows nothing because the epoch overflows on this key, the least, or because memory ran out
abbrev pub IsCause : Operator → (old new : List FedRow) → (before now : Option ℤ) → StepFault → Type 0
IsCause operator old new before now (Overflow key) = operator.fault old new before now ≡ Some key
IsCause operator old new before now NoMemory = ⊤
