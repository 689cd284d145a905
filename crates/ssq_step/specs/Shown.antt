-- What an epoch shows so far.
use Rattle.std.specs.Prelude.{◌≡◌, List, All, Option, Some}
use Rattle.ssq_time.specs.Time.{IsStampTime}
use Rattle.ssq_value.specs.Kind.{IfTime}
use Rattle.ssq_meaning.specs.Meaning.{Values}
use Rattle.ssq_step.specs.declared.fault.StepFault.{StepFault}
use Rattle.ssq_step.specs.declared.fault.StepFault.TheVariants.{Overflow, NoMemory}

-- each time of each row is one that can be printed
abbrev pub ArePrintable : List Values → Type 0
ArePrintable rows = All (All (IfTime IsStampTime)) rows

-- nothing is shown because this is the least key that overflows
abbrev pub IsExcess : (least : Option Values) → StepFault → Type 0
IsExcess least (Overflow key) = least ≡ Some key
IsExcess least NoMemory = ⊥
