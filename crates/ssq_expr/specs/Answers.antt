-- How a call's answer stands to what is meant.
use Rattle.std.specs.Prelude.{◌≡◌, ⊤, Result, Ok, Err}
use Rattle.ssq_shape.specs.Evaluation.{Overflow, overflow}
use Rattle.ssq_expr.specs.declared.fault.EvalFault.{EvalFault}
use Rattle.ssq_expr.specs.declared.fault.EvalFault.TheVariants as fault

-- A call answers what is meant, of which it is told how its own values are seen; or that memory ran out.
abbrev pub Answers : {A B : Type 0} → (A → B) → Result A EvalFault → Result B Overflow → Type 0
Answers seen (Ok value) meant = meant ≡ Ok (seen value)
Answers seen (Err fault.Overflow) meant = meant ≡ Err overflow
Answers seen (Err fault.NoMemory) meant = ⊤

-- a value is seen as itself
abbrev pub itself : {A : Type 0} → A → A
itself value = value
