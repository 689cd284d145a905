-- Faults, and which of them comes first.
use Rattle.std.specs.Prelude.{◌≡◌, ◌⊎◌, ℕ, ◌<◌, ◌≤◌, Bool, ◌&&◌, ◌||◌, nat_lt, nat_eq, if◌then◌else◌, Option, Some, None, Result, Ok, Err}
use Rattle.ssq_check.specs.declared.fault.Cause.{Cause}
use Rattle.ssq_check.specs.declared.fault.Cause.TheVariants as cause
use Rattle.ssq_check.specs.declared.fault.BindFault.{BindFault}

-- the order of causes
abbrev pub rank : Cause → ℕ
rank cause.UnknownName = 0
rank cause.DoubleName = 1
rank cause.WrongType = 2
rank cause.BadDivisor = 3
rank cause.NotGrouped = 4
rank cause.AggregateHere = 5
rank cause.TooMany = 6
rank cause.BadBound = 7
rank cause.BadWindow = 8
rank cause.TwoStateful = 9
rank cause.Distinct = 10
rank cause.Limit = 11

-- by the place, and at one place by the order of causes
abbrev pub precedes : BindFault → BindFault → Bool
precedes f g = nat_lt f.at g.at || (nat_eq f.at g.at && nat_lt (rank f.cause) (rank g.cause))

abbrev pub earlier : BindFault → BindFault → BindFault
earlier f g = if precedes g f then g else f

-- the first of two faults, where there are any
abbrev pub sooner : Option BindFault → Option BindFault → Option BindFault
sooner None b = b
sooner (Some f) None = Some f
sooner (Some f) (Some g) = Some (earlier f g)

-- two parts: both values, or the first of the faults
abbrev pub both : {A B : Type 0} → Result A BindFault → Result B BindFault → Result (A × B) BindFault
both (Ok a) (Ok b) = Ok (a, b)
both (Ok a) (Err g) = Err g
both (Err f) (Ok b) = Err f
both (Err f) (Err g) = Err (earlier f g)

-- which rules are broken, and where
abbrev pub Faults : Type 1
Faults = Cause → ℕ → Type 0

abbrev pub IsNoLater : BindFault → Cause → ℕ → Type 0
IsNoLater f cause at = (f.at < at) ⊎ ((f.at ≡ at) × (rank f.cause ≤ rank cause))

-- no rule is broken
abbrev pub AreNone : Faults → Type 0
AreNone faults = (cause : Cause) (at : ℕ) → faults cause at → ⊥

-- this is one of the faults, and none of them stands before it, or at its place with an earlier cause
pub record IsFirst (faults : Faults) (f : BindFault) : Type 0 where
  pub is : faults f.cause f.at
  pub least : (cause : Cause) (at : ℕ) → faults cause at → IsNoLater f cause at

-- the value, where there is no fault; else the first fault
abbrev pub Answers : {A : Type 0} → Faults → Option A → Result A BindFault → Type 0
Answers faults value (Ok a) = (value ≡ Some a) × AreNone faults
Answers faults value (Err f) = (value ≡ None) × IsFirst faults f

-- the first of the faults, where there is one
abbrev pub FirstOf : Faults → Option BindFault → Type 0
FirstOf faults None = AreNone faults
FirstOf faults (Some f) = IsFirst faults f
