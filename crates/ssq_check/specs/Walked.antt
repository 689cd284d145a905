-- What is met on the way through ON.
use Rattle.std.specs.Prelude.{◌≡◌, Bool, true, false, ◌||◌, List, Option, Some, None}
use Rattle.std.specs.List.{list_any}
use Rattle.ssq_check.specs.declared.fault.BindFault.{BindFault}
use Rattle.ssq_check.specs.declared.joined.Walk.{Walk}
use Rattle.ssq_check.specs.declared.scope.Scope.{Scope}
use Rattle.ssq_check.specs.Broken.{Either}
use Rattle.ssq_check.specs.Counted.{Counts}
use Rattle.ssq_check.specs.Fault.{Faults, FirstOf}
use Rattle.ssq_check.specs.Lists.{Each}
use Rattle.ssq_check.specs.Joined.{Conjunct, is_between, key_places, StrayFaults, StraysAmong, betweens}

-- the fault that was met, if one was
abbrev pub Met : Option BindFault → Faults
Met None cause at = ⊥
Met (Some fault) cause at = (cause ≡ fault.cause) × (at ≡ fault.at)

-- of some BETWEENs, those that may not stand where they are, after another one or not
abbrev pub MoreStrays : Scope → Bool → List Conjunct → Faults
MoreStrays scope true = Each (StrayFaults scope true)
MoreStrays scope false = StraysAmong scope

-- the BETWEENs among these parts that may not stand there, after parts with a BETWEEN or without
abbrev pub BoundFaultsAfter : Scope → Bool → List Conjunct → Faults
BoundFaultsAfter scope seen parts = MoreStrays scope seen (betweens parts)

-- These parts come after all that were met: whether a BETWEEN was met, the key equalities, and the first BETWEEN that may not stand there.
pub record Meets (scope : Scope) (old : Walk) (parts : List Conjunct) (new : Walk) : Type 0 where
  pub seen : new.seen ≡ (old.seen || list_any (λ part. is_between part.value) parts)
  pub keys : Counts old.keys (key_places scope parts) new.keys
  pub bound : FirstOf (Either (Met old.bound) (BoundFaultsAfter scope old.seen parts)) new.bound
