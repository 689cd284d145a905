-- Groups that are kept, as a list.
use Rattle.std.specs.Prelude.{◌≡◌, ℤ, Bool, true, false, if◌then◌else◌, List, map, Option, Some, None, is_some}
use Rattle.std.specs.List.{AllByRecursion}
use Rattle.ssq_meaning.specs.declared.total.Total.{Total}
use Rattle.ssq_meaning.specs.GroupLaws.{times}
use Rattle.ssq_meaning.specs.Meaning.{Values}
use Rattle.ssq_meaning.specs.Times.{is_past}
use Rattle.ssq_agg.specs.declared.kept.Group.{Group}
use Rattle.ssq_agg.specs.Groups.{Held}

-- the groups with such keys: each once, no others, with the totals that are kept
pub record AreThose (held : Held) (is_one : Values → Bool) (groups : List Group) : Type 0 where
  pub each : AllByRecursion (λ (group : Group). (held group.key ≡ Some group.totals) × (is_one group.key ≡ true)) groups
  pub once : (key : Values) → times key (map (λ (group : Group). group.key) groups) ≡ (if is_one key then 1 else 0)

-- those that are kept and whose time is past
abbrev pub is_ended : Option ℤ → Option ℤ → Option (List Total) → Bool
is_ended now time None = false
is_ended now time (Some totals) = is_past now time

abbrev pub AreClosed : Held → (Values → Option ℤ) → Option ℤ → List Group → Type 0
AreClosed held time now groups = AreThose held (λ key. is_ended now (time key) (held key)) groups

-- all that are kept
abbrev pub AreAll : Held → List Group → Type 0
AreAll held groups = AreThose held (λ key. is_some (held key)) groups
