-- Times, each with the bytes of a key.
use Rattle.std.specs.Prelude.{ℤ, ℕ, Bool, false, List, Option, Some, None}
use Rattle.std.specs.declared.cmp.Ordering.{Ordering}
use Rattle.std.specs.BTreeMap.{is_at}
use Rattle.std.specs.List.{list_any}
use Rattle.std.specs.Ordering.{int_cmp, is_eq, ordering_then}
use Rattle.ssq_version.specs.State.{by_bytes}

-- a time, with the bytes of a key
abbrev pub Timed : Type 0
Timed = ℤ × List ℕ

-- the lesser time first
abbrev pub by_time : Timed → Timed → Ordering
by_time left right = ordering_then (int_cmp left.0 right.0) (by_bytes left.1 right.1)

abbrev pub has : List Timed → Timed → Bool
has entries entry = list_any (is_at (by_time entry)) entries

abbrev pub is_time : ℤ → Option ℤ → Bool
is_time t None = false
is_time t (Some time) = is_eq (int_cmp time t)
