-- How a state keeps its entries.
use Rattle.std.specs.Prelude.{ℕ, List, map, reverse}
use Rattle.std.specs.Borrow.{Bor}
use Rattle.std.specs.Map.Iter.{deref_pair}
use Rattle.ssq_version.specs.State.{State, in_order}
use Rattle.ssq_version.specs.declared.map.Map.{Map}
use Rattle.ssq_version.specs.declared.map.Map.TheVariants.{Ordered, Hashed}
use Rattle.ssq_version.specs.declared.map.Left.{Left}
use Rattle.ssq_version.specs.declared.map.Left.TheVariants as left

-- the entries, in the order of keys
abbrev pub entries_in : Map → State
entries_in (Ordered map) = map.entries
entries_in (Hashed table) = in_order table.entries

-- entries that are lent
abbrev pub shown : List (Bor (List ℕ) × Bor (List ℕ)) → State
shown entries = map deref_pair entries

-- entries that are lent one after the other
abbrev pub entries_left : Left → State
entries_left (left.Ordered entries) = entries
entries_left (left.Listed entries) = shown (reverse entries.items)
