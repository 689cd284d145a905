-- An event column is one of the columns.
use Rattle.std.proofs.Common.{ℕ, zero, suc, ◌<◌, List, [], ◌∷◌, length, Option, Some, None, IfSome, refl, arith}
use Rattle.std.specs.Option.{ForSome}
use Rattle.ssq_value.specs.declared.column.Column.{Column}
use Rattle.ssq_value.specs.Layout.{IsEvent}

event_within : (columns : List Column) (at : ℕ) → IsEvent columns at → at < length columns
event_within [] at is = absurd cc
event_within (column ∷ columns) zero is = omega arith
event_within (column ∷ columns) (suc at) is = omega (arith, event_within columns at is)

pub events_within : (columns : List Column) (event : Option ℕ) → ForSome event (IsEvent columns) → IfSome event (λ at. at < length columns)
events_within columns None is = tt
events_within columns (Some at) is = event_within columns at (is at refl)
