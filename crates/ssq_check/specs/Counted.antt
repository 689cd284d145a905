-- Places that are counted: the first, and the one that is one too many.
use Rattle.std.specs.Prelude.{◌≡◌, ℕ, ◌-◌, if◌then◌else◌, nat_le, List, ◌++◌, length, slice_get, Some, None}
use Rattle.ssq_check.specs.declared.tally.Tally.{Tally}

-- What is counted of these places, of which there may be so many: the first; how many more there may be, as long as there are not too many; and
-- the one that is one too many.
abbrev pub tally_of : ℕ → List ℕ → Tally
tally_of most places = record { first = slice_get places 0; more = if nat_le (length places) most then Some (most - length places) else None; past = slice_get places most }

-- These places come after all that were counted.
abbrev pub Counts : Tally → List ℕ → Tally → Type 0
Counts old places new = (most : ℕ) (before : List ℕ) → old ≡ tally_of most before → new ≡ tally_of most (before ++ places)
