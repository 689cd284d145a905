-- What dealing rows does to the buckets.
use Rattle.std.specs.Prelude.{◌≡◌, ℕ, ℤ, List, ◌++◌, map, length, All, Option, IsSomeAnd, slice_get, ◌∷◌, []}
use Rattle.ssq_value.specs.declared.value.Value.{Value}
use Rattle.ssq_shape.specs.declared.bound.Bound.{Bound}
use Rattle.ssq_meaning.specs.FedRows.{FedRow}
use Rattle.ssq_meaning.specs.Feeding.{Handed}
use Rattle.ssq_meaning.specs.Fit.{IsFitRow}
use Rattle.ssq_meaning.specs.Meaning.{Line, Values}
use Rattle.ssq_meaning.specs.Placed.{placed_time}
use Rattle.ssq_meaning.specs.declared.place.KeyPlace.{KeyPlace}
use Rattle.ssq_feed.specs.declared.dealer.Origin.{Origin}
use Rattle.ssq_feed.specs.Rows.{GivesOf, dealt}

-- a row that is handed on, with the line that it is from
abbrev pub from_origin : Origin → Handed → FedRow
from_origin origin row =
    record { epoch = origin.epoch; stream = origin.stream; part = origin.part; offset = origin.offset; key = row.key; time = row.time; values = row.values }

-- what is handed on to the group of a key, whose time stands at the place
abbrev pub placed_member : Option KeyPlace → Values → Values → Handed
placed_member place arguments key = record { key = key; time = placed_time place key; values = arguments }

-- the row that goes to the group of a key, and those that go to the groups of these keys
abbrev pub member_row : Origin → Option KeyPlace → Values → Values → FedRow
member_row origin place arguments key = from_origin origin (placed_member place arguments key)

abbrev pub member_rows : Origin → Option KeyPlace → Values → List Values → List FedRow
member_rows origin place arguments keys = map (from_origin origin) (map (placed_member place arguments) keys)

-- After what was dealt before, these rows are dealt; a state can hold each of them.
pub record Deals (old new : List (List FedRow)) (rows : List FedRow) : Type 0 where
  pub len : length new ≡ length old
  pub behind : (before : List FedRow) → old ≡ dealt (length old) before → new ≡ dealt (length old) (before ++ rows)
  pub fit : All IsFitRow rows

-- What a line gives is dealt after what was dealt before; its row has this event time.
pub record HasDealt (query : Bound) (origin : Origin) (bytes : Line) (old new : List (List FedRow)) (time : Option ℤ) : Type 0 where
  pub rows : List Handed
  pub gives : GivesOf query origin.stream bytes time rows
  pub deals : Deals old new (map (from_origin origin) rows)

-- cells that go on with the nth of these values after their front
abbrev pub IsLonger : List Value → ℕ → (front longer : Values) → Type 0
IsLonger values nth front longer = IsSomeAnd (slice_get values nth) (λ value. longer ≡ front ++ value ∷ [])
