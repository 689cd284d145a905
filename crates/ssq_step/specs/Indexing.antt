-- The keys of a state by their times.
use Rattle.std.specs.Prelude.{◌≡◌, ◌&&◌, ℕ, ℤ, if◌then◌else◌, List, All, length, map, filter, Option, is_some}
use Rattle.std.specs.Option.{option_and}
use Rattle.std.specs.Borrow.{Bor}
use Rattle.std.specs.BTreeMap.{is_at}
use Rattle.ssq_value.specs.Key.{keys_of}
use Rattle.ssq_version.specs.State.{State, by_bytes, value_at}
use Rattle.ssq_shape.specs.declared.bound.Bound.{Bound}
use Rattle.ssq_shape.specs.declared.bound.Shape.{Shape}
use Rattle.ssq_shape.specs.declared.bound.Shape.TheVariants.{Join}
use Rattle.ssq_meaning.specs.Fit.{IsFit}
use Rattle.ssq_meaning.specs.Keyed.{key_length, key_time}
use Rattle.ssq_meaning.specs.Meaning.{Values}
use Rattle.ssq_meaning.specs.Times.{is_past}
use Rattle.ssq_step.specs.Rows.{HasTimeIf, IndexesRows}
pub use Rattle.ssq_step.specs.Timed.{Timed, by_time, has, is_time}

-- a key of so many values that is read back from its bytes
pub record IsReadableKey (count : ℕ) (key : Values) : Type 0 where
  pub values : All IsFit key
  pub many : length key ≡ count

-- Of the keys that can be read back those that the state has stand under their times, where they have one.
abbrev pub Indexes : ℕ → (Values → Option ℤ) → State → List Timed → Type 0
Indexes count time state entries = (key : Values) → IsReadableKey count key → (t : ℤ) →
    has entries (t, keys_of key) ≡ (is_some (value_at state (keys_of key)) && is_time t (time key))

-- the index of the state of a query: of a join by the times of its rows, of any other by those of its keys
abbrev pub IsIndexBy : Shape → Bound → State → List Timed → Type 0
IsIndexBy (Join joining) query state entries = IndexesRows query joining state entries
IsIndexBy _ query state entries = Indexes (key_length query) (key_time query) state entries

abbrev pub IsIndex : Bound → State → List Timed → Type 0
IsIndex query state entries = IsIndexBy query.shape query state entries

-- ---- what is kept, by its times

-- the key with these bytes is in the index where it has a time: of a join each, of any other query each that can be read back
abbrev pub IsKeyBy : Shape → Bound → List ℕ → Type 0
IsKeyBy (Join joining) query key = Unit {0}
IsKeyBy _ query key = (own : Values) × IsReadableKey (key_length query) own × (keys_of own ≡ key)

-- the time of what is kept under these bytes, if anything is: of a join that of the row, of any other query that of the key
abbrev pub IsTimeIf : (shape : Shape) (query : Bound) (key : List ℕ) → IsKeyBy shape query key → Option (List ℕ) → Option ℤ → Type 0
IsTimeIf (Join joining) query key is value time = HasTimeIf query joining key value time
IsTimeIf _ query key is value time = time ≡ option_and value (key_time query is.0)

-- ---- the keys that a watermark closes

-- the keys that are lent
abbrev pub seen : List (Bor (List ℕ)) → List (List ℕ)
seen keys = map (λ (key : Bor (List ℕ)). key.now) keys

-- how often a key is among some keys, by its bytes
abbrev pub stands : List ℕ → List (List ℕ) → ℕ
stands key keys = length (filter (is_at (by_bytes key)) keys)

-- Of the keys that can be read back those that the state has and whose time is past, each once.
abbrev pub AreDueKeys : ℕ → (Values → Option ℤ) → State → Option ℤ → List (List ℕ) → Type 0
AreDueKeys count time state now keys = (key : Values) → IsReadableKey count key →
    stands (keys_of key) keys ≡ (if is_some (value_at state (keys_of key)) && is_past now (time key) then 1 else 0)
