-- The rows that are no repeats, by the keys that are kept.
use Rattle.std.specs.Prelude.{◌≡◌, ◌⊎◌, ◌++◌, ◌&&◌, ◌||◌, ℕ, Bool, true, false, not, if◌then◌else◌, List, [], ◌∷◌, Option, Some, is_some}
use Rattle.ssq_value.specs.Key.{keys_of}
use Rattle.ssq_version.specs.State.{Change, IsToldAt, State, value_at}
use Rattle.ssq_meaning.specs.FedRows.{FedRow}
use Rattle.ssq_meaning.specs.DedupLaws.{entry_if}
use Rattle.ssq_meaning.specs.Group.{has_key}
use Rattle.ssq_meaning.specs.Meaning.{Values}
use Rattle.ssq_step.specs.Indexing.{IsReadableKey}

-- the row's key has so many values, each of which a state can hold
abbrev pub IsKeyed : ℕ → FedRow → Type 0
IsKeyed count row = IsReadableKey count row.key

-- the state keeps these keys, of those of so many values
abbrev pub HoldsKeys : ℕ → State → (Values → Bool) → Type 0
HoldsKeys count state is_held = (key : Values) → IsReadableKey count key → value_at state (keys_of key) ≡ entry_if (is_held key)

-- Of some rows those whose key is neither kept nor that of a row before them, one of these or an earlier one.
unfoldable pub first_among : (is_held : Values → Bool) → (earlier rows : List FedRow) → List FedRow
first_among is_held earlier [] = []
first_among is_held earlier (row ∷ rows) =
    if is_held row.key || has_key earlier row.key then first_among is_held (earlier ++ row ∷ []) rows else row ∷ first_among is_held (earlier ++ row ∷ []) rows

-- ---- a row more

-- A row whose key is known changes nothing and is not shown. The key of each other row is kept, with nothing after it, and the row is shown.
abbrev pub TakesIf : (is_known : Bool) → FedRow → (before after : Change) → (shown more : List Values) → Type 0
TakesIf true row before after shown more = (after ≡ before) × (more ≡ shown)
TakesIf false row before after shown more = IsToldAt (keys_of row.key) (Some []) before after × (more ≡ shown ++ row.values ∷ [])

-- a key is known where a row before it has it, or the state
abbrev pub Takes : State → FedRow → (has_row : Bool) → (before after : Change) → (shown more : List Values) → Type 0
Takes state row has_row before after shown more = TakesIf (has_row || is_some (value_at state (keys_of row.key))) row before after shown more

-- ---- what a change says

-- what is said of a key: of one that is new that it is kept, and of any other what was said
abbrev pub said_if : (is_new : Bool) → (was_said : Option (Option (List ℕ))) → Option (Option (List ℕ))
said_if true was_said = Some (Some [])
said_if false was_said = was_said

-- The change says of each key that rows have and that was not kept that it is kept, and of all other bytes what was said.
pub record SaysFirsts (count : ℕ) (is_held : Values → Bool) (rows : List FedRow) (before after : Change) : Type 0 where
  pub told : (key : Values) → IsReadableKey count key → value_at after (keys_of key) ≡ said_if (not (is_held key) && has_key rows key) (value_at before (keys_of key))
  pub only : (bytes : List ℕ) → ((key : Values) × (bytes ≡ keys_of key) × IsReadableKey count key) ⊎ (value_at after bytes ≡ value_at before bytes)
