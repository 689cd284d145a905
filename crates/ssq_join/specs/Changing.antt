-- What an epoch changes in the rows that are kept.
use Rattle.std.specs.Prelude.{◌≡◌, ◌&&◌, ◌==◌, ℕ, Bool, true, false, not, if◌then◌else◌, List, [], ◌∷◌, Option, Some, None, option_map}
use Rattle.std.specs.BTreeMap.{is_at}
use Rattle.ssq_version.specs.State.{Change, State, by_bytes, value_at}
use Rattle.ssq_meaning.specs.FedRows.{FedRow}
use Rattle.ssq_meaning.specs.Feeding.{or_else}
use Rattle.ssq_meaning.specs.Join.{row_key, row_value}
use Rattle.ssq_join.specs.Telling.{among}

-- ---- by rows

-- the first of some rows that is kept under these bytes
abbrev pub find_row : List ℕ → List FedRow → Option FedRow
find_row key [] = None
find_row key (row ∷ rows) = if is_at (by_bytes key) (row_key row) then Some row else find_row key rows

-- What is said of what stands under some bytes, by the row that was kept there and by the new row: the row that was kept goes where it is over,
-- and is said to have met a partner where it met its first; the new one is kept with whether it met one.
abbrev pub said_of_row : (over was_met meets : FedRow → Bool) → (held new : Option FedRow) → Option (Option (List ℕ))
said_of_row over was_met meets (Some row) new =
    if over row then Some None else (if meets row && not (was_met row) then Some (Some (row_value true row)) else None)
said_of_row over was_met meets None (Some row) = Some (Some (row_value (meets row) row))
said_of_row over was_met meets None None = None

-- the change says so of all bytes
abbrev pub SaysRows : (over was_met meets : FedRow → Bool) → (held new : List FedRow) → Change → Type 0
SaysRows over was_met meets held new change = (key : List ℕ) → value_at change key ≡ said_of_row over was_met meets (find_row key held) (find_row key new)

-- ---- by bytes

-- the same bytes with 1, which says that a partner was met, as the last
abbrev pub flagged : List ℕ → List ℕ
flagged [] = []
flagged (byte ∷ []) = 1 ∷ []
flagged (byte ∷ next ∷ rest) = byte ∷ flagged (next ∷ rest)

abbrev pub is_flagged : List ℕ → Bool
is_flagged [] = false
is_flagged (byte ∷ []) = byte == 1
is_flagged (byte ∷ next ∷ rest) = is_flagged (next ∷ rest)

abbrev pub flagged_if : Bool → List ℕ → List ℕ
flagged_if true value = flagged value
flagged_if false value = value

-- what is kept from now on of a row that met a partner, where something is kept that does not say so yet
abbrev pub flag_of : Option (List ℕ) → Option (List ℕ)
flag_of None = None
flag_of (Some value) = if is_flagged value then None else Some (flagged value)

-- the change says this of some bytes from now on, where there is something to say, and of all others what it said
abbrev pub SaysIf : List ℕ → Option (List ℕ) → (before after : Change) → Type 0
SaysIf key None before after = after ≡ before
SaysIf key (Some value) before after = (other : List ℕ) → value_at after other ≡ (if is_at (by_bytes key) other then Some (Some value) else value_at before other)

-- it says of each new entry that it is kept, with whether its bytes are among those that met
abbrev pub fresh_said : (met : List (List ℕ)) → (key : List ℕ) → Option (List ℕ) → Option (Option (List ℕ))
fresh_said met key fresh = option_map (λ value. Some (flagged_if (among met key) value)) fresh

abbrev pub SaysFresh : (fresh : State) → (met : List (List ℕ)) → (before after : Change) → Type 0
SaysFresh fresh met before after = (key : List ℕ) → value_at after key ≡ or_else (fresh_said met key (value_at fresh key)) (value_at before key)

-- it says of what is kept under bytes that met that it met a partner, where that is not said yet
abbrev pub flag_said : Bool → Option (List ℕ) → Option (Option (List ℕ))
flag_said met old = if met then option_map (λ value. Some value) (flag_of old) else None

abbrev pub SaysFlags : (old : State) → (met : List (List ℕ)) → (before after : Change) → Type 0
SaysFlags old met before after = (key : List ℕ) → value_at after key ≡ or_else (flag_said (among met key) (value_at old key)) (value_at before key)

-- What is said of some bytes: that they go, or else that what is kept met its first partner, or else that the new entry is kept.
abbrev pub said_of : (over met : Bool) → (old fresh : Option (List ℕ)) → Option (Option (List ℕ))
said_of over met old fresh =
    if over then Some None else or_else (flag_said met old) (option_map (λ value. Some (flagged_if met value)) fresh)

abbrev pub SaysBytes : (old fresh : State) → (met over : List (List ℕ)) → Change → Type 0
SaysBytes old fresh met over change = (key : List ℕ) → value_at change key ≡ said_of (among over key) (among met key) (value_at old key) (value_at fresh key)
