-- What a partition keeps, and what a version changes of it. Both are lists of keys, each with what it has, in the order of the keys.
use Rattle.std.specs.Prelude.{◌≡◌, ◌≢◌, ℕ, ◌<◌, ◌^◌, Bool, true, false, not, ◌&&◌, ◌==◌, nat_eq, List, [], ◌∷◌, ◌++◌, map, length, filter, All, Option, Some, None, IfSome, IsSome, is_some, if◌then◌else◌}
use Rattle.std.specs.Ordering.{nat_cmp, is_le}
use Rattle.std.specs.declared.cmp.Ordering.{Ordering}
use Rattle.std.specs.Option.{option_or}
use Rattle.std.specs.Cmp.Lexicographic.{pointwise, slice_cmp}
use Rattle.std.specs.List.{list_any, AllByRecursion}
use Rattle.std.specs.List.Sorted.{IsStrictlySortedBy}
use Rattle.std.specs.BTreeMap.{is_at, insert_entry}
use Rattle.std.specs.Map.{keys_of, values_of, lookup}

-- a value for each key that is kept
abbrev pub State : Type 0
State = List (List ℕ × List ℕ)

-- for each key that a version changes its new value, or none where the key goes
abbrev pub Change : Type 0
Change = List (List ℕ × Option (List ℕ))

-- the order of keys: by the first byte that differs, and a key before those that it begins
abbrev pub by_bytes : List ℕ → List ℕ → Ordering
by_bytes = slice_cmp nat_cmp

-- the keys ascend, so that each has one entry
abbrev pub Ascends : {X : Type 0} → List (List ℕ × X) → Type 0
Ascends entries = IsStrictlySortedBy by_bytes (keys_of entries)

-- what a key has
abbrev pub value_at : {X : Type 0} → List (List ℕ × X) → List ℕ → Option X
value_at entries key = lookup (is_at (by_bytes key)) entries

-- a length is spelled in four bytes
abbrev pub IsShort : List ℕ → Type 0
IsShort bytes = length bytes < 2 ^ 32

-- a value is short where there is one
abbrev pub IsShortOrNone : Option (List ℕ) → Type 0
IsShortOrNone value = IfSome value IsShort

-- the entries in the order of keys; of those with one key the first counts
abbrev pub in_order : {X : Type 0} → List (List ℕ × X) → List (List ℕ × X)
in_order [] = []
in_order (entry ∷ entries) = insert_entry by_bytes (in_order entries) entry.0 entry.1

-- what a key has after a change: what the change says of it, or else what it had
abbrev pub value_after : Option (Option (List ℕ)) → Option (List ℕ) → Option (List ℕ)
value_after None old = old
value_after (Some new) old = new

-- The new state is the old one after the change: a key of the change has what the change says, and each other key what it had.
abbrev pub IsAfter : Change → State → State → Type 0
IsAfter change old new = (key : List ℕ) → value_at new key ≡ value_after (value_at change key) (value_at old key)

-- The change is from the old state to the new one: it has an entry for each key whose value differs, and no other.
pub record IsBetween (old new : State) (change : Change) : Type 0 where
  pub told : (key : List ℕ) (value : Option (List ℕ)) → value_at change key ≡ Some value → (value_at new key ≡ value) × (value_at old key ≢ value)
  pub untold : (key : List ℕ) → value_at change key ≡ None → value_at new key ≡ value_at old key

-- What a state or a change holds: the keys ascend, and each key and what it has are spelled after a length in four bytes.
pub record IsKept {X : Type 0} (IsValue : X → Type 0) (entries : List (List ℕ × X)) : Type 0 where
  pub ascend : Ascends entries
  pub keys : All IsShort (keys_of entries)
  pub values : All IsValue (values_of entries)

abbrev pub IsState : State → Type 0
IsState state = IsKept IsShort state

abbrev pub IsChange : Change → Type 0
IsChange change = IsKept IsShortOrNone change

-- an entry of a change in front of a state: with its value, where it gives one
abbrev pub given_first : List ℕ → Option (List ℕ) → State → State
given_first key None state = state
given_first key (Some value) state = (key, value) ∷ state

-- the entries of a change that give a value, as a state has them
abbrev pub given_by : Change → State
given_by [] = []
given_by (entry ∷ change) = given_first entry.0 entry.1 (given_by change)

-- The state has this at one key (none: the key goes), and at each other key what it had.
abbrev pub IsChangedAt : List ℕ → Option (List ℕ) → State → State → Type 0
IsChangedAt key value old new = (other : List ℕ) → value_at new other ≡ (if is_at (by_bytes key) other then value else value_at old other)

-- The change says this of one key, and of each other key what it said.
abbrev pub IsToldAt : List ℕ → Option (List ℕ) → Change → Change → Type 0
IsToldAt key value old new = (other : List ℕ) → value_at new other ≡ (if is_at (by_bytes key) other then Some value else value_at old other)

-- what the last of the entries that have a key says of it
abbrev pub last_at : {X : Type 0} → List (List ℕ × X) → List ℕ → Option X
last_at [] key = None
last_at (entry ∷ entries) key = option_or (last_at entries key) (if is_at (by_bytes key) entry.0 then Some entry.1 else None)

-- the entries, the last one first
abbrev pub last_first : {X : Type 0} → List (List ℕ × X) → List (List ℕ × X)
last_first [] = []
last_first (entry ∷ entries) = last_first entries ++ entry ∷ []

-- a change can hold the entry: its key and its value are short
abbrev pub IsShortEntry : List ℕ × Option (List ℕ) → Type 0
IsShortEntry entry = IsShort entry.0 × IsShortOrNone entry.1

-- a key that is given a value by the change is in the state already, so that it takes no memory
abbrev pub HasRoom : State → Change → Type 0
HasRoom state change = (key value : List ℕ) → value_at change key ≡ Some (Some value) → IsSome (value_at state key)

-- after the change it makes no difference which of the states it was
abbrev pub SaysSame : Change → State → State → Type 0
SaysSame change old new = (key : List ℕ) → value_after (value_at change key) (value_at new key) ≡ value_after (value_at change key) (value_at old key)

-- a key is among these
abbrev pub is_among : {A : Type 0} → (A → List ℕ) → List A → List ℕ → Bool
is_among shows keys key = list_any (λ x. is_at (by_bytes key) (shows x)) keys

-- the state from which these keys came away
abbrev pub IsWithout : {A : Type 0} → (A → List ℕ) → List A → State → State → Type 0
IsWithout shows keys start now = (key : List ℕ) → value_at start key ≡ (if is_among shows keys key then None else value_at now key)

-- two things that a key may have are one
abbrev pub is_same : Option (List ℕ) → Option (List ℕ) → Bool
is_same None None = true
is_same (Some one) (Some other) = pointwise nat_eq one other
is_same _ _ = false

-- an entry of a change says something new: its key does not have that yet
abbrev pub is_news : State → List ℕ × Option (List ℕ) → Bool
is_news state entry = not (is_same (value_at state entry.0) entry.1)

-- what a change says that is new to a state
abbrev pub news : State → Change → Change
news state change = filter (is_news state) change

-- all that the change says is new to the state
abbrev pub AreNews : State → Change → Type 0
AreNews state change = AllByRecursion (λ entry. is_news state entry ≡ true) change

-- a state as what is said of its keys: of each its value
abbrev pub said_of : State → Change
said_of state = map (λ entry. (entry.0, Some entry.1)) state

-- what is said, and of each key of a state of which nothing is said that it goes
unfoldable pub with_gone : State → Change → Change
with_gone [] said = said
with_gone (entry ∷ state) said = with_gone state (if is_some (value_at said entry.0) then said else insert_entry by_bytes said entry.0 None)

-- The change from the old state to the new one: what the new one says of its keys, and that the other keys of the old one go; of that what
-- is new.
unfoldable pub between : State → State → Change
between old new = news old (with_gone old (said_of new))

-- a key begins with these bytes
abbrev pub begins_with : List ℕ → List ℕ → Bool
begins_with [] key = true
begins_with (x ∷ prefix) [] = false
begins_with (x ∷ prefix) (y ∷ key) = (x == y) && begins_with prefix key

-- the entries in front whose keys begin with these bytes
abbrev pub front_with : {X : Type 0} → List ℕ → List (List ℕ × X) → List (List ℕ × X)
front_with prefix [] = []
front_with prefix (entry ∷ entries) = if begins_with prefix entry.0 then entry ∷ front_with prefix entries else []

-- all entries whose keys begin with these bytes
abbrev pub all_with : {X : Type 0} → List ℕ → List (List ℕ × X) → List (List ℕ × X)
all_with prefix entries = filter (λ entry. begins_with prefix entry.0) entries

-- the entries from a key on
abbrev pub from_key : {X : Type 0} → List ℕ → List (List ℕ × X) → List (List ℕ × X)
from_key key entries = filter (λ entry. is_le (by_bytes key entry.0)) entries

-- older entries with newer ones put among them, each in place of what was said of its key
abbrev pub laid : {X : Type 0} → List (List ℕ × X) → List (List ℕ × X) → List (List ℕ × X)
laid [] older = older
laid (entry ∷ newer) older = laid newer (insert_entry by_bytes older entry.0 entry.1)

-- the state of older entries with newer ones over them: what they say that keys have
abbrev pub layered : Change → Change → State
layered older newer = given_by (laid newer older)
