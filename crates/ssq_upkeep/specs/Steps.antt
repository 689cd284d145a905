-- What the small functions of upkeep answer.
use Rattle.std.specs.Prelude.{◌≡◌, ◌<◌, ◌≤◌, ◌+◌, ◌%◌, nat_lt, ℕ, Bool, true, false, List, length, get_or, Option, Some, None, MatchOption, if◌then◌else◌}
use Rattle.ssq_outside.specs.declared.name.Name.{Name}
use Rattle.ssq_outside.specs.declared.name.Name.TheVariants as name
use Rattle.ssq_outside.specs.Files.{name_before}
use Rattle.ssq_upkeep.specs.Upkeep.{is_among}

-- the greatest version up to this one of which a partition has a snapshot in the list
pub record IsNewest (names : List Name) (partition highest version : ℕ) : Type 0 where
  pub below : version ≤ highest
  pub there : is_among names (name.Snapshot partition version) ≡ true
  pub greatest : (other : ℕ) → other ≤ highest → is_among names (name.Snapshot partition other) ≡ true → other ≤ version

-- there is none
abbrev pub HasNone : List Name → ℕ → ℕ → Type 0
HasNone names partition highest = (version : ℕ) → version ≤ highest → is_among names (name.Snapshot partition version) ≡ false

-- of each of the first partitions, as many as there are places
abbrev pub AreNewest : List Name → ℕ → List (Option ℕ) → Type 0
AreNewest names highest newest = (p : ℕ) → p < length newest → MatchOption (get_or newest p None) (HasNone names p highest) (IsNewest names p highest)

-- the greater of two versions, where there are two
abbrev pub later : Option ℕ → ℕ → ℕ
later None version = version
later (Some found) version = if nat_lt found version then version else found

-- the newest of a partition's snapshots in the list that lies 20 or more below this epoch: by it older files may go
pub record IsFloor (settled : List Name) (partition last version : ℕ) : Type 0 where
  pub old : version + 20 ≤ last
  pub there : is_among settled (name.Snapshot partition version) ≡ true
  pub newest : (other : ℕ) → other + 20 ≤ last → is_among settled (name.Snapshot partition other) ≡ true → other ≤ version

-- there is none
abbrev pub HasNoFloor : List Name → ℕ → ℕ → Type 0
HasNoFloor settled partition last = (version : ℕ) → version + 20 ≤ last → is_among settled (name.Snapshot partition version) ≡ false

-- of each of the first partitions, as many as there are places
abbrev pub AreFloors : List Name → ℕ → List (Option ℕ) → Type 0
AreFloors settled last floors = (p : ℕ) → p < length floors → MatchOption (get_or floors p None) (HasNoFloor settled p last) (IsFloor settled p last)

-- One version in ten, of those from one to another, has no snapshot in the list.
pub record IsBare (names : List Name) (partition from last version : ℕ) : Type 0 where
  pub tenth : version % 10 ≡ 9
  pub above : from ≤ version
  pub below : version ≤ last
  pub absent : is_among names (name.Snapshot partition version) ≡ false

-- it is the first of these
pub record IsFirstBare (names : List Name) (partition from last version : ℕ) : Type 0 where
  pub bare : IsBare names partition from last version
  pub first : (other : ℕ) → IsBare names partition from last other → version ≤ other

-- the name comes before that one, where there is one
abbrev pub is_less : Name → Option Name → Bool
is_less q None = true
is_less q (Some least) = name_before q least

-- of two names the one that comes first, where there are any
abbrev pub lesser : Option Name → Option Name → Option Name
lesser None other = other
lesser (Some name) other = if is_less name other then Some name else other
