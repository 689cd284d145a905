-- Keys that a partition keeps no more.
use Rattle.std.specs.Prelude.{◌≡◌, ℕ, if◌then◌else◌, List, Some, None}
use Rattle.std.specs.BTreeMap.{is_at}
use Rattle.std.specs.List.{list_any}
use Rattle.ssq_version.specs.State.{Change, by_bytes, value_at}

-- the change says of each of these keys that it goes, and of each other what was said
abbrev pub IsGone : List (List ℕ) → (before after : Change) → Type 0
IsGone keys before after = (key : List ℕ) → value_at after key ≡ (if list_any (is_at (by_bytes key)) keys then Some None else value_at before key)
