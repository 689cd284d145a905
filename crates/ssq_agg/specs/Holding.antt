-- What the bytes of a state say of groups.
use Rattle.std.specs.Prelude.{◌≡◌, ◌++◌, ℕ, ℤ, List, [], ◌∷◌, length, Option, Some, IfSome, option_map, option_to_list}
use Rattle.std.specs.List.{cons_option}
use Rattle.ssq_value.specs.Key.{keys_of}
use Rattle.ssq_version.specs.State.{State, value_at}
use Rattle.ssq_shape.specs.declared.bound.Aggregate.{Aggregate}
use Rattle.ssq_shape.specs.declared.bound.Bound.{Bound}
use Rattle.ssq_shape.specs.declared.bound.Grouping.{Grouping}
use Rattle.ssq_meaning.specs.declared.total.Total.{Total}
use Rattle.ssq_meaning.specs.Group.{closing_time}
use Rattle.ssq_meaning.specs.Meaning.{Values}
use Rattle.ssq_meaning.specs.Totals.{totals_bytes}
use Rattle.ssq_step.specs.Indexing as index
pub use Rattle.ssq_step.specs.Indexing.{seen, stands}
use Rattle.ssq_agg.specs.declared.kept.Group.{Group}
use Rattle.ssq_agg.specs.Groups.{Held}
use Rattle.ssq_agg.specs.Readable.{AreTotalsOf, IsKey, IsReadableGroup}

-- ---- what is found, in any state

-- the totals that are found under a key: what its bytes are, where they are such totals
pub record IsReadAt (aggregates : List Aggregate) (state : State) (key : List ℕ) (found : Option (List Total)) : Type 0 where
  pub some : IfSome found (λ totals. AreTotalsOf aggregates totals × (value_at state key ≡ Some (totals_bytes totals)))
  pub each : (totals : List Total) → AreTotalsOf aggregates totals → value_at state key ≡ Some (totals_bytes totals) → found ≡ Some totals

-- an entry with the bytes of a key and of its totals
abbrev pub Entry : Type 0
Entry = List ℕ × List ℕ

-- the group whose bytes an entry has
pub record IsGroupOf (grouping : Grouping) (entry : Entry) (group : Group) : Type 0 where
  pub readable : IsReadableGroup grouping group.key group.totals
  pub key_is : keys_of group.key ≡ entry.0
  pub totals_are : totals_bytes group.totals ≡ entry.1

-- the group that is found in an entry, where the entry has one's bytes
pub record IsRead (grouping : Grouping) (entry : Entry) (found : Option Group) : Type 0 where
  pub some : IfSome found (IsGroupOf grouping entry)
  pub each : (group : Group) → IsGroupOf grouping entry group → found ≡ Some group

-- the group of one entry more, where it is one, comes after those before
abbrev pub Adds : Grouping → Entry → (before after : List Group) → Type 0
Adds grouping entry before after = (found : Option Group) × (after ≡ before ++ option_to_list found) × IsRead grouping entry found

-- the groups that are found in some entries, in their order
abbrev pub AreRead : Grouping → List Entry → List Group → Type 0
AreRead grouping [] groups = groups ≡ []
AreRead grouping (entry ∷ entries) groups =
    (found : Option Group) × (rest : List Group) × (groups ≡ option_to_list found ++ rest) × IsRead grouping entry found × AreRead grouping entries rest

-- the entries of a state under some keys
abbrev pub entry_at : List ℕ → Option (List ℕ) → Option Entry
entry_at key value = option_map (λ value. (key, value)) value

abbrev pub entries_at : State → List (List ℕ) → List Entry
entries_at state [] = []
entries_at state (key ∷ keys) = cons_option (entry_at key (value_at state key)) (entries_at state keys)

-- ---- what a state holds

-- The state holds these totals: after the bytes of a key stand those of its totals, where it has some, and key and totals can be read back.
pub record Holds (grouping : Grouping) (state : State) (own : Held) : Type 0 where
  pub found : (key : Values) → IsKey grouping key → value_at state (keys_of key) ≡ option_map totals_bytes (own key)
  pub readable : (key : Values) (totals : List Total) → own key ≡ Some totals → IsReadableGroup grouping key totals

-- Of the keys that can be read back those that the state has and whose time is past, each once.
abbrev pub AreDueKeys : Bound → Grouping → State → Option ℤ → List (List ℕ) → Type 0
AreDueKeys query grouping state now keys = index.AreDueKeys (length grouping.keys) (closing_time query grouping) state now keys
