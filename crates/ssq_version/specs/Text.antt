-- The bytes of the files of the state. All numbers have the highest byte first.
use Rattle.std.specs.Prelude.{◌≡◌, ℕ, ◌<◌, ◌^◌, List, [], ◌∷◌, ◌++◌, length, map, flat_map, Option, Some, None, option_copied, codes}
use Rattle.std.specs.Int.{w32, w64, to_be_bytes}
use Rattle.std.specs.List.{AllByRecursion}
use Rattle.ssq_version.specs.declared.entry.Entry.{Entry}
use Rattle.ssq_version.specs.declared.form.Form.{Form}
use Rattle.ssq_version.specs.declared.form.Form.TheVariants as form
use Rattle.std.specs.declared.cmp.Ordering.TheVariants.{Less}
pub use Rattle.ssq_version.specs.State.{said_of}
use Rattle.ssq_version.specs.State.{State, Change, Ascends, IsShort, IsState, IsChange, by_bytes}

-- the bytes after their length in four bytes
abbrev pub field : List ℕ → List ℕ
field bytes = to_be_bytes w32 (length bytes) ++ bytes

-- an entry of a delta: 1, the key and its new value, or 0 and the key where the key goes
abbrev pub changed_text : List ℕ → Option (List ℕ) → List ℕ
changed_text key (Some value) = 1 ∷ (field key ++ field value)
changed_text key None = 0 ∷ field key

-- an entry of a snapshot: the key and its value
abbrev pub kept_text : List ℕ → Option (List ℕ) → List ℕ
kept_text key (Some value) = field key ++ field value
kept_text key None = []

-- an entry of a file of either form
abbrev pub entry_text : Form → List ℕ × Option (List ℕ) → List ℕ
entry_text form.Delta entry = changed_text entry.0 entry.1
entry_text form.Snapshot entry = kept_text entry.0 entry.1

-- what a file of either form can say of a key: a snapshot has a value for each
abbrev pub CanSay : Form → Option (List ℕ) → Type 0
CanSay form.Delta None = Unit {0}
CanSay form.Snapshot None = ⊥
CanSay _ (Some value) = IsShort value

-- an entry that has a spelling
abbrev pub IsSpelled : Form → List ℕ × Option (List ℕ) → Type 0
IsSpelled form entry = IsShort entry.0 × CanSay form entry.1

-- the entries one after the other
unfoldable pub entries_text : Form → Change → List ℕ
entries_text form entries = flat_map (entry_text form) entries

-- the first eight bytes
abbrev pub first_word : Form → List ℕ
first_word form.Delta = codes "SSQDELT1"
first_word form.Snapshot = codes "SSQSNAP1"

-- A file of either form: its first word, the partition, the version, the number of entries, and the entries.
abbrev pub file_text : Form → ℕ → ℕ → Change → List ℕ
file_text form partition version entries =
    first_word form
    ++ (to_be_bytes w32 partition
    ++ (to_be_bytes w32 version
    ++ (to_be_bytes w64 (length entries)
    ++ entries_text form entries)))

-- what has a spelling as the entries of a file: the keys ascend, and each entry has one
pub record AreEntries (form : Form) (entries : Change) : Type 0 where
  pub ascend : Ascends entries
  pub spelled : AllByRecursion (IsSpelled form) entries
  pub few : length entries < 2 ^ 64

-- the file of what a version changed
abbrev pub delta_text : ℕ → ℕ → Change → List ℕ
delta_text partition version change = file_text form.Delta partition version change

-- the file of a whole state
abbrev pub snapshot_text : ℕ → ℕ → State → List ℕ
snapshot_text partition version state = file_text form.Snapshot partition version (said_of state)

-- a key is above the last one, where there is one
abbrev pub IsAbove : Option (List ℕ) → List ℕ → Type 0
IsAbove None key = Unit {0}
IsAbove (Some last) key = by_bytes last key ≡ Less

-- the keys ascend from above the last one
abbrev pub AscendFrom : Option (List ℕ) → Change → Type 0
AscendFrom last [] = Unit {0}
AscendFrom last (entry ∷ entries) = IsAbove last entry.0 × AscendFrom (Some entry.0) entries

-- the bytes are so many entries, whose keys ascend from above the last one
pub record Lists (form : Form) (last : Option (List ℕ)) (count : ℕ) (text : List ℕ) (entries : Change) : Type 0 where
  pub bytes : text ≡ entries_text form entries
  pub many : length entries ≡ count
  pub ascend : AscendFrom last entries
  pub spelled : AllByRecursion (IsSpelled form) entries

-- there are such entries
abbrev pub IsListing : Form → Option (List ℕ) → ℕ → List ℕ → Type 0
IsListing form last count text = (entries : Change) × Lists form last count text entries

-- The bytes are the file of entries of this partition and version, so many, which are spelled by these bytes.
abbrev pub IsFile : Form → List ℕ → ℕ → ℕ → ℕ → List ℕ → Type 0
IsFile form text partition version count bytes =
    (entries : Change) × AreEntries form entries × (text ≡ file_text form partition version entries) × (length entries ≡ count) × (bytes ≡ entries_text form entries)

-- no two changes, and no two states, of partitions and versions have one file
pub record AreFilesApart : Type 0 where
  pub deltas : (p v q w : ℕ) (one other : Change) → p < 2 ^ 32 → v < 2 ^ 32 → q < 2 ^ 32 → w < 2 ^ 32 → IsChange one → IsChange other → length one < 2 ^ 64 → length other < 2 ^ 64
      → delta_text p v one ≡ delta_text q w other → (p ≡ q) × (v ≡ w) × (one ≡ other)
  pub snapshots : (p v q w : ℕ) (one other : State) → p < 2 ^ 32 → v < 2 ^ 32 → q < 2 ^ 32 → w < 2 ^ 32 → IsState one → IsState other → length one < 2 ^ 64 → length other < 2 ^ 64
      → snapshot_text p v one ≡ snapshot_text q w other → (p ≡ q) × (v ≡ w) × (one ≡ other)

-- entries where they lie in a file's bytes, as a change
abbrev pub shown : List Entry → Change
shown entries = map (λ entry. (entry.key.now, option_copied entry.value)) entries
