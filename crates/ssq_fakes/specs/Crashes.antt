-- What a crash of a disk in memory leaves, by numbers.
use Rattle.std.specs.Prelude.{◌≡◌, ℕ, suc, Bool, true, false, List, [], ◌∷◌, take, slice_index, Contains, AllPairs, IsTrue, None, Some, if◌then◌else◌}
use Rattle.ssq_outside.specs.declared.name.Name.{Name}
use Rattle.ssq_outside.specs.Files.{same_name, name_before, Content, Contents, Had, Files, last_or, published, settled_at, IsImage}
use Rattle.ssq_outside.specs.History.{History, had_now, files_now}

-- one of a name's contents: the settled one at 0, then those since, the oldest first; a number past them takes the newest
abbrev pub content_at : Contents → ℕ → Content
content_at contents number = last_or contents.settled (take number contents.since)

-- where the name stands among these, or else their length
abbrev pub index_of : List Name → Name → ℕ
index_of [] q = 0
index_of (name ∷ names) q = if same_name q name then 0 else suc (index_of names q)

-- The files by these numbers, one for each of these names in turn; a lacking number is 0. A name that is not one of
-- these has one content alone, whatever the number.
abbrev pub picked : Had → List Name → List ℕ → Files
picked had names numbers = λ q. content_at (had q) (slice_index numbers (index_of names q))

-- something happened to the name since the last sync
abbrev pub has_changed : Contents → Bool
has_changed contents = is_filled contents.since
  where
    is_filled : List Content → Bool
    is_filled [] = false
    is_filled (content ∷ later) = true

-- Exactly the names that changed since the last sync, each once, in their order.
pub record AreChanged (had : Had) (names : List Name) : Type 0 where
  pub there : (q : Name) → Contains names q → IsTrue (has_changed (had q))
  pub all : (q : Name) → IsTrue (has_changed (had q)) → Contains names q
  pub in_order : AllPairs (λ m n. IsTrue (name_before m n)) names

-- The disk after a crash that left of each name what these numbers pick: settled, and at moment 0.
pub record IsCrashed (had : Had) (numbers : List ℕ) (after : History) : Type 0 where
  pub names : List Name
  pub changed : AreChanged had names
  pub moment : after.moment ≡ 0
  pub settled : had_now after ≡ settled_at (picked had names numbers)
  pub image : IsImage had (files_now after)

-- Every image of a crash is picked by some numbers, beside the names that changed, which are one list.
abbrev pub EachImageIsPicked : Type 0
EachImageIsPicked = (had : Had) (names : List Name) (image : Files) → AreChanged had names → IsImage had image
    → (numbers : List ℕ) × ((others : List Name) → AreChanged had others → (q : Name) → picked had others numbers q ≡ image q)

-- the files, where a file begins at this name
abbrev pub filled : Name → Content → Files → Files
filled name None files = files
filled name (Some bytes) files = published name bytes files
