-- A checkpoint as a map from names to contents, and what a crash may leave of it.
use Rattle.std.specs.Prelude.{◌≡◌, ◌⊎◌, ◌&&◌, ◌||◌, ◌==◌, nat_lt, ℕ, Bool, true, false, List, [], ◌∷◌, ◌++◌, Option, Some, None, is_some, IsSome, IsTrue, if◌then◌else◌, Contains, AllPairs}
use Rattle.ssq_outside.specs.declared.name.Name.{Name}
use Rattle.ssq_outside.specs.declared.name.Name.TheVariants.{Meta, Plan, Commit, Out, Delta, Snapshot}

-- two names are one
abbrev pub same_name : Name → Name → Bool
same_name Meta Meta = true
same_name (Plan e) (Plan f) = e == f
same_name (Commit e) (Commit f) = e == f
same_name (Out e) (Out f) = e == f
same_name (Delta p v) (Delta q w) = p == q && v == w
same_name (Snapshot p v) (Snapshot q w) = p == q && v == w
same_name _ _ = false

-- what stands at a name: nothing, or the bytes of a file
abbrev pub Content : Type 0
Content = Option (List ℕ)

-- a checkpoint: what stands at each name
abbrev pub Files : Type 0
Files = Name → Content

-- no name has a file
abbrev pub IsEmpty : Files → Type 0
IsEmpty files = (name : Name) → files name ≡ None

-- the files, with this at one name in place of what stood there
abbrev pub changed_files : Name → Content → Files → Files
changed_files name content files = λ q. if same_name q name then content else files q

-- the files after these bytes were published under a name: in one step, in place of what the name had
abbrev pub published : Name → List ℕ → Files → Files
published name bytes files = changed_files name (Some bytes) files

-- What a name had since the last sync of names: the content that was settled by that sync, and the contents since
-- then, the oldest first.
pub record Contents : Type 0 where
  pub settled : Content
  pub since : List Content

-- the last of them, or else this
abbrev pub last_or : Content → List Content → Content
last_or content [] = content
last_or content (next ∷ later) = last_or next later

-- what the name has now
abbrev pub newest : Contents → Content
newest c = last_or c.settled c.since

-- a crash may leave the settled content, or any since
abbrev pub MayBe : Contents → Content → Type 0
MayBe c content = (content ≡ c.settled) ⊎ Contains c.since content

-- what each name had
abbrev pub Had : Type 0
Had = Name → Contents

-- the files as they are now
abbrev pub files_of : Had → Files
files_of had = λ q. newest (had q)

-- one name gets this content
abbrev pub changed : Name → Content → Had → Had
changed name content had = λ q. if same_name q name then record { settled = (had q).settled; since = (had q).since ++ content ∷ [] } else had q

-- after a publish
abbrev pub added : Name → List ℕ → Had → Had
added name bytes had = changed name (Some bytes) had

-- after a removal: of a name that is not there, nothing changes
abbrev pub removed : Name → Had → Had
removed name had = if is_some (newest (had name)) then changed name None had else had

-- after a sync: each name has what it has now, and nothing else can come back
abbrev pub settled_at : Files → Had
settled_at files = λ q. record { settled = files q; since = [] }

-- Files that a crash now may leave: for each name by itself one of the contents that it had.
abbrev pub IsImage : Had → Files → Type 0
IsImage had image = (q : Name) → MayBe (had q) (image q)

-- a sync of names, whole, in part or failed: the files stay, and no image is new
pub record IsSyncStep (old new : Had) : Type 0 where
  pub same : (q : Name) → newest (new q) ≡ newest (old q)
  pub fewer : (q : Name) (content : Content) → MayBe (new q) content → MayBe (old q) content

-- where a name's kind stands in the order of names
abbrev pub kind_of : Name → ℕ
kind_of Meta = 0
kind_of (Plan e) = 1
kind_of (Commit e) = 2
kind_of (Out e) = 3
kind_of (Delta p v) = 4
kind_of (Snapshot p v) = 5

-- its numbers
abbrev pub first_of : Name → ℕ
first_of Meta = 0
first_of (Plan e) = e
first_of (Commit e) = e
first_of (Out e) = e
first_of (Delta p v) = p
first_of (Snapshot p v) = p

abbrev pub second_of : Name → ℕ
second_of (Delta p v) = v
second_of (Snapshot p v) = v
second_of _ = 0

-- The order of names: by kind, then by their numbers from the left.
abbrev pub name_before : Name → Name → Bool
name_before m n =
    nat_lt (kind_of m) (kind_of n) || (kind_of m == kind_of n && (nat_lt (first_of m) (first_of n) || (first_of m == first_of n && nat_lt (second_of m) (second_of n))))

-- Exactly the names that have a file, each once, in their order.
pub record AreNames (files : Files) (names : List Name) : Type 0 where
  pub there : (name : Name) → Contains names name → IsSome (files name)
  pub all : (name : Name) → IsSome (files name) → Contains names name
  pub in_order : AllPairs (λ m n. IsTrue (name_before m n)) names
