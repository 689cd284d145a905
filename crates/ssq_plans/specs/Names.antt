-- The texts of names.
use Rattle.std.specs.Prelude.{◌≡◌, ◌<◌, ◌^◌, ◌++◌, ℕ, List, codes}
use Rattle.std.specs.Fmt.{decimal}
use Rattle.ssq_outside.specs.declared.name.Name.{Name}
use Rattle.ssq_outside.specs.declared.name.Name.TheVariants.{Meta, Plan, Commit, Out, Delta, Snapshot}

-- The path of a name's file inside the checkpoint. Numbers are decimal, without leading zeros.
abbrev pub text_of : Name → List ℕ
text_of Meta = codes "metadata"
text_of (Plan e) = codes "offsets/" ++ decimal e
text_of (Commit e) = codes "commits/" ++ decimal e
text_of (Out e) = codes "sink/" ++ decimal e
text_of (Delta p v) = codes "state/" ++ decimal p ++ codes "/" ++ decimal v ++ codes ".delta"
text_of (Snapshot p v) = codes "state/" ++ decimal p ++ codes "/" ++ decimal v ++ codes ".snapshot"

-- a name's numbers have 32 bits
abbrev pub IsInRange : Name → Type 0
IsInRange Meta = Unit {0}
IsInRange (Plan e) = e < 2 ^ 32
IsInRange (Commit e) = e < 2 ^ 32
IsInRange (Out e) = e < 2 ^ 32
IsInRange (Delta p v) = (p < 2 ^ 32) × (v < 2 ^ 32)
IsInRange (Snapshot p v) = (p < 2 ^ 32) × (v < 2 ^ 32)

-- no two names have one text
abbrev pub AreTextsApart : Type 0
AreTextsApart = (m n : Name) → IsInRange m → IsInRange n → text_of m ≡ text_of n → m ≡ n
