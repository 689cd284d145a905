-- What a writer holds that remembers whether memory ran out.
use Rattle.std.specs.Prelude.{◌≡◌, ℕ, Bool, List, ◌++◌, IsTrue}

-- what was written, and whether memory served for all of it
pub record Written : Type 0 where
  pub bytes : List ℕ
  pub is_whole : Bool

-- as long as it is whole, it holds these bytes
abbrev pub Holds : Written → List ℕ → Type 0
Holds written bytes = IsTrue written.is_whole → written.bytes ≡ bytes

-- whatever it held before, after it stand these bytes
abbrev pub Adds : Written → List ℕ → Written → Type 0
Adds before bytes after = (held : List ℕ) → Holds before held → Holds after (held ++ bytes)
