-- What the inputs and a log hold.
use Rattle.std.specs.Prelude.{ℕ, List}

-- a line of a log, without its end
abbrev pub Line : Type 0
Line = List ℕ

-- What inputs hold: the files by their names (one that is not there is empty), how many parts each stream has, and
-- of each part all the lines that it will come to hold. A log only grows, and how many of its lines are there
-- already is told beside this.
pub record Held : Type 0 where
  pub text : List ℕ → List ℕ
  pub parts : List ℕ → ℕ
  pub lines : List ℕ → ℕ → List Line
