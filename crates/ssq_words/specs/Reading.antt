-- What clap's matches of a command line that it takes are sure to hold.
use Rattle.std.specs.Prelude.{◌≡◌, ◌⊎◌, ℕ, List, Option, Some, None, true, codes, is_some, IfSome}
use Rattle.clap.specs.Values.{IsUnsignedIn}
use Rattle.clap.specs.Words.{Row, Text, first_of, one_of}

-- the query's file is there
abbrev pub HasQuery : List Row → Type 0
HasQuery rows = is_some (first_of (codes "query") rows) ≡ true

-- the option is absent, or has a number in these bounds, which clap's typed getters read as it was written
pub record HasNumberIn (low high : ℕ) (id : Text) (rows : List Row) : Type 0 where
  pub number : IfSome (first_of id rows) (IsUnsignedIn low high)
  pub written : one_of id rows ≡ first_of id rows

pub record IsRun (rows : List Row) : Type 0 where
  pub query : HasQuery rows
  pub partitions : HasNumberIn 1 64 (codes "partitions") rows
  pub max_lines : HasNumberIn 1 1099511627776 (codes "max-lines") rows
  pub rounds : HasNumberIn 1 1000000 (codes "rounds") rows

-- the positional is there, with a number in these bounds
pub record IsNumberIn (low high : ℕ) (id : Text) (rows : List Row) : Type 0 where
  pub there : is_some (first_of id rows) ≡ true
  pub number : HasNumberIn low high id rows

pub record IsGen (rows : List Row) : Type 0 where
  pub number : IsNumberIn 0 65536 (codes "number") rows
  pub lines : IsNumberIn 1 10000000 (codes "lines") rows

-- a subcommand was met, and has what it needs
abbrev pub IsWhole : Option (Text × List Row) → Type 0
IsWhole None = ⊥
IsWhole (Some p) =
    ((p.0 ≡ codes "run") × IsRun p.1)
    ⊎ (((p.0 ≡ codes "show") × HasQuery p.1) ⊎ (((p.0 ≡ codes "explain") × HasQuery p.1) ⊎ (((p.0 ≡ codes "status") × HasQuery p.1) ⊎ ((p.0 ≡ codes "gen") × IsGen p.1))))
