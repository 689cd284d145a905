-- The names that a ledger keeps of the state's files.
use Rattle.std.specs.Prelude.{◌≡◌, ◌+◌, ◌≤◌, ◌<◌, ℕ, true, false, List, length, Option, Some, None, IfSome, vec_capacity, nat_lt, if◌then◌else◌}
use Rattle.ssq_outside.specs.declared.name.Name.{Name}
use Rattle.ssq_outside.specs.declared.name.Name.TheVariants as name
use Rattle.ssq_upkeep.specs.Upkeep.{is_among}
use Rattle.ssq_board.specs.Shelf.{Shelf}
use Rattle.ssq_ledger.specs.declared.names.Names.{Names}

-- They are those of the shelf, and there is room for those that can still come, in the history of so many entries too: one with each entry before the
-- next plan, and one for each snapshot that is being made.
pub record IsShelved (shelf : Shelf) (need count capacity : ℕ) (names : Names) : Type 0 where
  pub settled : names.settled.items ≡ shelf.settled
  pub news : names.news.items ≡ shelf.news
  pub claimed : names.claimed.items ≡ shelf.claimed
  pub tidy : names.tidy ≡ shelf.tidy
  pub room : length names.news.items + need + length names.claimed.items ≤ vec_capacity names.news
  pub entries : count + need + length names.claimed.items ≤ capacity

-- The names are the same, and there is room to settle them.
pub record MakesSettled (old new : Names) (result : Option (Unit {0})) : Type 0 where
  pub settled : new.settled.items ≡ old.settled.items
  pub news : new.news ≡ old.news
  pub claimed : new.claimed ≡ old.claimed
  pub tidy : new.tidy ≡ old.tidy
  pub room : IfSome result (λ made. length new.settled.items + length new.news.items ≤ vec_capacity new.settled)

-- The names are the same, and there is room for so many more.
pub record MakesRoom (more : ℕ) (old new : Names) (result : Option (Unit {0})) : Type 0 where
  pub settled : new.settled ≡ old.settled
  pub news : new.news.items ≡ old.news.items
  pub claimed : new.claimed.items ≡ old.claimed.items
  pub tidy : new.tidy ≡ old.tidy
  pub kept : vec_capacity old.news ≤ vec_capacity new.news
  pub room : IfSome result (λ made. length old.news.items + more + length old.claimed.items ≤ vec_capacity new.news)

-- The greatest version below this one of which a partition has a snapshot among the names; or there is none.
abbrev pub IsNewestBelow : (partition version : ℕ) → List Name → Option ℕ → Type 0
IsNewestBelow partition version names None = (other : ℕ) → other < version → is_among names (name.Snapshot partition other) ≡ false
IsNewestBelow partition version names (Some newest) = (newest < version) × (is_among names (name.Snapshot partition newest) ≡ true)
    × ((other : ℕ) → other < version → is_among names (name.Snapshot partition other) ≡ true → other ≤ newest)

-- of two versions the newer one, where there are any
abbrev pub newer : Option ℕ → Option ℕ → Option ℕ
newer None other = other
newer (Some one) None = Some one
newer (Some one) (Some other) = Some (if nat_lt one other then other else one)
