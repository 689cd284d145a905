-- Upkeep is done: no snapshot is due, and no file may go.
use Rattle.std.specs.Prelude.{◌≡◌, ◌<◌, ℕ, Bool, true, List, is_some}
use Rattle.ssq_outside.specs.declared.name.Name.{Name}
use Rattle.ssq_outside.specs.Files.{Files}
use Rattle.ssq_upkeep.specs.Upkeep.{Goes, IsDue, IsDueAmong, MayGo, is_of}
use Rattle.ssq_board.specs.Shelf.{last_before}

-- By the names of the state's files, all of which are settled, where so many epochs are committed: no snapshot is due of the partitions that keep
-- state, and no file may go.
pub record NeedsNoUpkeep (keeping partitions committed : ℕ) (names : List Name) : Type 0 where
  pub none_due : (p v : ℕ) → p < keeping → IsDue names names p (last_before committed) v → ⊥
  pub none_goes : (q : Name) → Goes names names partitions (last_before committed) q → ⊥

-- the file is there
abbrev pub is_there : Files → Name → Bool
is_there files q = is_some (files q)

-- And by the files themselves, all of which are settled: no snapshot is due of the partitions that keep state, and no file of the state of any
-- partition may go.
pub record IsKeptUp (keeping partitions : ℕ) (files : Files) : Type 0 where
  pub none_due : (p v : ℕ) → p < keeping → IsDueAmong (is_there files) (is_there files) p v → ⊥
  pub none_goes : (q : Name) → is_of partitions q ≡ true → is_there files q ≡ true → MayGo (is_there files) q → ⊥
