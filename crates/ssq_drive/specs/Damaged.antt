-- Which file is damaged that upkeep read.
use Rattle.std.specs.Prelude.{◌≡◌, ◌⊎◌, ◌<◌, ◌+◌, ◌%◌, ℕ, true, List, All, Option, Some, IfSome}
use Rattle.ssq_outside.specs.declared.name.Name.{Name}
use Rattle.ssq_outside.specs.Files.{Files}
use Rattle.ssq_outside.specs.History.{History, files_now}
use Rattle.ssq_upkeep.specs.Upkeep.{is_among}
use Rattle.ssq_meaning.specs.Meaning.{Line}
use Rattle.ssq_store.specs.Loaded.{IsDamaged, files_in}
use Rattle.ssq_board.specs.Shelf.{acknowledged_in}
use Rattle.ssq_ledger.specs.Shown.{Shown}
use Rattle.ssq_desk.specs.declared.round.Round.{Round}
use Rattle.ssq_desk.specs.Contents.{keeping_in}
use Rattle.ssq_desk.specs.Round.{Owns, setting_of}
use Rattle.ssq_desk.specs.Upkeep.{files_for, first_missing, names_in}

-- A snapshot was to be made, of a partition that keeps state and of a version that is the last of ten (9, 19, 29 ..) and is acknowledged; and a file
-- that makes that state, by a snapshot below it where there is one, is damaged: it is the first of these files that is not there; or, all of them
-- being there, the first that is not the canonical file of its name.
pub record IsDamagedIn (keeping acknowledged : ℕ) (files : Files) (q : Name) : Type 0 where
  pub partition : ℕ
  pub version : ℕ
  pub below : Option ℕ
  pub keeps : partition < keeping
  pub tenth : version % 10 ≡ 9
  pub known : version < acknowledged
  pub older : IfSome below (λ b. b < version)
  pub needed : is_among (files_for partition version below) q ≡ true
  pub is : (first_missing files (files_for partition version below) ≡ Some q) ⊎ ((read : List (Name × List ℕ)) × (names_in read ≡ files_for partition version below) × All (λ file. files file.0 ≡ Some file.1) read × IsDamaged (files_in read) partition (version + 1) q)

-- It is so of the disk of a desk, where that tells what it holds; and never where what was opened is the job's own.
abbrev pub HasDamaged : {D L : Type 0} → (stores logs : Type 0) → (D → History) → (L → List Line) → Shown D (Round L) → Name → Type 0
HasDamaged stores logs history lines shown q =
    (Owns stores logs history lines shown → ⊥) × (stores → IsDamagedIn (keeping_in (setting_of lines shown.opening)) (acknowledged_in shown.core) (files_now (history shown.disk)) q)
