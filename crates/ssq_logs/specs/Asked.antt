-- What logs were asked, and what they answered.
use Rattle.std.specs.Prelude.{◌≡◌, ◌⊎◌, ◌<◌, ◌≤◌, ◌+◌, ◌-◌, ◌^◌, ◌++◌, ℕ, List, [], ◌∷◌, length}
use Rattle.ssq_outside.specs.Faults.{Rises}
use Rattle.ssq_outside.specs.Logs.{Line}
use Rattle.ssq_logs.specs.declared.fault.LengthFault.{LengthFault}
use Rattle.ssq_logs.specs.declared.fault.LengthFault.TheVariants.{Full, LogFault, NoMemory}

-- the most lines that are taken of a part
abbrev pub most_lines : ℕ
most_lines = 1099511627776

module _ {L : Type 0} (tells : Type 0) (lines : L → List Line) (available : L → ℕ) (answers : L → List ℕ) (faults : L → ℕ) where
  -- A log was asked how many lines it has, and answered this: it has that many, which are no fewer than were known before, and its
  -- answer is on its list.
  pub record IsAnswered (before after : L) (found : ℕ) : Type 0 where
    pub same : tells → lines after ≡ lines before
    pub there : tells → available after ≡ found
    pub within : tells → found ≤ length (lines after)
    pub grown : tells → available before ≤ found
    pub told : tells → length (answers before) < 2 ^ 64 - 1 → answers after ≡ answers before ++ found ∷ []
    pub counted : faults before ≤ faults after

  -- a log that failed
  pub record HasFailed (before after : L) : Type 0 where
    pub same : tells → lines after ≡ lines before
    pub grown : tells → available before ≤ available after
    pub untold : tells → answers after ≡ answers before
    pub counted : faults before ≤ faults after
    pub cause : Rises (faults before) (faults after)

  -- each log was asked once, and answered so; none has too many lines
  abbrev pub AreAsked : (before after : List L) → List ℕ → Type 0
  AreAsked [] [] [] = Unit {0}
  AreAsked [] [] (n ∷ ns) = ⊥
  AreAsked [] (new ∷ news) ns = ⊥
  AreAsked (old ∷ olds) [] ns = ⊥
  AreAsked (old ∷ olds) (new ∷ news) [] = ⊥
  AreAsked (old ∷ olds) (new ∷ news) (n ∷ ns) = IsAnswered old new n × (n ≤ most_lines) × AreAsked olds news ns

  -- why the log of this number was the last that was asked
  abbrev pub IsStopAt : ℕ → L → L → LengthFault → Type 0
  IsStopAt number before after (Full at found) = (at ≡ number) × (most_lines < found) × IsAnswered before after found
  IsStopAt number before after LogFault = HasFailed before after
  IsStopAt number before after NoMemory = (found : ℕ) × IsAnswered before after found

  -- The logs were asked up to one that has too many lines, or failed, or after which memory ran out; those after it are as they
  -- were. The first of these has this number.
  abbrev pub IsStopped : ℕ → (before after : List L) → LengthFault → Type 0
  IsStopped number [] after fault = ⊥
  IsStopped number (old ∷ olds) [] fault = ⊥
  IsStopped number (old ∷ olds) (new ∷ news) fault = (IsStopAt number old new fault × (news ≡ olds))
      ⊎ ((found : ℕ) × IsAnswered old new found × (found ≤ most_lines) × IsStopped (number + 1) olds news fault)
