-- Faults of the outside are counted, so that no call can answer one that did not happen.
use Rattle.std.specs.Prelude.{◌≡◌, ◌<◌, ◌≤◌, ◌+◌, ◌-◌, ◌^◌, ℕ, min}

-- a count rose in a call, or stands at the last value of its 64 bits
abbrev pub Rises : ℕ → ℕ → Type 0
Rises before now = min (before + 1) (2 ^ 64 - 1) ≤ now

-- An object that never fails stays so and counts nothing, below 2 ^ 62 moments.
pub record StaysSure (moment before now : ℕ) (IsSure : Type 0) : Type 0 where
  pub same : moment < 2 ^ 62 → now ≡ before
  pub still : moment < 2 ^ 62 → IsSure
