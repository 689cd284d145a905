-- What a disk was at each moment, so that a clause can speak of every moment inside a call.
use Rattle.std.specs.Prelude.{◌≡◌, ◌<◌, ◌≤◌, ℕ}
use Rattle.ssq_outside.specs.Files.{Files, Had, files_of, IsImage}

-- The clock, and what each name had at each of its moments. Each step that changes what a crash may leave raises
-- the clock.
pub record History : Type 0 where
  pub moment : ℕ
  pub had_at : ℕ → Had

-- what each name has had, now
abbrev pub had_now : History → Had
had_now h = h.had_at h.moment

-- the files, now
abbrev pub files_now : History → Files
files_now h = files_of (had_now h)

-- Time goes on from old to new, and at each moment in between the disk is as allowed. A call that fails in between
-- therefore leaves what its start or its success allows.
pub record Elapses (old new : History) (IsAllowed : Had → Type 0) : Type 0 where
  pub later : old.moment ≤ new.moment
  pub kept : (k : ℕ) → k ≤ old.moment → new.had_at k ≡ old.had_at k
  pub fresh : (k : ℕ) → old.moment < k → k ≤ new.moment → IsAllowed (new.had_at k)

-- each image that a crash now may leave has P
pub record LeavesNow (h : History) (P : Files → Type 0) : Type 0 where
  pub each : (image : Files) → IsImage (had_now h) image → P image

-- Each image that a crash at a moment from old's on might have left has P.
pub record LeavesOnly (old new : History) (P : Files → Type 0) : Type 0 where
  pub later : old.moment ≤ new.moment
  pub kept : (k : ℕ) → k ≤ old.moment → new.had_at k ≡ old.had_at k
  pub each : (k : ℕ) → old.moment ≤ k → k ≤ new.moment → (image : Files) → IsImage (new.had_at k) image → P image

-- So far, from start to now: each image that a crash might have left has P, each that a crash now may leave has Q,
-- and the files have N.
pub record Run (start now : History) (P Q N : Files → Type 0) : Type 0 where
  pub since : LeavesOnly start now P
  pub present : LeavesNow now Q
  pub here : N (files_now now)
