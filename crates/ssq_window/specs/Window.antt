-- Windows of event time: half open, aligned to 1970-01-01T00:00:00Z.
use Rattle.std.specs.Prelude.{◌≡◌, ℕ, ◌+◌, ◌-◌, ◌*◌, ◌/◌, ◌<◌, ◌≤◌, ℤ, pos, ◌+ℤ◌, ◌-ℤ◌, ◌*ℤ◌, ◌<ℤ◌, ◌≤ℤ◌, unsigned_abs}
use Rattle.std.specs.Int.{int_rem_euclid}

-- a window [start, start + size) that begins at a multiple of the slide and contains the time
pub record IsWindow (t size slide start : ℤ) : Type 0 where
  pub aligned : (n : ℤ) × (start ≡ n *ℤ slide)
  pub begun : start ≤ℤ t
  pub unfinished : t <ℤ (start +ℤ size)

-- those that begin at `first` and at each of the next `count - 1` slides are the windows that contain the time, and no others are
pub record AreWindows (t size slide first : ℤ) (count : ℕ) : Type 0 where
  pub each : (k : ℕ) → k < count → IsWindow t size slide (first +ℤ (pos k *ℤ slide))
  pub only : (start : ℤ) → IsWindow t size slide start → (k : ℕ) × (k < count) × (start ≡ first +ℤ (pos k *ℤ slide))

-- how long before the time the last window begins, which begins at the greatest multiple of the slide not above the time
abbrev pub rest_of : ℤ → ℤ → ℕ
rest_of t slide = unsigned_abs (int_rem_euclid t slide)

-- how many windows contain the time: one that begins k slides before the last does while `rest + k slide` is below the size
abbrev pub window_count : ℤ → ℤ → ℤ → ℕ
window_count t size slide = (unsigned_abs size - rest_of t slide + (unsigned_abs slide - 1)) / unsigned_abs slide

-- the start of the first of them
abbrev pub first_start : ℤ → ℤ → ℤ → ℤ
first_start t size slide = t -ℤ pos (rest_of t slide + (window_count t size slide - 1) * unsigned_abs slide)

-- that many slides cover what is left of the size after the time, and one slide less does not
pub record Covers (rest size slide count : ℕ) : Type 0 where
  pub some : 1 ≤ count
  pub few : size ≤ 64 * slide → count ≤ 64
  pub short : (count - 1) * slide + rest < size
  pub long : size ≤ count * slide + rest
