-- The states of a query, as its files hold them.
use Rattle.std.specs.Prelude.{◌≡◌, ◌<◌, ◌≤◌, ◌+◌, ◌^◌, ℕ, [], All, length, sum}
use Rattle.ssq_shape.specs.declared.bound.Bound.{Bound}
use Rattle.ssq_shape.specs.declared.bound.Grouping.{Grouping}
use Rattle.ssq_shape.specs.declared.bound.Joining.{Joining}
use Rattle.ssq_shape.specs.declared.bound.Shape.{Shape}
use Rattle.ssq_shape.specs.declared.bound.Shape.TheVariants.{Plain, Group, Dedup, Join}
use Rattle.ssq_shape.specs.declared.bound.Stream.{Stream}
use Rattle.ssq_shape.specs.Windows.{HasGroupWindows}
use Rattle.ssq_meaning.specs.Cut.{AreCuts}
use Rattle.ssq_version.specs.State.{Ascends, IsState, IsChange, between}
use Rattle.ssq_version.specs.Text.{delta_text, snapshot_text}
use Rattle.ssq_core.specs.Course.{Cuts}
use Rattle.ssq_course.specs.Setting.{Setting, parts_in, cut_of, cuts_of, state_at, course_of}

-- ---- of any rows

-- The files of the state are those of states, version by version: a snapshot is that of the state after its version, a delta that of the
-- change from the state before its version. Before epoch 0 the state is empty, and the keys of each state ascend.
pub record AreOfStates (s : Setting) (cuts : Cuts) : Type 0 where
  pub snapshots : (p v : ℕ) → (course_of s cuts).state p (v + 1) ≡ snapshot_text p v (state_at s cuts p (v + 1))
  pub deltas : (p v : ℕ) → (course_of s cuts).delta p v ≡ delta_text p v (between (state_at s cuts p v) (state_at s cuts p (v + 1)))
  pub start : (p : ℕ) → state_at s cuts p 0 ≡ []
  pub ascend : (p e : ℕ) → Ascends (state_at s cuts p e)

-- ---- of rows that can be held

-- Groups within the limits of the language: GROUP BY has at most 64 parts, at most one of them a window, of one to 64 slides, and there are
-- at most 64 aggregates. A value has 1,048,581 bytes at most, so that the bytes of a key, and of its totals, are fewer than 2^32, whatever
-- the lines are.
pub record AreWithinLimits (grouping : Grouping) : Type 0 where
  pub keys : length grouping.keys ≤ 64
  pub aggregates : length grouping.aggregates ≤ 64
  pub windows : HasGroupWindows grouping

-- A join within the limits of the language: ON has at most 64 key equalities, and each stream at most 64 columns. So the bytes of a row's key,
-- and of its values, are fewer than 2^32, whatever the lines are.
abbrev pub HasFewColumns : Stream → Type 0
HasFewColumns stream = length stream.schema.columns ≤ 64

pub record HasFewCells (query : Bound) (joining : Joining) : Type 0 where
  pub keys : length joining.keys ≤ 64
  pub columns : All HasFewColumns query.streams

-- The cuts of the first n epochs begin with no line and never fall, and they cover fewer than 2^57 lines of all parts. A line feeds at most
-- 64 rows, so that fewer than 2^63 are accepted.
pub record CoverFewLines (s : Setting) (cuts : Cuts) (n : ℕ) : Type 0 where
  pub are_cuts : AreCuts (parts_in s) (cuts_of cuts) n
  pub few : sum (cut_of (cuts n)) < 2 ^ 57

-- Whether the states of the first n epochs can be held, by the query's shape: those of groups where these are within the limits and the
-- lines are few, those of rows without repeats where DEDUPLICATE has at most 64 columns and the lines are few, and those of joined rows where the
-- join is within the limits and the lines are few.
abbrev pub CanHoldBy : Shape → Setting → Cuts → ℕ → Type 0
CanHoldBy Plain s cuts n = Unit {0}
CanHoldBy (Group grouping) s cuts n = AreWithinLimits grouping × CoverFewLines s cuts n
CanHoldBy (Dedup columns) s cuts n = (length columns ≤ 64) × CoverFewLines s cuts n
CanHoldBy (Join joining) s cuts n = HasFewCells s.job.bound joining × CoverFewLines s cuts n

abbrev pub CanHold : Setting → Cuts → ℕ → Type 0
CanHold s cuts n = CanHoldBy s.job.bound.shape s cuts n

-- The states of the first n epochs, and what these epochs change, have a spelling: keys ascend, keys and values are after lengths in four
-- bytes, and entries are counted in eight.
pub record AreStates (s : Setting) (cuts : Cuts) (n : ℕ) : Type 0 where
  pub states : (p e : ℕ) → e ≤ n → IsState (state_at s cuts p e)
  pub few : (p e : ℕ) → e ≤ n → length (state_at s cuts p e) < 2 ^ 64
  pub changes : (p v : ℕ) → v < n → IsChange (between (state_at s cuts p v) (state_at s cuts p (v + 1)))
  pub few_changes : (p v : ℕ) → v < n → length (between (state_at s cuts p v) (state_at s cuts p (v + 1))) < 2 ^ 64

abbrev pub StatesCanBeHeld : Type 0
StatesCanBeHeld = (s : Setting) (cuts : Cuts) (n : ℕ) → CanHold s cuts n → AreStates s cuts n
