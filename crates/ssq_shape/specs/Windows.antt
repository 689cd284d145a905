-- Windows that a query can have.
use Rattle.std.specs.Prelude.{◌≤ℤ◌, ◌*ℤ◌, ◌≤◌, ℤ, pos, Bool, true, false, length, filter}
use Rattle.std.specs.List.{AllByRecursion}
use Rattle.ssq_time.specs.Time.{IsSpan}
use Rattle.ssq_shape.specs.declared.bound.Bound.{Bound}
use Rattle.ssq_shape.specs.declared.bound.GroupKey.{GroupKey}
use Rattle.ssq_shape.specs.declared.bound.GroupKey.TheVariants as key
use Rattle.ssq_shape.specs.declared.bound.Grouping.{Grouping}
use Rattle.ssq_shape.specs.declared.bound.Shape.{Shape}
use Rattle.ssq_shape.specs.declared.bound.Shape.TheVariants as shape

-- the size of a window and its slide are spans, and the size is one to 64 slides
pub record IsWindow (size slide : ℤ) : Type 0 where
  pub size_is : IsSpan size
  pub slide_is : IsSpan slide
  pub least : slide ≤ℤ size
  pub most : size ≤ℤ (pos 64 *ℤ slide)

abbrev pub HasWindow : GroupKey → Type 0
HasWindow (key.Column column) = Unit {0}
HasWindow (key.Window column size slide) = IsWindow size slide

abbrev pub is_window : GroupKey → Bool
is_window (key.Column column) = false
is_window (key.Window column size slide) = true

-- each window of a grouping is one, and there is at most one
pub record HasGroupWindows (grouping : Grouping) : Type 0 where
  pub each : AllByRecursion HasWindow grouping.keys
  pub one : length (filter is_window grouping.keys) ≤ 1

-- the windows of a query by its shape
abbrev pub HasWindowsBy : Shape → Type 0
HasWindowsBy shape.Plain = Unit {0}
HasWindowsBy (shape.Group grouping) = HasGroupWindows grouping
HasWindowsBy (shape.Dedup columns) = Unit {0}
HasWindowsBy (shape.Join joining) = Unit {0}

abbrev pub HasWindows : Bound → Type 0
HasWindows query = HasWindowsBy query.shape
