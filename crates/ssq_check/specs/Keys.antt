-- What rows are grouped by.
use Rattle.std.specs.Prelude.{Bool, true, false, ◌&&◌, nat_eq, List}
use Rattle.std.specs.List.{list_any}
use Rattle.ssq_check.specs.declared.scope.Key.{Key}
use Rattle.ssq_check.specs.declared.scope.Key.TheVariants as key
use Rattle.ssq_check.specs.declared.scope.Side.{Side}
use Rattle.ssq_check.specs.declared.scope.Side.TheVariants as side
use Rattle.ssq_check.specs.declared.scope.Spot.{Spot}

abbrev pub is_window_key : Key → Bool
is_window_key key.Window = true
is_window_key (key.Column spot) = false

abbrev pub has_window : List Key → Bool
has_window keys = list_any is_window_key keys

abbrev pub is_same_side : Side → Side → Bool
is_same_side side.Left side.Left = true
is_same_side side.Left side.Right = false
is_same_side side.Right side.Left = false
is_same_side side.Right side.Right = true

abbrev pub is_key_of : Spot → Key → Bool
is_key_of spot key.Window = false
is_key_of spot (key.Column own) = is_same_side own.side spot.side && nat_eq own.index spot.index

-- rows are grouped by the column
abbrev pub is_key : List Key → Spot → Bool
is_key keys spot = list_any (is_key_of spot) keys
