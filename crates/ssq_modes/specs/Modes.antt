-- The table of modes: where each refusal applies, and which of them is told.
use Rattle.std.specs.Prelude.{◌≡◌, ℕ, zero, suc, ◌<◌, Bool, true, false, not, ◌&&◌, nat_eq, List, [], ◌∷◌, length, Option, Some, None}
use Rattle.std.specs.List.{list_any}
use Rattle.ssq_shape.specs.declared.bound.Bound.{Bound}
use Rattle.ssq_shape.specs.declared.bound.Mode.{Mode}
use Rattle.ssq_shape.specs.declared.bound.Mode.TheVariants as mode
use Rattle.ssq_shape.specs.declared.bound.Output.{Output}
use Rattle.ssq_shape.specs.declared.bound.Shape.{Shape}
use Rattle.ssq_shape.specs.declared.bound.Shape.TheVariants as shape
use Rattle.ssq_shape.specs.declared.bound.SortKey.{SortKey}
use Rattle.ssq_shape.specs.declared.bound.Stream.{Stream}
use Rattle.ssq_shape.specs.Late.{time_key, is_append, is_outer}
use Rattle.ssq_modes.specs.declared.fault.ModeFault.{ModeFault}
use Rattle.ssq_modes.specs.declared.fault.ModeFault.TheVariants as fault

abbrev pub is_there : {A : Type 0} → Option A → Bool
is_there None = false
is_there (Some a) = true

abbrev pub is_update : Mode → Bool
is_update mode.Append = false
is_update mode.Update = true
is_update mode.Complete = false

abbrev pub is_complete : Mode → Bool
is_complete mode.Append = false
is_complete mode.Update = false
is_complete mode.Complete = true

abbrev pub is_sorted : List SortKey → Bool
is_sorted [] = false
is_sorted (key ∷ keys) = true

-- groups in Append without a time key
abbrev pub append_without_time : Bound → Bool
append_without_time bound = by bound.shape where
  by : Shape → Bool
  by (shape.Group grouping) = is_append bound.mode && not (is_there (time_key bound))
  by _ = false

-- Complete, and no groups
abbrev pub complete_without_groups : Bound → Bool
complete_without_groups bound = by bound.shape where
  by : Shape → Bool
  by (shape.Group grouping) = false
  by _ = is_complete bound.mode

-- a join in Update
abbrev pub join_in_update : Bound → Bool
join_in_update bound = by bound.shape where
  by : Shape → Bool
  by (shape.Join joining) = is_update bound.mode
  by _ = false

-- an outer join without a bound
abbrev pub outer_without_bound : Bound → Bool
outer_without_bound bound = by bound.shape where
  by : Shape → Bool
  by (shape.Join joining) = is_outer joining.kind && not (is_there joining.bound)
  by _ = false

-- a stream without a watermark has no event column
abbrev pub is_unwatched : Stream → Bool
is_unwatched stream = not (is_there stream.schema.event)

-- a bound, and a stream without a watermark
abbrev pub bound_without_watermark : Bound → Bool
bound_without_watermark bound = by bound.shape where
  by : Shape → Bool
  by (shape.Join joining) = is_there joining.bound && list_any is_unwatched bound.streams
  by _ = false

-- ORDER BY, and not groups in Complete
abbrev pub sorted_elsewhere : Bound → Bool
sorted_elsewhere bound = by bound.shape where
  by : Shape → Bool
  by (shape.Group grouping) = is_sorted bound.order && not (is_complete bound.mode)
  by _ = is_sorted bound.order

-- HAVING in Update
abbrev pub having_in_update : Bound → Bool
having_in_update bound = by bound.shape where
  by : Shape → Bool
  by (shape.Group grouping) = is_update bound.mode && is_there grouping.having
  by _ = false

-- the item is the key of this index
abbrev pub is_key : ℕ → Output → Bool
is_key at output = by output.key where
  by : Option ℕ → Bool
  by None = false
  by (Some key) = nat_eq key at

-- each of the first `count` keys is an item by itself
unfoldable pub are_shown : List Output → ℕ → Bool
are_shown outputs zero = true
are_shown outputs (suc count) = list_any (is_key count) outputs && are_shown outputs count

-- groups in Update, and a key that is no item by itself; of a window neither its start nor its end
abbrev pub hides_a_key : Bound → Bool
hides_a_key bound = by bound.shape where
  by : Shape → Bool
  by (shape.Group grouping) = is_update bound.mode && not (are_shown bound.outputs (length grouping.keys))
  by _ = false

-- exactly where each refusal applies
unfoldable pub applies : Bound → ModeFault → Bool
applies bound fault.AppendNeedsWatermark = append_without_time bound
applies bound fault.CompleteNeedsAggregate = complete_without_groups bound
applies bound fault.JoinNeedsAppend = join_in_update bound
applies bound fault.OuterNeedsBound = outer_without_bound bound
applies bound fault.BoundNeedsWatermark = bound_without_watermark bound
applies bound fault.SortNeedsComplete = sorted_elsewhere bound
applies bound fault.HavingInUpdate = having_in_update bound
applies bound fault.KeyNotShown = hides_a_key bound

-- the order in which they are told
abbrev pub rank : ModeFault → ℕ
rank fault.AppendNeedsWatermark = 0
rank fault.CompleteNeedsAggregate = 1
rank fault.JoinNeedsAppend = 2
rank fault.OuterNeedsBound = 3
rank fault.BoundNeedsWatermark = 4
rank fault.SortNeedsComplete = 5
rank fault.HavingInUpdate = 6
rank fault.KeyNotShown = 7

-- no refusal applies
abbrev pub AppliesNone : Bound → Type 0
AppliesNone bound = (own : ModeFault) → applies bound own ≡ false

-- this refusal applies, and none that stands before it
pub record IsFirst (bound : Bound) (own : ModeFault) : Type 0 where
  pub stands : applies bound own ≡ true
  pub first : (other : ModeFault) → rank other < rank own → applies bound other ≡ false
