-- Queries whose keys have no times.
use Rattle.std.proofs.Common.{◌≡◌, [], ◌∷◌, ℕ, ℤ, List, Option, Some, None, Bool, true, false, true≢false, refl, ap}
use Rattle.std.specs.Prelude.{◌||◌, if◌then◌else◌, is_some}
use Rattle.std.specs.List.{list_any}
use Rattle.ssq_shape.specs.declared.bound.Bound.{Bound}
use Rattle.ssq_shape.specs.declared.bound.Mode.{Mode}
use Rattle.ssq_shape.specs.declared.bound.Mode.TheVariants as mode
use Rattle.ssq_shape.specs.declared.bound.Shape.{Shape}
use Rattle.ssq_shape.specs.declared.bound.Shape.TheVariants.{Plain, Group, Dedup, Join}
use Rattle.ssq_shape.specs.declared.late.TimeKey.{TimeKey}
use Rattle.ssq_shape.specs.Evaluation.{time_in}
use Rattle.ssq_shape.specs.Late.{event_of, is_event, repeated_by, time_key, time_key_of}
use Rattle.ssq_meaning.specs.Dedup as dedup
use Rattle.ssq_meaning.specs.Group.{closing_time, time_by, unless_complete}
use Rattle.ssq_meaning.specs.Keyed.{key_time, key_time_by, keys_have_times, keys_have_times_in}
use Rattle.ssq_meaning.specs.Meaning.{Values}

is_none : {X : Type 0} (o : Option X) → is_some o ≡ false → o ≡ None
is_none None none = refl
is_none (Some x) none = absurd (true≢false none)

-- none of the columns is the event column
no_event : (event : Option ℕ) (columns : List ℕ) (values : Values) → list_any (is_event event) columns ≡ false → dedup.event_time event columns values ≡ None
unfolding dedup.event_time
no_event event [] values none = refl
no_event event (column ∷ columns) [] none = refl
no_event event (column ∷ columns) (value ∷ values) none = by (is_event event column) none (no_event event columns values)
  where
    by : (b : Bool) → (b || list_any (is_event event) columns) ≡ false → (list_any (is_event event) columns ≡ false → dedup.event_time event columns values ≡ None)
        → (if b then time_in value else dedup.event_time event columns values) ≡ None
    by true none rest = absurd (true≢false none)
    by false none rest = rest none

no_columns : (event : Option ℕ) (columns : List ℕ) → is_some (repeated_by event columns) ≡ false → list_any (is_event event) columns ≡ false
unfolding repeated_by
no_columns event columns none = by (list_any (is_event event) columns) none
  where
    by : (b : Bool) → is_some (if b then Some TimeKey.EventTime else None) ≡ false → b ≡ false
    by true none = absurd (true≢false none)
    by false none = refl

-- where keys have no times, nothing is closed: by the mode, or for want of a time
closes_nothing : (own : Mode) (time : Option TimeKey) (key_time : Option ℤ) → (is_some time ≡ false → key_time ≡ None) → keys_have_times_in own time ≡ false → unless_complete own key_time ≡ None
closes_nothing mode.Append time key_time is none = is none
closes_nothing mode.Update time key_time is none = is none
closes_nothing mode.Complete time key_time is none = refl

-- a query whose keys have no times has no key with a time
pub untimed : (query : Bound) → keys_have_times query ≡ false → (key : Values) → key_time query key ≡ None
unfolding closing_time dedup.closing_time
untimed query none key = by query.shape none
  where
    event : Option ℕ
    event = event_of query.streams

    by : (shape : Shape) → keys_have_times_in query.mode (time_key_of event shape) ≡ false → key_time_by shape query key ≡ None
    by Plain other = refl
    by (Group grouping) other = closes_nothing query.mode (time_key query) (time_by (time_key query) event grouping.keys key) timeless none
      where
        timeless : is_some (time_key query) ≡ false → time_by (time_key query) event grouping.keys key ≡ None
        timeless no_key = ap (λ (time : Option TimeKey). time_by time event grouping.keys key) (is_none (time_key query) no_key)
    by (Dedup columns) other = closes_nothing query.mode (time_key_of event (Dedup columns)) (dedup.event_time event columns key) timeless other
      where
        timeless : is_some (time_key_of event (Dedup columns)) ≡ false → dedup.event_time event columns key ≡ None
        timeless no_key = no_event event columns key (no_columns event columns no_key)
    by (Join joining) other = refl
