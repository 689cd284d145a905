-- Where the time of keys stands in them.
use Rattle.std.specs.Prelude.{ℕ, ℤ, ◌+ℤ◌, List, Option, Some, None, option_map, slice_get}
use Rattle.ssq_time.specs.Time.{IsSpan}
use Rattle.ssq_value.specs.declared.value.Value.{Value}
use Rattle.ssq_shape.specs.declared.bound.GroupKey.{GroupKey}
use Rattle.ssq_shape.specs.Evaluation.{cell_at, time_in}
use Rattle.ssq_meaning.specs.declared.place.KeyPlace.{KeyPlace}
use Rattle.ssq_meaning.specs.declared.place.KeyPlace.TheVariants.{Event, Window}
use Rattle.ssq_meaning.specs.Group.{end_of}
use Rattle.ssq_meaning.specs.Meaning.{Values}

-- which of a key's values its time is told by
abbrev pub place_at : KeyPlace → ℕ
place_at (Event at) = at
place_at (Window at size) = at

-- the time of a key that has this time there
abbrev pub time_from : KeyPlace → ℤ → ℤ
time_from (Event at) own = own
time_from (Window at size) own = own +ℤ size

-- the time of a key, by the value that stands there
abbrev pub placed_time : Option KeyPlace → Values → Option ℤ
placed_time None key = None
placed_time (Some place) key = option_map (time_from place) (time_in (cell_at key (place_at place)))

-- a window's size is a span of the language
abbrev pub HasSpan : KeyPlace → Type 0
HasSpan (Event at) = Unit {0}
HasSpan (Window at size) = IsSpan size

-- where the window ends of which a key has the start, by one of the parts of GROUP BY
abbrev pub end_if : Option GroupKey → Value → Option ℤ
end_if None start = None
end_if (Some part) start = end_of part start

-- where the window ends of a key, by the part of GROUP BY that stands there
abbrev pub end_at : List GroupKey → Values → ℕ → Option ℤ
end_at parts key at = end_if (slice_get parts at) (cell_at key at)
