-- The keys of a query of any shape: how many values they have, and their times.
use Rattle.std.specs.Prelude.{ℕ, ℤ, Bool, false, length, Option, None, is_some}
use Rattle.ssq_shape.specs.declared.bound.Bound.{Bound}
use Rattle.ssq_shape.specs.declared.bound.Mode.{Mode}
use Rattle.ssq_shape.specs.declared.bound.Mode.TheVariants as mode
use Rattle.ssq_shape.specs.declared.bound.Shape.{Shape}
use Rattle.ssq_shape.specs.declared.bound.Shape.TheVariants.{Plain, Group, Dedup, Join}
use Rattle.ssq_shape.specs.declared.late.TimeKey.{TimeKey}
use Rattle.ssq_shape.specs.Late.{time_key}
use Rattle.ssq_meaning.specs.Dedup as dedup
use Rattle.ssq_meaning.specs.Group as group
use Rattle.ssq_meaning.specs.Meaning.{Values}

-- How many values a key has: none where nothing is kept. A join keeps rows, and no keys by themselves.
abbrev pub key_length_by : Shape → ℕ
key_length_by Plain = 0
key_length_by (Group grouping) = length grouping.keys
key_length_by (Dedup columns) = length columns
key_length_by (Join joining) = 0

abbrev pub key_length : Bound → ℕ
key_length query = key_length_by query.shape

-- The time of a key: where it is past the key is closed, and kept no more. A join forgets rows by their own times.
abbrev pub key_time_by : Shape → Bound → Values → Option ℤ
key_time_by Plain query key = None
key_time_by (Group grouping) query key = group.closing_time query grouping key
key_time_by (Dedup columns) query key = dedup.closing_time query columns key
key_time_by (Join joining) query key = None

abbrev pub key_time : Bound → Values → Option ℤ
key_time query key = key_time_by query.shape query key

-- Whether keys have times, by the time that keys of the shape have: in Complete none has, since nothing is closed.
abbrev pub keys_have_times_in : Mode → Option TimeKey → Bool
keys_have_times_in mode.Append time = is_some time
keys_have_times_in mode.Update time = is_some time
keys_have_times_in mode.Complete time = false

abbrev pub keys_have_times : Bound → Bool
keys_have_times query = keys_have_times_in query.mode (time_key query)
