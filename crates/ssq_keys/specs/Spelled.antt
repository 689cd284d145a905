-- A value as bytes spell it, whose text stands in them.
use Rattle.ssq_value.specs.declared.value.Value.{Value}
use Rattle.ssq_value.specs.declared.value.Value.TheVariants as cell
use Rattle.ssq_keys.specs.declared.value.Spelled.{Spelled}
use Rattle.ssq_keys.specs.declared.value.Spelled.TheVariants.{Null, Truth, Int, Time, Text}

-- the value that it is
abbrev pub value_of : Spelled → Value
value_of Null = cell.Null
value_of (Truth truth) = cell.Truth truth
value_of (Int number) = cell.Int number
value_of (Time time) = cell.Time time
value_of (Text text) = cell.Text text.now
