-- What a row has for the parts of a key.
use Rattle.std.specs.Prelude.{ℤ, pos, ◌+ℤ◌, ◌*ℤ◌, List, [], ◌∷◌, ◌++◌, map, All}
use Rattle.std.specs.List.{range_with_len}
use Rattle.ssq_time.specs.Time.{IsLineTime}
use Rattle.ssq_value.specs.declared.value.Value.{Value}
use Rattle.ssq_value.specs.declared.value.Value.TheVariants as value
use Rattle.ssq_value.specs.Kind.{IfTime}
use Rattle.ssq_meaning.specs.Fit.{IsFit}
use Rattle.ssq_meaning.specs.Meaning.{Values}
use Rattle.ssq_feed.specs.declared.starts.Starts.{Starts}
use Rattle.ssq_feed.specs.declared.key_values.KeyValues.{KeyValues}
use Rattle.ssq_feed.specs.declared.key_values.KeyValues.TheVariants as values

-- a row that was read: its times are of the years 1000 to 9000, and its values are ones that a query can keep
pub record IsReadRow (row : Values) : Type 0 where
  pub years : All (IfTime IsLineTime) row
  pub fit : All IsFit row

-- the starts, in order
abbrev pub starts_of : Starts → List ℤ
starts_of starts = map (λ k. starts.first +ℤ (pos k *ℤ starts.slide)) (range_with_len 0 starts.count)

-- the values, in order
abbrev pub all_of : KeyValues → List Value
all_of (values.Cell cell) = cell.now ∷ []
all_of values.Null = value.Null ∷ []
all_of (values.Starts starts) = map value.Time (starts_of starts)
all_of values.NoWindow = []

-- the keys that begin with this front, and go on with one of these
abbrev pub begun_with : Values → List Values → List Values
begun_with front keys = map (λ rest. front ++ rest) keys
