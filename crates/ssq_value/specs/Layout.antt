-- What contracts see of a schema.
use Rattle.std.specs.Prelude.{◌≡◌, ℕ, ◌≤◌, List, length, slice_get, Option, Some}
use Rattle.std.specs.Option.{ForSome, option_map}
use Rattle.ssq_value.specs.declared.column.ColType.TheVariants.{Timestamp}
use Rattle.ssq_value.specs.declared.column.Column.{Column}

-- the columns, and the index of the event column, where there is one
pub record Layout : Type 0 where
  pub columns : List Column
  pub event : Option ℕ

-- a column stands at this index, and its type is TIMESTAMP
abbrev pub IsEvent : List Column → ℕ → Type 0
IsEvent columns at = option_map (λ column. column.kind) (slice_get columns at) ≡ Some Timestamp

-- what each schema keeps: at most 64 columns, and an event column that holds times
pub record IsLayout (layout : Layout) : Type 0 where
  pub few : length layout.columns ≤ 64
  pub time : ForSome layout.event (IsEvent layout.columns)
