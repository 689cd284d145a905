-- The last row of each key, kept by keys.
use Rattle.std.specs.Prelude.{◌≡◌, ℕ, List, sum_by}
use Rattle.std.specs.List.{All, AllByRecursion}
use Rattle.std.specs.Map.{values_of}
use Rattle.ssq_time.specs.Time.{IsStampTime}
use Rattle.ssq_value.specs.Kind.{IfTime}
use Rattle.ssq_shape.specs.declared.bound.Output.{Output}
use Rattle.ssq_meaning.specs.Meaning.{Values}
use Rattle.ssq_meaning.specs.Table.{key_cells}
use Rattle.ssq_sink.specs.Table.{last_rows}

-- Of these rows the last of each key is kept, under its own key, and no other; and each that is kept has a text. That the same rows are kept is said so:
-- any number of each row adds up to the same.
pub record IsLatest (outputs : List Output) (rows : List Values) (entries : List (Values × Values)) : Type 0 where
  pub same : (f : Values → ℕ) → sum_by f (values_of entries) ≡ sum_by f (last_rows outputs rows)
  pub own : AllByRecursion (λ entry. entry.0 ≡ key_cells outputs entry.1) entries
  pub timed : All (All (IfTime IsStampTime)) (values_of entries)
