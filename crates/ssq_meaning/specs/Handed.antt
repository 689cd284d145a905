-- What a map task hands on of a row.
use Rattle.std.specs.Prelude.{ℤ, Option}
use Rattle.ssq_meaning.specs.Meaning.{Values}

-- What is handed on of a row, beside its place: its key, its time key, and what the operator needs of it.
pub record Handed : Type 0 where
  pub key : Values
  pub time : Option ℤ
  pub values : Values
