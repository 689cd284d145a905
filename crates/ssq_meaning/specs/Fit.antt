-- Rows that a state can hold.
use Rattle.std.specs.Prelude.{All}
pub use Rattle.ssq_shape.specs.Fit.{IsFit}
use Rattle.ssq_meaning.specs.FedRows.{FedRow}

-- each value of the row's key, and each that the operator needs, is one that a query can keep
pub record IsFitRow (row : FedRow) : Type 0 where
  pub key : All IsFit row.key
  pub values : All IsFit row.values
