-- What is fed of a row.
use Rattle.std.specs.Prelude.{ℕ, ℤ, Option}
use Rattle.ssq_meaning.specs.Meaning.{Values}

-- What a map task hands on of a row of its part, with the row's place.
pub record FedRow : Type 0 where
  -- the epoch whose line the row is
  pub epoch : ℕ
  -- the place of the row's stream in the order of FROM, from 0
  pub stream : ℕ
  -- the part of that stream, from 0
  pub part : ℕ
  -- the row's line in that part, from 0
  pub offset : ℕ
  -- what says the row's partition: its group values, its DEDUPLICATE columns or its join key; none of a query that keeps nothing
  pub key : Values
  -- The time by which the row may be late, in microseconds since 1970, where it has one: of a grouped query, or one that deduplicates, that of
  -- its key, and none in Complete; of a join its event time, where the join has a bound.
  pub time : Option ℤ
  -- What the query's operator needs of the row: of a query that keeps nothing, or one that deduplicates, the row as SELECT shows it; of a
  -- grouped query, for each aggregate the value of its argument, TRUE for `COUNT(*)`; of a join, the row as it was read.
  pub values : Values
