-- What a query does with the rows that are fed: the operator of its shape.
use Rattle.std.specs.Prelude.{ℕ, ℤ, Bool, false, List, [], ◌++◌, map, filter, filter_map, Option, None}
use Rattle.ssq_shape.specs.declared.bound.Bound.{Bound}
use Rattle.ssq_shape.specs.declared.bound.Shape.{Shape}
use Rattle.ssq_shape.specs.declared.bound.Grouping.{Grouping}
use Rattle.ssq_shape.specs.declared.bound.Joining.{Joining}
use Rattle.ssq_shape.specs.declared.bound.Shape.TheVariants.{Plain, Group, Dedup, Join}
use Rattle.ssq_meaning.specs.FedRows.{FedRow}
use Rattle.ssq_meaning.specs.Dedup as repeats
use Rattle.ssq_meaning.specs.Group.{row_of_key, key_overflows, due_keys, least_key, kept}
use Rattle.ssq_meaning.specs.Join as pairs
use Rattle.ssq_meaning.specs.Meaning.{Values}
use Rattle.ssq_meaning.specs.Times.{is_past}

-- An operator, by the rows that were accepted before an epoch (old) and those of the epoch itself that are not late (new), and by the
-- watermarks of the epoch before and its own.
pub record Operator : Type 0 where
  -- whether a row is late at a watermark
  pub is_late : Option ℤ → FedRow → Bool
  -- the rows that the epoch shows
  pub added : (old new : List FedRow) → (before now : Option ℤ) → List Values
  -- the least key on which what the epoch shows overflows
  pub fault : (old new : List FedRow) → (before now : Option ℤ) → Option Values
  -- the keyed state that accepted rows leave at a watermark: keys ascending, each with its value, both as bytes
  pub state : (rows : List FedRow) → (now : Option ℤ) → List (List ℕ × List ℕ)

-- Plain: no row is late, the epoch shows the projection of each of its rows, no key overflows, and nothing is kept.
abbrev pub plain : Operator
plain = record {
  is_late = λ now row. false;
  added = λ old new before now. map (λ row. row.values) new;
  fault = λ old new before now. None;
  state = λ rows now. [];
}

-- Groups: a row is late where its key's time is past; an epoch shows the rows of the keys that it considers, over all rows that were
-- accepted, and its fault is the least of these keys that overflows; what is open is kept.
abbrev pub group : Bound → Grouping → Operator
group query grouping = record {
  is_late = λ now row. is_past now row.time;
  added = λ old new before now. filter_map (row_of_key query grouping (old ++ new)) (due_keys query grouping old new before now);
  fault = λ old new before now. least_key (filter (key_overflows query grouping (old ++ new)) (due_keys query grouping old new before now));
  state = kept query grouping;
}

-- Rows without repeats: a row is late where its key's time is past; an epoch shows those of its rows whose key no accepted row before them
-- has; no key overflows; what is open is kept.
abbrev pub dedup : Bound → List ℕ → Operator
dedup query columns = record {
  is_late = λ now row. is_past now row.time;
  added = λ old new before now. repeats.values_in (repeats.firsts old new);
  fault = λ old new before now. None;
  state = repeats.kept query columns;
}

-- Pairs of rows of two streams: a row is late where its event time is past; an epoch shows the rows of what it considers, over all rows that
-- were accepted, and its fault is the least key of what overflows; rows that are not over are kept.
abbrev pub join : Bound → Joining → Operator
join query joining = record {
  is_late = λ now row. is_past now row.time;
  added = λ old new before now. pairs.shown_among (pairs.considered query joining old new before now);
  fault = λ old new before now. least_key (pairs.faulty_among (pairs.considered query joining old new before now));
  state = pairs.kept joining;
}

-- The operator of a shape, for a query of that shape.
abbrev pub operator_for : Shape → Bound → Operator
operator_for Plain query = plain
operator_for (Group grouping) query = group query grouping
operator_for (Dedup columns) query = dedup query columns
operator_for (Join joining) query = join query joining

unfoldable pub operator_of : Bound → Operator
operator_of query = operator_for query.shape query
