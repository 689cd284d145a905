-- What is found once of a query, for all lines of a part.
use Rattle.std.specs.Prelude.{◌≡◌, ℕ, IfSome}
use Rattle.ssq_shape.specs.declared.bound.Shape.{Shape}
use Rattle.ssq_meaning.specs.Keyed.{key_time}
use Rattle.ssq_meaning.specs.Meaning.{Values, layout_at}
use Rattle.ssq_meaning.specs.Placed.{HasSpan, placed_time}
use Rattle.ssq_meaning.specs.Windows.{HasWindows}
use Rattle.ssq_feed.specs.declared.query.Query.{Query}
use Rattle.ssq_feed.specs.Keys.{IsReadRow}

-- The layout is that of the stream, and the time of each key stands at the place. The query's windows are ones that it can have.
pub record IsFoundFor (stream : ℕ) (query : Query) : Type 0 where
  pub windows : HasWindows query.bound.now
  pub layout : query.schema.now ≡ layout_at query.bound.now stream
  pub time : (key : Values) → key_time query.bound.now key ≡ placed_time query.place key
  pub span : IfSome query.place HasSpan

-- A query of this shape can hand on a row of the stream: what is found once of the query is for this stream, and the row was read.
pub record IsHandedBy (stream : ℕ) (query : Query) (own : Shape) (row : Values) : Type 0 where
  pub found : IsFoundFor stream query
  pub shape : query.bound.now.shape ≡ own
  pub read : IsReadRow row
