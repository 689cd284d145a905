-- The rows of a join, by their streams.
use Rattle.std.specs.Prelude.{◌≡◌, ◌<◌, ℕ, List, All, length}
use Rattle.ssq_shape.specs.declared.bound.Bound.{Bound}
use Rattle.ssq_shape.specs.declared.bound.Joining.{Joining}
use Rattle.ssq_shape.specs.declared.bound.Shape.TheVariants as shape
use Rattle.ssq_meaning.specs.FedRows.{FedRow}
use Rattle.ssq_meaning.specs.Cut.{Cuts}
use Rattle.ssq_meaning.specs.Meaning.{Line, layout_at}
use Rattle.ssq_meaning.specs.Parts.{Part, parts_of}

-- a row has a value for each column of its stream
abbrev pub IsWide : Bound → FedRow → Type 0
IsWide query row = length row.values ≡ length (layout_at query row.stream).columns

-- What is said of the rows that an epoch, or the first epochs, leave of the parts of a query that joins: each is wide; and where there are so
-- many streams, it is of one of these.
pub record AreWide (query : Bound) (rows : List Part → Cuts → ℕ → List FedRow) : Type 0 where
  pub wide : (parts : List Part) (cuts : Cuts) (e : ℕ) → All (IsWide query) (rows parts cuts e)
  pub stream : (counts : List ℕ) (lines : List (List Line)) (cuts : Cuts) (e : ℕ) → All (λ row. row.stream < length counts) (rows (parts_of counts lines) cuts e)

-- so it is of a query that joins
abbrev pub JoinedRowsAreWide : (Bound → List Part → Cuts → ℕ → List FedRow) → Type 0
JoinedRowsAreWide rows = (query : Bound) (joining : Joining) → query.shape ≡ shape.Join joining → AreWide query (rows query)
