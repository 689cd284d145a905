-- Rows that are shown can stand in a sink file.
use Rattle.std.specs.Prelude.{◌≡◌, ◌<◌, ℕ, List, map, length, All}
use Rattle.ssq_value.specs.declared.column.ColType.{ColType}
use Rattle.ssq_shape.specs.declared.bound.Bound.{Bound}
use Rattle.ssq_shape.specs.declared.bound.Output.{Output}
use Rattle.ssq_shape.specs.Windows.{HasWindows}
use Rattle.ssq_json.specs.Stored.{AreStoredIn}
use Rattle.ssq_meaning.specs.Cut.{Cuts}
use Rattle.ssq_meaning.specs.Epochs.{out}
use Rattle.ssq_meaning.specs.Parts.{Part}
use Rattle.ssq_bind.specs.Read.{ReadsItsStreams}
use Rattle.ssq_bind.specs.Typed.{IsTyped}

-- the types of the columns of SELECT
abbrev pub kinds_of : List Output → List ColType
kinds_of outputs = map (λ output. output.kind) outputs

-- A query that was bound: it is well typed, its windows are ones that the language has, and it reads two streams where it joins, and else one.
pub record CanShow (query : Bound) : Type 0 where
  pub typed : IsTyped query
  pub windows : HasWindows query
  pub streams : ReadsItsStreams query

-- each part is of one of these streams
abbrev pub AreOfStreams : Bound → List Part → Type 0
AreOfStreams query parts = All (λ (part : Part). part.stream < length query.streams) parts

-- Each value that an epoch shows may stand in its column, and has a text.
abbrev pub EpochsAreStored : Type 0
EpochsAreStored = (query : Bound) (parts : List Part) (cuts : Cuts) (e : ℕ) → CanShow query → AreOfStreams query parts
    → All (AreStoredIn (kinds_of query.outputs)) (out query parts cuts e)
