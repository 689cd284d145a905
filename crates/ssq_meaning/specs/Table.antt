-- The table: what a reader makes of the rows of the epochs.
use Rattle.std.specs.Prelude.{◌≡◌, ◌<◌, ◌⊎◌, ℕ, zero, suc, ℤ, Bool, true, false, nat_eq, not, if◌then◌else◌, List, [], ◌∷◌, ◌++◌, length, filter, slice_get, Option, Some, None, is_some, IfSome}
use Rattle.std.specs.List.{AllByRecursion, list_any}
use Rattle.ssq_shape.specs.declared.bound.Bound.{Bound}
use Rattle.ssq_shape.specs.declared.bound.GroupKey.{GroupKey}
use Rattle.ssq_shape.specs.declared.bound.GroupKey.TheVariants as key
use Rattle.ssq_shape.specs.declared.bound.Grouping.{Grouping}
use Rattle.ssq_shape.specs.declared.bound.Mode.{Mode}
use Rattle.ssq_shape.specs.declared.bound.Mode.TheVariants as mode
use Rattle.ssq_shape.specs.declared.bound.Output.{Output}
use Rattle.ssq_shape.specs.declared.bound.Shape.{Shape}
use Rattle.ssq_shape.specs.declared.bound.Shape.TheVariants as shape
use Rattle.ssq_shape.specs.declared.typed.Typed.{Typed}
use Rattle.ssq_shape.specs.declared.typed.Typed.TheVariants as typed
use Rattle.ssq_shape.specs.Boxes.{only}
use Rattle.ssq_meaning.specs.Cut.{Cuts}
use Rattle.ssq_meaning.specs.Epochs.{out}
use Rattle.ssq_meaning.specs.Group.{is_same}
use Rattle.ssq_meaning.specs.Meaning.{Values}
use Rattle.ssq_meaning.specs.Parts.{Part}

-- the values of a shown row that are keys by themselves
unfoldable pub key_cells : List Output → Values → Values
key_cells [] row = []
key_cells (output ∷ outputs) [] = []
key_cells (output ∷ outputs) (value ∷ row) = if is_some output.key then value ∷ key_cells outputs row else key_cells outputs row

-- two rows are of one key
abbrev pub is_same_group : List Output → Values → Values → Bool
is_same_group outputs left right = is_same (key_cells outputs left) (key_cells outputs right)

-- the rows, with newer ones in place of those of the same keys
abbrev pub replaced : List Output → (old new : List Values) → List Values
replaced outputs old new = filter (λ row. not (list_any (is_same_group outputs row) new)) old ++ new

-- The rows of the table after one more epoch. Groups in Complete: the last epoch's. Groups in Update: the last row of each key. Else all
-- rows, one after the other.
abbrev pub next_table : Shape → Mode → List Output → (old new : List Values) → List Values
next_table (shape.Group grouping) mode.Append outputs old new = old ++ new
next_table (shape.Group grouping) mode.Update outputs old new = replaced outputs old new
next_table (shape.Group grouping) mode.Complete outputs old new = new
next_table shape.Plain own outputs old new = old ++ new
next_table (shape.Dedup columns) own outputs old new = old ++ new
next_table (shape.Join joining) own outputs old new = old ++ new

-- the rows of the table after the first n epochs
unfoldable pub table : Bound → List Part → Cuts → ℕ → List Values
table query parts cuts zero = []
table query parts cuts (suc n) = next_table query.shape query.mode query.outputs (table query parts cuts n) (out query parts cuts n)

-- ---- queries that show their keys

-- the item is the key of this index
abbrev pub is_key_at : ℕ → Option ℕ → Bool
is_key_at at None = false
is_key_at at (Some key) = nat_eq key at

abbrev pub is_key : ℕ → Output → Bool
is_key at output = is_key_at at output.key

-- the key is a window
abbrev pub IsWindowAt : List GroupKey → ℕ → Type 0
IsWindowAt keys at = (column : ℕ) × (size : ℤ) × (slide : ℤ) × (slice_get keys at ≡ Some (key.Window column size slide))

-- an expression is a key alone: its value, or the end of a window, some time after its start
abbrev pub IsKeyAlone : List GroupKey → Typed → ℕ → Type 0
IsKeyAlone keys value at = (value ≡ typed.Column at) ⊎ ((by : ℤ) × (value ≡ typed.Shifted' tt (only (typed.Column at)) by) × IsWindowAt keys at)

-- Each key is an item by itself, the items that are said to be keys are, and there is no HAVING: so it is in each query that is taken for
-- Update.
pub record ShowsKeys (query : Bound) (grouping : Grouping) : Type 0 where
  pub each : (at : ℕ) → at < length grouping.keys → list_any (is_key at) query.outputs ≡ true
  pub alone : AllByRecursion (λ output. IfSome output.key (IsKeyAlone grouping.keys output.value)) query.outputs
  pub all : grouping.having ≡ None
