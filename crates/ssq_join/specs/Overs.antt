-- Rows that are over without a partner.
use Rattle.std.specs.Prelude.{◌≡◌, ◌&&◌, ◌++◌, ◌∷◌, ℕ, Bool, not, if◌then◌else◌, List, map, filter, Some}
use Rattle.std.specs.List.{AllByRecursion}
use Rattle.std.specs.List.Sorted.{IsPermutation}
use Rattle.ssq_version.specs.State.{State, value_at}
use Rattle.ssq_shape.specs.declared.bound.Bound.{Bound}
use Rattle.ssq_shape.specs.declared.bound.Joining.{Joining}
use Rattle.ssq_meaning.specs.FedRows.{FedRow}
use Rattle.ssq_meaning.specs.Join.{Considered, alone_of, is_left, is_outer_side, row_key, row_value}
use Rattle.ssq_step.specs.declared.rows.KeptRow.{KeptRow}
use Rattle.ssq_step.specs.declared.shown.Shown.{Shown}
use Rattle.ssq_join.specs.Steps.{IsKept}
use Rattle.ssq_join.specs.Telling.{Tells}

-- what is read of a row
pub record IsRead (row : FedRow) (read : KeptRow) : Type 0 where
  pub left : read.left ≡ is_left row.stream
  pub values : read.values ≡ row.values

-- a row is shown alone where rows of its side are, and it met no partner
abbrev pub is_shown_alone : Joining → (met : FedRow → Bool) → FedRow → Bool
is_shown_alone joining met row = is_outer_side joining.kind (is_left row.stream) && not (met row)

-- what is considered of some rows that are over
abbrev pub alones : Bound → Joining → (met : FedRow → Bool) → List FedRow → List Considered
alones query joining met rows = map (alone_of query) (filter (is_shown_alone joining met) rows)

abbrev pub with_alone : Bound → Joining → (met : FedRow → Bool) → FedRow → List Considered → List Considered
with_alone query joining met row all = if is_shown_alone joining met row then alone_of query row ∷ all else all

-- the row is kept in the state, with whether it met a partner
pub record IsHeld (query : Bound) (joining : Joining) (state : State) (met : FedRow → Bool) (row : FedRow) : Type 0 where
  pub own : IsKept query joining row
  pub value : value_at state (row_key row) ≡ Some (row_value (met row) row)

-- the keys are those of these rows, in their order
pub record AreOver (query : Bound) (joining : Joining) (state : State) (met : FedRow → Bool) (over : List FedRow) (keys : List (List ℕ)) : Type 0 where
  pub keys_are : keys ≡ map row_key over
  pub each : AllByRecursion (IsHeld query joining state met) over

-- beside what was considered before, these rows are, in any order
abbrev pub TellsAlone : Bound → Joining → (met : FedRow → Bool) → (over : List FedRow) → (before : List Considered) → Shown → Type 0
TellsAlone query joining met over before found = (all : List Considered) × IsPermutation all (alones query joining met over ++ before) × Tells found all
