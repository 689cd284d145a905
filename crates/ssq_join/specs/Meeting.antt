-- A new row, and those before it that may be its partners.
use Rattle.std.specs.Prelude.{◌≡◌, ◌++◌, ◌∷◌, ℕ, ℤ, Bool, true, false, not, if◌then◌else◌, List, map, Option}
use Rattle.std.specs.List.{AllByRecursion, list_any}
use Rattle.std.specs.List.Sorted.{IsPermutation}
use Rattle.ssq_version.specs.State.{State, front_with}
use Rattle.ssq_shape.specs.declared.bound.Bound.{Bound}
use Rattle.ssq_shape.specs.declared.bound.Joining.{Joining}
use Rattle.ssq_shape.specs.Evaluation.{is_null}
use Rattle.ssq_meaning.specs.FedRows.{FedRow}
use Rattle.ssq_meaning.specs.Join.{is_left, is_near, row_key, row_value}
use Rattle.ssq_meaning.specs.JoinLaws.{are_candidates}
use Rattle.ssq_meaning.specs.Meaning.{Values}
use Rattle.ssq_step.specs.declared.shown.Shown.{Shown}
use Rattle.ssq_join.specs.Steps.{IsKept}
use Rattle.ssq_join.specs.Telling.{Meets, Pair, candidates_of}

-- ---- one pair

-- whether a row and one of the other side with this time meet the bound
abbrev pub are_near : Joining → FedRow → Option ℤ → Bool
are_near joining row time = if is_left row.stream then is_near joining.bound row.time time else is_near joining.bound time row.time

-- a row's own values with those of a row of the side that is said: the left row's, and then the right one's
abbrev pub joined : (left : Bool) → (own other : Values) → Values
joined true own other = other ++ own
joined false own other = own ++ other

-- ---- rows that are kept

-- these rows are kept so, in this order, each with whether it met a partner before
abbrev pub entry_with : (FedRow → Bool) → FedRow → List ℕ × List ℕ
entry_with met row = (row_key row, row_value (met row) row)

pub record AreKept (query : Bound) (joining : Joining) (met : FedRow → Bool) (rows : List FedRow) (state : State) : Type 0 where
  pub listed : state ≡ map (entry_with met) rows
  pub each : AllByRecursion (IsKept query joining) rows

-- a row of the other side with the join key of a new one, in which no value is NULL, is kept so
pub record IsOther (query : Bound) (joining : Joining) (row other : FedRow) (met : Bool) (key value : List ℕ) : Type 0 where
  pub side : is_left other.stream ≡ not (is_left row.stream)
  pub same : row.key ≡ other.key
  pub none : list_any is_null row.key ≡ false
  pub own : IsKept query joining other
  pub at : key ≡ row_key other
  pub kept : value ≡ row_value met other

-- the candidates so far, and this one, if it is one
abbrev pub with_candidate : Joining → (row other : FedRow) → List Pair → List Pair
with_candidate joining row other pairs = if are_candidates joining row other then (row, other) ∷ pairs else pairs

-- After the candidates so far come those of a row among others, in any order.
abbrev pub MeetsNext : Bound → Joining → (pairs : List Pair) → FedRow → (others : List FedRow) → Shown → (met : List (List ℕ)) → Type 0
MeetsNext query joining pairs row others found met =
    (more : List Pair) × IsPermutation more (candidates_of joining row others ++ pairs) × Meets query joining more found met

-- the rows that may meet a row, as they are kept
abbrev pub AreOthers : Bound → Joining → FedRow → (met : FedRow → Bool) → List FedRow → Type 0
AreOthers query joining row met others = AllByRecursion (λ other. IsOther query joining row other (met other) (row_key other) (row_value (met other) other)) others

-- Of some entries those are met that stand in front with a beginning: whatever rows they are, after the candidates so far come those of the row among them.
abbrev pub MeetsFront : Bound → Joining → FedRow → (prefix : List ℕ) → (entries : State) → (found now : Shown) → (old new : List (List ℕ)) → Type 0
MeetsFront query joining row prefix entries found now old new =
    (met : FedRow → Bool) (others : List FedRow) (pairs : List Pair) → front_with prefix entries ≡ map (entry_with met) others → AreOthers query joining row met others
    → Meets query joining pairs found old → MeetsNext query joining pairs row others now new
