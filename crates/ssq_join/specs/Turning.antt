-- The rows of an epoch, taken in turn.
use Rattle.std.specs.Prelude.{◌≡◌, ◌++◌, ◌∷◌, [], ℕ, Bool, false, List, filter, option_map}
use Rattle.std.specs.List.Sorted.{IsPermutation}
use Rattle.ssq_version.specs.State.{State, value_at}
use Rattle.ssq_shape.specs.declared.bound.Bound.{Bound}
use Rattle.ssq_shape.specs.declared.bound.Joining.{Joining}
use Rattle.ssq_meaning.specs.FedRows.{FedRow}
use Rattle.ssq_meaning.specs.Join.{row_value}
use Rattle.ssq_step.specs.declared.shown.Shown.{Shown}
use Rattle.ssq_join.specs.Changing.{find_row}
use Rattle.ssq_join.specs.Meeting.{AreKept, MeetsNext}
use Rattle.ssq_join.specs.Steps.{IsKept}
use Rattle.ssq_join.specs.Telling.{Meets, Pair, candidates_of}

-- the candidates of some rows in turn, each with the rows before it, earlier ones and these
abbrev pub turns : Joining → (earlier rows : List FedRow) → List Pair
turns joining earlier [] = []
turns joining earlier (row ∷ rows) = candidates_of joining row earlier ++ turns joining (earlier ++ row ∷ []) rows

-- so many rows were taken: their candidates are told, in any order
abbrev pub AreTaken : Bound → Joining → (held rows : List FedRow) → Shown → (met : List (List ℕ)) → Type 0
AreTaken query joining held rows found met = (pairs : List Pair) × IsPermutation pairs (turns joining held rows) × Meets query joining pairs found met

-- the same rows in another order: of each kind as often
abbrev pub AreSameRows : (first second : List FedRow) → Type 0
AreSameRows first second = (test : FedRow → Bool) → IsPermutation (filter test first) (filter test second)

-- these rows stand in a map by their bytes, as rows that met no partner: they are listed there in some order, and each is found
abbrev pub unmet : FedRow → Bool
unmet row = false

pub record AreFresh (query : Bound) (joining : Joining) (rows : List FedRow) (fresh : State) : Type 0 where
  pub listed : (ordered : List FedRow) × AreSameRows ordered rows × AreKept query joining unmet ordered fresh
  pub found : (key : List ℕ) → value_at fresh key ≡ option_map (row_value false) (find_row key rows)

-- Whatever rows are kept in the state, and whatever rows of the epoch came before: after the candidates so far come those of a row among them.
abbrev pub MeetsEarlier : Bound → Joining → FedRow → (state fresh : State) → (found now : Shown) → (old new : List (List ℕ)) → Type 0
MeetsEarlier query joining row state fresh found now old new =
    (was_met : FedRow → Bool) (held earlier : List FedRow) (pairs : List Pair) → IsKept query joining row → AreKept query joining was_met held state → AreKept query joining unmet earlier fresh
    → Meets query joining pairs found old → MeetsNext query joining pairs row (held ++ earlier) now new
