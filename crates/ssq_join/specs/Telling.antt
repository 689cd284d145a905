-- What was considered so far: the rows that are shown, the least key that overflowed, and the rows that met a partner.
use Rattle.std.specs.Prelude.{◌≡◌, ◌&&◌, ◌||◌, ℕ, Bool, List, map, filter}
use Rattle.std.specs.BTreeMap.{is_at}
use Rattle.std.specs.List.{list_any}
use Rattle.std.specs.List.Sorted.{IsPermutation}
use Rattle.ssq_version.specs.State.{by_bytes}
use Rattle.ssq_shape.specs.declared.bound.Bound.{Bound}
use Rattle.ssq_shape.specs.declared.bound.Joining.{Joining}
use Rattle.ssq_meaning.specs.FedRows.{FedRow}
use Rattle.ssq_meaning.specs.Group.{least_key}
use Rattle.ssq_meaning.specs.Join.{Considered, faulty_among, is_left, is_partner, row_key, shown_among}
use Rattle.ssq_meaning.specs.JoinLaws.{are_candidates, pair_by}
use Rattle.ssq_step.specs.declared.shown.Shown.{Shown}

-- the rows that are shown, in any order, and the least key that overflowed
pub record Tells (found : Shown) (all : List Considered) : Type 0 where
  pub rows : IsPermutation found.rows.items (shown_among all)
  pub fault : found.fault ≡ least_key (faulty_among all)

-- two rows, one left and one right
abbrev pub Pair : Type 0
Pair = FedRow × FedRow

-- what a candidate is
abbrev pub considered_of : Bound → Joining → Pair → Considered
considered_of query joining pair = pair_by query joining (is_left pair.0.stream) pair.0 pair.1

-- the candidates of a row among others
abbrev pub candidates_of : Joining → FedRow → List FedRow → List Pair
candidates_of joining row others = map (λ other. (row, other)) (filter (are_candidates joining row) others)

-- ON is TRUE on the pair, and one of its rows is kept under these bytes
abbrev pub touches : Joining → List ℕ → Pair → Bool
touches joining bytes pair = is_partner joining pair.0 pair.1 && (is_at (by_bytes bytes) (row_key pair.0) || is_at (by_bytes bytes) (row_key pair.1))

-- the bytes are among those that are known
abbrev pub among : List (List ℕ) → List ℕ → Bool
among met bytes = list_any (is_at (by_bytes bytes)) met

-- The candidates so far are told, and the bytes of those rows are known that met a partner among them.
pub record Meets (query : Bound) (joining : Joining) (pairs : List Pair) (found : Shown) (met : List (List ℕ)) : Type 0 where
  pub told : Tells found (map (considered_of query joining) pairs)
  pub known : (bytes : List ℕ) → among met bytes ≡ list_any (touches joining bytes) pairs
