-- What holds of joined rows from epoch to epoch.
use Rattle.std.specs.Prelude.{◌≡◌, ◌<◌, ◌≤◌, ◌≤ℤ◌, ◌+◌, ◌^◌, ◌++◌, ◌&&◌, ◌||◌, ℕ, zero, suc, ℤ, pos, Bool, true, false, if◌then◌else◌, List, [], ◌∷◌, All, length, map, filter, Option, IfSome}
use Rattle.std.specs.BTreeMap.{is_at}
use Rattle.std.specs.Cmp.Lexicographic.{slice_cmp}
use Rattle.std.specs.List.{AllByRecursion}
use Rattle.std.specs.Ordering.{nat_cmp}
use Rattle.ssq_shape.specs.declared.bound.Bound.{Bound}
use Rattle.ssq_shape.specs.declared.bound.Joining.{Joining}
use Rattle.ssq_shape.specs.declared.bound.TimeBound.{TimeBound}
use Rattle.ssq_meaning.specs.FedRows.{FedRow}
use Rattle.ssq_meaning.specs.Cut.{Cuts}
use Rattle.ssq_meaning.specs.Epochs.{accepted, on_time, watermark, watermark_before}
use Rattle.ssq_meaning.specs.Join.{Considered, alone_of, due_rows, is_alone, is_candidate, is_due, is_left, is_over, join_key, join_time, meant, open_rows, pair_of, row_key, rows_alone}
use Rattle.ssq_meaning.specs.Meaning.{Values}
use Rattle.ssq_meaning.specs.Parts.{Part}
use Rattle.ssq_meaning.specs.Times.{AtMost, is_past}

-- A row that is fed to a join: its key and its time are those of its values.
pub record IsJoinRow (joining : Joining) (row : FedRow) : Type 0 where
  pub key : row.key ≡ join_key joining.keys row.stream row.values
  pub time : row.time ≡ join_time joining.bound row.stream row.values

-- a bound lies around the left row's time: `lo` is not above 0, and `hi` not below
pub record IsAround (bound : TimeBound) : Type 0 where
  pub lo : bound.lo ≤ℤ pos 0
  pub hi : pos 0 ≤ℤ bound.hi

abbrev pub IsBounded : Joining → Type 0
IsBounded joining = IfSome joining.bound IsAround

-- An epoch's rows come after others: the watermark has not fallen, and none of the rows is late.
pub record Follows (new : List FedRow) (before now : Option ℤ) : Type 0 where
  pub rises : AtMost before now
  pub timely : All (λ row. is_past now row.time ≡ false) new

-- one of the rows is left, the other one right, and they meet the key equalities and the bound
abbrev pub are_candidates : Joining → (row other : FedRow) → Bool
are_candidates joining row other = is_candidate joining row other || is_candidate joining other row

-- ---- rows in another order

-- the second list has the rows of the first, each as often, in any order
unfoldable pub IsReordered : {X : Type 0} → (first second : List X) → Type 0
IsReordered [] second = second ≡ []
IsReordered {X} (x ∷ first) second = (front : List X) × (back : List X) × (second ≡ front ++ x ∷ back) × IsReordered first (front ++ back)

-- no two of the rows are kept under the same bytes
abbrev pub AreApart : List FedRow → Type 0
AreApart [] = Unit {0}
AreApart (row ∷ rows) = AllByRecursion (λ other. is_at (slice_cmp nat_cmp (row_key row)) (row_key other) ≡ false) rows × AreApart rows

-- ---- places

-- parts of two sides, or two parts of one
abbrev pub IsOtherPart : (one other : Part) → Type 0
IsOtherPart one other = is_left one.stream ≡ is_left other.stream → one.part ≡ other.part → ⊥

abbrev pub ArePartsApart : List Part → Type 0
ArePartsApart [] = Unit {0}
ArePartsApart (part ∷ parts) = AllByRecursion (IsOtherPart part) parts × ArePartsApart parts

-- the number of a part, and those of its lines, fit the bytes of a place
pub record HasFewLines (part : Part) : Type 0 where
  pub number : part.part < 2 ^ 32
  pub lines : length part.lines ≤ 2 ^ 64

-- ---- over the epochs of a job

-- what the query means after the first n epochs: over all rows accepted in them, at the watermark of the last
abbrev pub meaning_at : Bound → Joining → List Part → Cuts → ℕ → List Values
meaning_at query joining parts cuts n = meant query joining (accepted query parts cuts n) (watermark_before query parts cuts n)

-- the rows without a partner that are over after them
abbrev pub alone_at : Bound → Joining → List Part → Cuts → ℕ → List FedRow
alone_at query joining parts cuts n = rows_alone joining (accepted query parts cuts n) (watermark_before query parts cuts n)

-- the rows without a partner that these epochs consider, one epoch after the other
unfoldable pub alone_so_far : Bound → Joining → List Part → Cuts → ℕ → List FedRow
alone_so_far query joining parts cuts zero = []
alone_so_far query joining parts cuts (suc n) =
    alone_so_far query joining parts cuts n
    ++ due_rows joining (accepted query parts cuts n ++ on_time query parts cuts n) (watermark_before query parts cuts n) (watermark query parts cuts n)

-- in how many of them a row is over first
unfoldable pub times_over : Bound → Joining → List Part → Cuts → FedRow → ℕ → ℕ
times_over query joining parts cuts row zero = 0
times_over query joining parts cuts row (suc n) =
    times_over query joining parts cuts row n + (if is_due joining (watermark_before query parts cuts n) (watermark query parts cuts n) row then 1 else 0)

-- the row is over in no epoch up to this one, nor in this one
abbrev pub IsOpenTo : Bound → Joining → List Part → Cuts → ℕ → FedRow → Type 0
IsOpenTo query joining parts cuts e row = (f : ℕ) → f ≤ e → is_over joining (watermark query parts cuts f) row ≡ false

-- As epoch e begins, each row that was accepted before and that meets the key equalities and the bound with this one is kept.
abbrev pub FindsAll : Bound → Joining → List Part → Cuts → ℕ → FedRow → Type 0
FindsAll query joining parts cuts e row =
    filter (are_candidates joining row) (open_rows joining (accepted query parts cuts e) (watermark_before query parts cuts e))
    ≡ filter (are_candidates joining row) (accepted query parts cuts e)

-- ---- by what is kept

-- the candidate that two rows are, by whether the first is the left one
abbrev pub pair_by : Bound → Joining → (left : Bool) → (row other : FedRow) → Considered
pair_by query joining true row other = pair_of query joining row other
pair_by query joining false row other = pair_of query joining other row

-- the candidates of a row and of some others
abbrev pub pairs_by : Bound → Joining → FedRow → List FedRow → List Considered
pairs_by query joining row others = map (pair_by query joining (is_left row.stream) row) (filter (are_candidates joining row) others)

-- those of some rows in turn, each with the rows before it, earlier ones and these
unfoldable pub pairs_in_turn : Bound → Joining → (earlier rows : List FedRow) → List Considered
pairs_in_turn query joining earlier [] = []
pairs_in_turn query joining earlier (row ∷ rows) = pairs_by query joining row earlier ++ pairs_in_turn query joining (earlier ++ row ∷ []) rows

-- what an epoch considers, by the rows that are kept, by which of all rows they met a partner among, and by its own rows
abbrev pub considered_by : Bound → Joining → (old held new : List FedRow) → (now : Option ℤ) → List Considered
considered_by query joining old held new now =
    pairs_in_turn query joining held new ++ map (alone_of query) (filter (λ row. is_over joining now row && is_alone joining old row) held)
