-- Rows of two streams, paired: what is handed on of a row, which rows are partners, what an epoch considers, and what is kept.
use Rattle.std.specs.Prelude.{◌&&◌, ◌||◌, ◌==◌, ◌++◌, ℕ, ℤ, ◌+ℤ◌, ◌-ℤ◌, int_le, Bool, true, false, not, if◌then◌else◌, List, [], ◌∷◌, length, replicate, map, filter, filter_map, Option, Some, None, option_map, option_and_then, Result, Ok, is_err}
use Rattle.std.specs.Int.{w32, w64, to_be_bytes}
use Rattle.std.specs.List.{flat_map, list_any}
use Rattle.std.specs.Result.{result_ok}
use Rattle.std.specs.Ordering.{nat_cmp}
use Rattle.std.specs.Cmp.Lexicographic.{slice_cmp}
use Rattle.std.specs.FinMap.{from_entries, entries}
use Rattle.ssq_value.specs.declared.value.Value.TheVariants as value
use Rattle.ssq_value.specs.Key.{keys_of}
use Rattle.ssq_shape.specs.declared.bound.Bound.{Bound}
use Rattle.ssq_shape.specs.declared.bound.JoinKind.{JoinKind}
use Rattle.ssq_shape.specs.declared.bound.JoinKind.TheVariants as kind
use Rattle.ssq_shape.specs.declared.bound.Joining.{Joining}
use Rattle.ssq_shape.specs.declared.bound.KeyPair.{KeyPair}
use Rattle.ssq_shape.specs.declared.bound.TimeBound.{TimeBound}
use Rattle.ssq_shape.specs.declared.typed.Typed.{Typed}
use Rattle.ssq_shape.specs.Evaluation.{Overflow, Evaluated, and_then, cell_at, conjunction, evaluated, is_null, is_true, time_in, truth_in, truth_of}
use Rattle.ssq_shape.specs.Plain.{shown}
use Rattle.ssq_meaning.specs.FedRows.{FedRow}
use Rattle.ssq_meaning.specs.Group.{is_same}
use Rattle.ssq_meaning.specs.Handed.{Handed}
use Rattle.ssq_meaning.specs.Meaning.{Values, is_true_answer, layout_at}
use Rattle.ssq_meaning.specs.Times.{is_past}

-- ---- the two sides

-- the rows of the stream of FROM, which has place 0, are the left ones, and those of the joined stream the right ones
abbrev pub is_left : (stream : ℕ) → Bool
is_left stream = stream == 0

abbrev pub key_column : (left : Bool) → KeyPair → ℕ
key_column true pair = pair.left
key_column false pair = pair.right

-- the join key of a row: its values in the columns of the key equalities, in the order of ON
abbrev pub join_key : List KeyPair → (stream : ℕ) → Values → Values
join_key pairs stream row = map (λ pair. cell_at row (key_column (is_left stream) pair)) pairs

abbrev pub event_column : (left : Bool) → TimeBound → ℕ
event_column true bound = bound.left
event_column false bound = bound.right

-- the time of a row: its event time, where the join has a bound
abbrev pub join_time : Option TimeBound → (stream : ℕ) → Values → Option ℤ
join_time None stream row = None
join_time (Some bound) stream row = time_in (cell_at row (event_column (is_left stream) bound))

-- Each row is handed on as it is. WHERE and SELECT are evaluated on joined rows alone.
abbrev pub handed_to_join : Joining → (stream : ℕ) → Values → Handed
handed_to_join joining stream row = record { key = join_key joining.keys stream row; time = join_time joining.bound stream row; values = row }

-- ---- partners

-- the key equalities: the same values, none of which is NULL
abbrev pub have_equal_keys : (left right : FedRow) → Bool
have_equal_keys left right = is_same left.key right.key && not (list_any is_null left.key)

-- The bound: the right row's time is neither below the left row's with `lo`, nor above that with `hi`. A row without a time meets none.
abbrev pub is_near : Option TimeBound → (left right : Option ℤ) → Bool
is_near None left right = true
is_near (Some bound) None right = false
is_near (Some bound) (Some left) None = false
is_near (Some bound) (Some left) (Some right) = int_le (left +ℤ bound.lo) right && int_le right (left +ℤ bound.hi)

-- A candidate: a left row and a right one that meet the key equalities and the bound. The rest of ON is evaluated on candidates alone.
abbrev pub is_candidate : Joining → (left right : FedRow) → Bool
is_candidate joining left right = (is_left left.stream && not (is_left right.stream)) && (have_equal_keys left right && is_near joining.bound left.time right.time)

-- the columns of the left row, and then those of the right one
abbrev pub joined_row : (left right : FedRow) → Values
joined_row left right = left.values ++ right.values

-- Conditions joined by AND, TRUE where there is none: they are evaluated from the left, and none after a FALSE.
unfoldable pub all_of : List Typed → Values → Evaluated
all_of [] row = Ok (value.Truth true)
all_of (condition ∷ conditions) row = and_then (evaluated condition row) (λ first. conjunction (truth_in first) (truth_of (all_of conditions row)))

-- whether ON is TRUE on a candidate
abbrev pub is_on : Joining → (left right : FedRow) → Result Bool Overflow
is_on joining left right = and_then (all_of joining.rest (joined_row left right)) (λ on. Ok (is_true on))

-- ON is TRUE on a left row and a right one. It is not where evaluating it overflows.
abbrev pub is_pair : Joining → (left right : FedRow) → Bool
is_pair joining left right = is_candidate joining left right && is_true_answer (is_on joining left right)

-- whichever of them is the left one
abbrev pub is_partner : Joining → (row other : FedRow) → Bool
is_partner joining row other = is_pair joining row other || is_pair joining other row

abbrev pub has_partner : Joining → List FedRow → FedRow → Bool
has_partner joining rows row = list_any (is_partner joining row) rows

-- ---- the time of a row's last partner

-- Where the join has a bound, no partner's time is above this: a left row's time with `hi`, a right row's time less `lo`.
abbrev pub last_time : Option TimeBound → (left : Bool) → Option ℤ → Option ℤ
last_time None left time = None
last_time (Some bound) true time = option_map (λ t. t +ℤ bound.hi) time
last_time (Some bound) false time = option_map (λ t. t -ℤ bound.lo) time

-- A row is over where this time is past: each row that could still be its partner is late. Then it is forgotten.
abbrev pub is_over : Joining → (now : Option ℤ) → FedRow → Bool
is_over joining now row = is_past now (last_time joining.bound (is_left row.stream) row.time)

-- ---- what is considered

-- What is considered: by its join key, the row that is shown of it, if one is, or that evaluating it overflows.
pub record Considered : Type 0 where
  pub key : Values
  pub row : Result (Option Values) Overflow

-- Of a candidate: ON is evaluated, where it is TRUE WHERE, and where that is TRUE the items of SELECT.
abbrev pub pair_of : Bound → Joining → (left right : FedRow) → Considered
pair_of query joining left right =
    record { key = left.key; row = and_then (is_on joining left right) (λ on. if on then shown query (joined_row left right) else Ok None) }

-- the candidates of left rows among some and of right rows among others
abbrev pub pairs_with : Bound → Joining → (left : FedRow) → (rights : List FedRow) → List Considered
pairs_with query joining left rights = map (pair_of query joining left) (filter (is_candidate joining left) rights)

abbrev pub pairs_of : Bound → Joining → (lefts rights : List FedRow) → List Considered
pairs_of query joining lefts rights = flat_map (λ left. pairs_with query joining left rights) lefts

-- a NULL for each column of a stream
abbrev pub nulls : Bound → (stream : ℕ) → Values
nulls query stream = replicate (length (layout_at query stream).columns) value.Null

-- a row by itself, with NULLs in place of the other row
abbrev pub joined_alone : Bound → (left : Bool) → Values → Values
joined_alone query true row = row ++ nulls query 1
joined_alone query false row = nulls query 0 ++ row

-- Of a row without a partner: WHERE is evaluated, and where it is TRUE the items of SELECT.
abbrev pub alone_of : Bound → FedRow → Considered
alone_of query row = record { key = row.key; row = shown query (joined_alone query (is_left row.stream) row.values) }

-- whether rows of a side are shown without a partner
abbrev pub is_outer_side : JoinKind → (left : Bool) → Bool
is_outer_side kind.Inner left = false
is_outer_side kind.Left left = left
is_outer_side kind.Right left = not left

-- the row has no partner among these, and would be shown without one
abbrev pub is_alone : Joining → List FedRow → FedRow → Bool
is_alone joining rows row = is_outer_side joining.kind (is_left row.stream) && not (has_partner joining rows row)

-- What a query means by rows and a watermark, as a batch: each candidate of them, and each row without a partner that is over.
abbrev pub rows_alone : Joining → List FedRow → (now : Option ℤ) → List FedRow
rows_alone joining rows now = filter (λ row. is_over joining now row && is_alone joining rows row) rows

abbrev pub meant_of : Bound → Joining → List FedRow → (now : Option ℤ) → List Considered
meant_of query joining rows now = pairs_of query joining rows rows ++ map (alone_of query) (rows_alone joining rows now)

-- Whether an epoch considers a row without a partner: it is over now, and was not before.
abbrev pub is_due : Joining → (before now : Option ℤ) → FedRow → Bool
is_due joining before now row = is_over joining now row && not (is_over joining before row)

abbrev pub due_rows : Joining → List FedRow → (before now : Option ℤ) → List FedRow
due_rows joining rows before now = filter (λ row. is_due joining before now row && is_alone joining rows row) rows

-- An epoch considers each candidate whose later row is its own, and the rows without a partner that are over now.
abbrev pub considered : Bound → Joining → (old new : List FedRow) → (before now : Option ℤ) → List Considered
considered query joining old new before now =
    (pairs_of query joining old new ++ pairs_of query joining new (old ++ new)) ++ map (alone_of query) (due_rows joining (old ++ new) before now)

-- the row that is shown
abbrev pub row_of : Considered → Option Values
row_of one = option_and_then (λ row. row) (result_ok one.row)

abbrev pub shown_among : List Considered → List Values
shown_among all = filter_map row_of all

-- its key, where it overflows
abbrev pub faulty_key : Considered → Option Values
faulty_key one = if is_err one.row then Some one.key else None

abbrev pub faulty_among : List Considered → List Values
faulty_among all = filter_map faulty_key all

-- What a query means by rows and a watermark: the rows that are shown of these.
abbrev pub meant : Bound → Joining → List FedRow → (now : Option ℤ) → List Values
meant query joining rows now = shown_among (meant_of query joining rows now)

-- ---- what is kept

abbrev pub side_byte : (left : Bool) → ℕ
side_byte true = 0
side_byte false = 1

-- Under which bytes a row is kept: its side and its join key, and then its place, numbers with the highest byte first.
abbrev pub row_key : FedRow → List ℕ
row_key row = side_byte (is_left row.stream) ∷ (keys_of row.key ++ (to_be_bytes w32 row.epoch ++ (to_be_bytes w32 row.part ++ to_be_bytes w64 row.offset)))

abbrev pub met_byte : (met : Bool) → ℕ
met_byte true = 1
met_byte false = 0

-- what is kept of it: its values, and whether it met a partner
abbrev pub row_value : (met : Bool) → FedRow → List ℕ
row_value met row = keys_of row.values ++ met_byte met ∷ []

abbrev pub entry_of : Joining → List FedRow → FedRow → List ℕ × List ℕ
entry_of joining rows row = (row_key row, row_value (has_partner joining rows row) row)

-- the rows that are not over
abbrev pub open_rows : Joining → List FedRow → (now : Option ℤ) → List FedRow
open_rows joining rows now = filter (λ row. not (is_over joining now row)) rows

-- these, by their bytes in ascending order
abbrev pub kept : Joining → List FedRow → (now : Option ℤ) → List (List ℕ × List ℕ)
kept joining rows now = entries (from_entries {R = slice_cmp nat_cmp} (map (entry_of joining rows) (open_rows joining rows now)))
