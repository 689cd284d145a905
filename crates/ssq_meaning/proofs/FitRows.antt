-- Each row that is fed is one that a state can hold.
use Rattle.std.proofs.Common.{◌≤ℤ◌, ◌≤◌, ◌+◌, [], ◌∷◌, ℕ, zero, suc, ℤ, pos, ◌+ℤ◌, ◌*ℤ◌, List, Option, Some, None, map, arith}
use Rattle.std.specs.Prelude.{All, FitsSigned, IfOk, IfSome}
use Rattle.std.specs.Int.{w64}
use Rattle.std.specs.List.{AllByRecursion, flat_map, range_with_len}
use Rattle.std.proofs.lemmas.Int.{ints}
use Rattle.std.proofs.lemmas.List.Elements.{All-from_recursion, recursion_from_All}
use Rattle.std.proofs.lemmas.Option.{IfSome_then}
use Rattle.std.proofs.lemmas.Result.{IfOk-weaker}
use Rattle.ssq_value.specs.declared.value.Value.{Value}
use Rattle.ssq_value.specs.declared.value.Value.TheVariants as value
use Rattle.ssq_value.specs.Key.{HasShortText, IsSpelled}
use Rattle.ssq_value.specs.Kind.{IfTime}
use Rattle.ssq_value.specs.Layout.{Layout}
use Rattle.ssq_time.specs.Time.{IsLineTime, IsSpan, IsStampTime}
use Rattle.ssq_window.specs.Window.{AreWindows, first_start, window_count}
use Rattle.ssq_json.specs.Fits.{FitsSchema, IfInt, IfText, IsLineText}
use Rattle.ssq_json.specs.Line.{row_of}
use Rattle.ssq_shape.specs.declared.bound.Aggregate.{Aggregate}
use Rattle.ssq_shape.specs.declared.bound.Bound.{Bound}
use Rattle.ssq_shape.specs.declared.bound.GroupKey.{GroupKey}
use Rattle.ssq_shape.specs.declared.bound.GroupKey.TheVariants as key
use Rattle.ssq_shape.specs.declared.bound.Grouping.{Grouping}
use Rattle.ssq_shape.specs.declared.bound.KeyPair.{KeyPair}
use Rattle.ssq_shape.specs.declared.bound.Output.{Output}
use Rattle.ssq_shape.specs.declared.bound.Shape.{Shape}
use Rattle.ssq_shape.specs.declared.bound.Shape.TheVariants as shape
use Rattle.ssq_shape.specs.declared.typed.Typed.{Typed}
use Rattle.ssq_shape.specs.Evaluation.{cell_at, evaluated, time_in}
use Rattle.ssq_shape.specs.Fit.{IsFit}
use Rattle.ssq_shape.specs.Plain.{projected}
use Rattle.ssq_shape.specs.Windows.{HasWindow, HasWindowsBy, HasWindows}
use Rattle.ssq_json.proofs.Fitting.{stamp_from_line}
use Rattle.ssq_meaning.specs.FedRows.{FedRow}
use Rattle.ssq_meaning.specs.Cut.{Cuts}
use Rattle.ssq_meaning.specs.Dedup.{distinguished, key_in}
use Rattle.ssq_meaning.specs.Epochs.{fed, on_time, accepted}
use Rattle.ssq_meaning.specs.Feeding.{layout_at, line_handed, fed_in}
use Rattle.ssq_meaning.specs.Fit.{IsFitRow}
use Rattle.ssq_meaning.specs.Group.{argument_of, arguments_of, key_values, member, row_keys, starts_if}
use Rattle.ssq_meaning.specs.Join.{is_left, join_key, key_column}
use Rattle.ssq_meaning.specs.Meaning.{Line, Values}
use Rattle.ssq_meaning.specs.Parts.{Part}
use Rattle.ssq_meaning.proofs.Handing.{Gives, IsGiven, all_append, cons_ok, line_has, part_all, fed_all, on_time_all, accepted_all}

-- ---- values that fit have a spelling

pub stamps_have_64_bits : (t : ℤ) → IsStampTime t → FitsSigned w64 t
stamps_have_64_bits t years = record { sfits = grind (arith, ints, years.0, years.1) }

pub spelled : (value : Value) → IsFit value → IsSpelled value
spelled value.Null fit = tt
spelled (value.Int number) fit = fit
spelled (value.Text text) fit = omega (arith, fit)
spelled (value.Time time) fit = stamps_have_64_bits time fit
spelled (value.Truth truth) fit = tt

pub short : (value : Value) → IsFit value → HasShortText value
short value.Null fit = tt
short (value.Int number) fit = tt
short (value.Text text) fit = omega (arith, fit)
short (value.Time time) fit = tt
short (value.Truth truth) fit = tt

-- ---- the row that a line is

-- a value that fits, and whose time is of the years 1000 to 9000
abbrev IsRead : Value → Type 0
IsRead value = IsFit value × IfTime IsLineTime value

value_read : (value : Value) → IfInt (FitsSigned w64) value → IfTime IsLineTime value → IfText IsLineText value → IsRead value
value_read value.Null number time text = (tt, tt)
value_read (value.Int n) number time text = (number, tt)
value_read (value.Text t) number time text = (text, tt)
value_read (value.Time t) number time text = (stamp_from_line t time, time)
value_read (value.Truth b) number time text = (tt, tt)

row_read : (row : Values) → AllByRecursion (IfInt (FitsSigned w64)) row → AllByRecursion (IfTime IsLineTime) row → AllByRecursion (IfText IsLineText) row → AllByRecursion IsRead row
row_read [] numbers times texts = tt
row_read (value ∷ row) numbers times texts = (value_read value numbers.0 times.0 texts.0, row_read row numbers.1 times.1 texts.1)

schema_read : (schema : Layout) (row : Values) → FitsSchema schema row → AllByRecursion IsRead row
schema_read schema row fits =
    row_read row (recursion_from_All (IfInt (FitsSigned w64)) row fits.numbers) (recursion_from_All (IfTime IsLineTime) row fits.years) (recursion_from_All (IfText IsLineText) row fits.texts)

row_fits : (row : Values) → AllByRecursion IsRead row → AllByRecursion IsFit row
row_fits [] all = tt
row_fits (value ∷ row) all = (all.0.0, row_fits row all.1)

cell_read : (row : Values) (at : ℕ) → AllByRecursion IsRead row → IsRead (cell_at row at)
cell_read [] at all = (tt, tt)
cell_read (value ∷ row) zero all = all.0
cell_read (value ∷ row) (suc at) all = cell_read row at all.1

time_of_cell : (value : Value) → IfTime IsLineTime value → IfSome (time_in value) IsLineTime
time_of_cell value.Null time = tt
time_of_cell (value.Int n) time = tt
time_of_cell (value.Text t) time = tt
time_of_cell (value.Time t) time = time
time_of_cell (value.Truth b) time = tt

-- ---- its keys

-- the law of windows: those that are counted from the first start on hold the time
abbrev pub AreHeld : Type 0
AreHeld = (t size slide : ℤ) → IsSpan size → IsSpan slide → slide ≤ℤ size → AreWindows t size slide (first_start t size slide) (window_count t size slide)

module _ (held : AreHeld) where
  starts_fit : (t size slide : ℤ) → IsLineTime t → HasWindow (key.Window 0 size slide) → (a n : ℕ) → a + n ≤ window_count t size slide
      → AllByRecursion IsFit (map value.Time (map (λ k. first_start t size slide +ℤ (pos k *ℤ slide)) (range_with_len a n)))
  starts_fit t size slide years is a zero within = tt
  starts_fit t size slide years is a (suc n) within =
      let window = (held t size slide is.size_is is.slide_is is.least).each a (omega (arith, within)) in
      let start = first_start t size slide +ℤ (pos a *ℤ slide) in
      let least : IsStampTime start = (omega (arith, ints, years.0, is.size_is.1, window.unfinished), omega (arith, ints, years.1, window.begun)) in
      (least, starts_fit t size slide years is (a + 1) n (omega (arith, within)))

  starts_if_fit : (column : ℕ) (size slide : ℤ) → HasWindow (key.Window column size slide) → (time : Option ℤ) → IfSome time IsLineTime → AllByRecursion IsFit (starts_if size slide time)
  starts_if_fit column size slide is None years = tt
  starts_if_fit column size slide is (Some t) years = starts_fit t size slide years is 0 (window_count t size slide) (omega arith)

  values_fit : (own : GroupKey) (row : Values) → HasWindow own → AllByRecursion IsRead row → AllByRecursion IsFit (key_values own row)
  values_fit (key.Column column) row is all = ((cell_read row column all).0, tt)
  values_fit (key.Window column size slide) row is all =
      starts_if_fit column size slide is (time_in (cell_at row column)) (time_of_cell (cell_at row column) (cell_read row column all).1)

front_fit : (value : Value) (rests : List Values) → IsFit value → AllByRecursion (AllByRecursion IsFit) rests → AllByRecursion (AllByRecursion IsFit) (map (λ rest. value ∷ rest) rests)
front_fit value [] fit all = tt
front_fit value (rest ∷ rests) fit all = ((fit, all.0), front_fit value rests fit all.1)

fronts_fit : (values : Values) (rests : List Values) → AllByRecursion IsFit values → AllByRecursion (AllByRecursion IsFit) rests
    → AllByRecursion (AllByRecursion IsFit) (flat_map (λ value. map (λ rest. value ∷ rest) rests) values)
fronts_fit [] rests fit all = tt
fronts_fit (value ∷ values) rests fit all =
    all_append (AllByRecursion IsFit) (map (λ rest. value ∷ rest) rests) (flat_map (λ value. map (λ rest. value ∷ rest) rests) values)
    (front_fit value rests fit.0 all) (fronts_fit values rests fit.1 all)

keys_fit : AreHeld → (keys : List GroupKey) (row : Values) → AllByRecursion HasWindow keys → AllByRecursion IsRead row → AllByRecursion (AllByRecursion IsFit) (row_keys keys row)
unfolding row_keys
keys_fit held [] row windows all = (tt, tt)
keys_fit held (own ∷ keys) row windows all = fronts_fit (key_values own row) (row_keys keys row) (values_fit held own row windows.0 all) (keys_fit held keys row windows.1 all)

-- ---- what is evaluated on it

-- the law of what a query can give
abbrev pub StaysFit : Type 0
StaysFit = (row : Values) (expression : Typed) → All IsFit row → IfOk (evaluated expression row) IsFit

module _ (stays : StaysFit) (row : Values) (all : AllByRecursion IsFit row) where
  argument_fits : (argument : Option Typed) → IfOk (argument_of argument row) IsFit
  argument_fits None = tt
  argument_fits (Some argument) = stays row argument (All-from_recursion IsFit row all)

  arguments_fit : (aggregates : List Aggregate) → IfOk (arguments_of aggregates row) (AllByRecursion IsFit)
  unfolding arguments_of
  arguments_fit [] = tt
  arguments_fit (aggregate ∷ aggregates) =
      cons_ok IsFit (AllByRecursion IsFit) (AllByRecursion IsFit) (λ value values fit fits. (fit, fits)) (argument_of aggregate.argument row) (arguments_of aggregates row)
      (argument_fits aggregate.argument) (arguments_fit aggregates)

  items_fit : (outputs : List Output) → IfOk (projected outputs row) (AllByRecursion IsFit)
  unfolding projected
  items_fit [] = tt
  items_fit (output ∷ outputs) =
      cons_ok IsFit (AllByRecursion IsFit) (AllByRecursion IsFit) (λ value values fit fits. (fit, fits)) (evaluated output.value row) (projected outputs row)
      (stays row output.value (All-from_recursion IsFit row all)) (items_fit outputs)

-- ---- what is handed on, and fed

-- the law of rows: each row that a line is fits its schema
abbrev pub RowsFit : Type 0
RowsFit = (schema : Layout) (line : Line) → IfOk (row_of schema line) (λ row. IfSome row (FitsSchema schema))

abbrev AreFit : (key : Values) → (time : Option ℤ) → (values : Values) → Type 0
AreFit key time values = AllByRecursion IsFit key × AllByRecursion IsFit values

members_fit : (query : Bound) (grouping : Grouping) (arguments : Values) (keys : List Values) → AllByRecursion IsFit arguments → AllByRecursion (AllByRecursion IsFit) keys
    → AllByRecursion (IsGiven query (λ stream. AreFit) 0) (map (member query grouping arguments) keys)
members_fit query grouping arguments [] fit all = tt
members_fit query grouping arguments (own ∷ keys) fit all = ((all.0, fit), members_fit query grouping arguments keys fit all.1)

fit_rows : (rows : List FedRow) → AllByRecursion (λ (row : FedRow). AreFit row.key row.time row.values) rows → All IsFitRow rows
fit_rows rows all = All-from_recursion IsFitRow rows (by rows all)
  where
    by : (rows : List FedRow) → AllByRecursion (λ (row : FedRow). AreFit row.key row.time row.values) rows → AllByRecursion IsFitRow rows
    by [] all = tt
    by (row ∷ rows) all = (record { key = All-from_recursion IsFit row.key all.0.0; values = All-from_recursion IsFit row.values all.0.1 }, by rows all.1)

module _ (rows_fit : RowsFit) (stays : StaysFit) (held : AreHeld) (query : Bound) (windows : HasWindows query) where
  once_fit : (row : Values) → AllByRecursion IsRead row → IfOk (projected query.outputs row) (λ values. AllByRecursion (IsGiven query (λ stream. AreFit) 0) (record { key = []; time = None; values = values } ∷ []))
  once_fit row all =
      IfOk-weaker (projected query.outputs row) (AllByRecursion IsFit) (λ values. AllByRecursion (IsGiven query (λ stream. AreFit) 0) (record { key = []; time = None; values = values } ∷ []))
      (λ values fit. ((tt, fit), tt)) (items_fit stays row (row_fits row all) query.outputs)

  cells_fit : (columns : List ℕ) (row : Values) → AllByRecursion IsRead row → AllByRecursion IsFit (key_in columns row)
  cells_fit [] row all = tt
  cells_fit (column ∷ columns) row all = ((cell_read row column all).0, cells_fit columns row all)

  pairs_fit : (pairs : List KeyPair) (stream : ℕ) (row : Values) → AllByRecursion IsRead row → AllByRecursion IsFit (join_key pairs stream row)
  pairs_fit [] stream row all = tt
  pairs_fit (pair ∷ pairs) stream row all = ((cell_read row (key_column (is_left stream) pair) all).0, pairs_fit pairs stream row all)

  dedup_fit : (stream : ℕ) (columns : List ℕ) (row : Values) → AllByRecursion IsRead row → Gives query (AllByRecursion (IsGiven query (λ stream. AreFit) 0)) stream (shape.Dedup columns) row
  dedup_fit stream columns row all =
      IfOk-weaker (projected query.outputs row) (AllByRecursion IsFit) (λ values. AllByRecursion (IsGiven query (λ stream. AreFit) 0) (distinguished query columns (key_in columns row) values ∷ []))
      (λ values fit. ((cells_fit columns row all, fit), tt)) (items_fit stays row (row_fits row all) query.outputs)

  gives_fit : (stream : ℕ) (of : Shape) → HasWindowsBy of → (row : Values) → AllByRecursion IsRead row → Gives query (AllByRecursion (IsGiven query (λ stream. AreFit) 0)) stream of row
  gives_fit stream shape.Plain own row all = once_fit row all
  gives_fit stream (shape.Group grouping) own row all =
      IfOk-weaker (arguments_of grouping.aggregates row) (AllByRecursion IsFit) (λ arguments. AllByRecursion (IsGiven query (λ stream. AreFit) 0) (map (member query grouping arguments) (row_keys grouping.keys row)))
      (λ arguments fit. members_fit query grouping arguments (row_keys grouping.keys row) fit (keys_fit held grouping.keys row own.each all))
      (arguments_fit stays row (row_fits row all) grouping.aggregates)
  gives_fit stream (shape.Dedup columns) own row all = dedup_fit stream columns row all
  gives_fit stream (shape.Join joining) own row all = ((pairs_fit joining.keys stream row all, row_fits row all), tt)

  line_fit : (stream : ℕ) (line : Line) → IfOk (line_handed query stream line) (AllByRecursion (IsGiven query (λ stream. AreFit) 0))
  line_fit stream line =
      let schema = layout_at query stream in
      line_has query (AllByRecursion (IsGiven query (λ stream. AreFit) 0)) tt stream line
      (IfOk-weaker (row_of schema line) (λ row. IfSome row (FitsSchema schema)) (λ row. IfSome row (Gives query (AllByRecursion (IsGiven query (λ stream. AreFit) 0)) stream query.shape))
      (λ row fits. IfSome_then row fits (λ own own_fits. gives_fit stream query.shape windows own (schema_read schema own own_fits))) (rows_fit schema line))

  pub part_fit : (epoch : ℕ) (part : Part) (from to : ℕ) → All IsFitRow (fed_in query epoch part from to)
  part_fit epoch part from to = fit_rows (fed_in query epoch part from to) (part_all query (λ stream. AreFit) line_fit epoch part from to)

  pub fed_fit : (parts : List Part) (cuts : Cuts) (e : ℕ) → All IsFitRow (fed query parts cuts e)
  fed_fit parts cuts e = fit_rows (fed query parts cuts e) (fed_all query (λ stream. AreFit) line_fit parts cuts e)

  pub on_time_fit : (parts : List Part) (cuts : Cuts) (e : ℕ) → All IsFitRow (on_time query parts cuts e)
  on_time_fit parts cuts e = fit_rows (on_time query parts cuts e) (on_time_all query (λ stream. AreFit) line_fit parts cuts e)

  pub accepted_fit : (parts : List Part) (cuts : Cuts) (e : ℕ) → All IsFitRow (accepted query parts cuts e)
  accepted_fit parts cuts e = fit_rows (accepted query parts cuts e) (accepted_all query (λ stream. AreFit) line_fit parts cuts e)
