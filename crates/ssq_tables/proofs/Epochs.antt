-- The rows of an epoch can stand in its sink file.
use Rattle.std.proofs.Common.{◌≡◌, sym, subst, ◌+◌, ◌++◌, ◌<◌, ◌*◌, ℕ, zero, suc, ℤ, List, [], ◌∷◌, map, Option, None, Result, Ok, Err, Bool, true, false, not, arith}
use Rattle.std.specs.Prelude.{All, FitsSigned, IfOk, IfSome, length}
use Rattle.std.specs.Int.{w64}
use Rattle.std.specs.List.{AllByRecursion}
use Rattle.std.proofs.lemmas.List.Elements.{All-from_recursion, recursion_from_All}
use Rattle.std.proofs.lemmas.Option.{IfSome_then}
use Rattle.std.proofs.lemmas.Result.{IfOk-weaker}
use Rattle.ssq_value.specs.declared.column.ColType.{ColType}
use Rattle.ssq_time.specs.Time.{IsLineTime}
use Rattle.ssq_value.specs.declared.value.Value.{Value}
use Rattle.ssq_value.specs.declared.value.Value.TheVariants as value
use Rattle.ssq_value.specs.Kind.{IfTime}
use Rattle.ssq_value.specs.Layout.{Layout}
use Rattle.ssq_json.specs.Fits.{FitsSchema, IfInt, IfText, IsLineText}
use Rattle.ssq_json.specs.Line.{row_of}
use Rattle.ssq_json.specs.Stored.{AreStoredIn}
use Rattle.ssq_shape.specs.declared.bound.Bound.{Bound}
use Rattle.ssq_shape.specs.declared.bound.Grouping.{Grouping}
use Rattle.ssq_shape.specs.declared.bound.Joining.{Joining}
use Rattle.ssq_shape.specs.declared.bound.Shape.{Shape}
use Rattle.ssq_shape.specs.declared.bound.Shape.TheVariants as shape
use Rattle.ssq_shape.specs.Evaluation.{Overflow as Excess}
use Rattle.ssq_shape.specs.Fit.{IsFit}
use Rattle.ssq_shape.specs.Kinds.{AreHeldBy}
use Rattle.ssq_shape.specs.Plain.{projected}
use Rattle.ssq_shape.specs.Windows.{HasWindows}
use Rattle.ssq_meaning.specs.FedRows.{FedRow}
use Rattle.ssq_meaning.specs.declared.line.LineFault.{LineFault}
use Rattle.ssq_meaning.specs.Cut.{Cut, Cuts, of_parts}
use Rattle.ssq_meaning.specs.Dedup.{distinguished, firsts, key_in}
use Rattle.ssq_meaning.specs.Epochs.{accepted, fed, fed_between, on_time, out, watermark, watermark_before}
use Rattle.ssq_meaning.specs.Feeding.{fed_at, fed_if, fed_in, layout_at, line_handed, offset_lines, placed}
use Rattle.ssq_meaning.specs.Fit.{IsFitRow}
use Rattle.ssq_meaning.specs.Group.{arguments_of, member, row_keys}
use Rattle.ssq_meaning.specs.Handed.{Handed}
use Rattle.ssq_meaning.specs.Meaning.{Line, Values}
use Rattle.ssq_meaning.specs.Operator.{operator_for, operator_of}
use Rattle.ssq_meaning.specs.Parts.{Part}
use Rattle.ssq_meaning.proofs.Handing.{Gives, IsGiven, accepted_all, all_append, all_flat, line_has, on_time_all}
use Rattle.ssq_meaning.proofs.Keys.{All-by}
use Rattle.ssq_bind.specs.Read.{streams_read}
use Rattle.ssq_bind.specs.Typed.{AreTypedBy, IsTypedGroup, read_kinds}
use Rattle.ssq_json.proofs.Fitting.{stamp_from_line}
use Rattle.ssq_tables.specs.Shown.{AreOfStreams, CanShow, EpochsAreStored, kinds_of}
use Rattle.ssq_tables.proofs.Showing.{IsMember, IsOfStream, firsts_have, groups_shown, joins_shown, values_have}
use Rattle.ssq_tables.proofs.Storing.{rows_stored}
use Rattle.ssq_tables.proofs.Typed.{AreArguments, arguments_held, held_of, keys_held, kinds_in, one_read}

-- the law of rows: each row that a line is fits its schema
abbrev pub RowsFit : Type 0
RowsFit = (schema : Layout) (line : Line) → IfOk (row_of schema line) (λ row. IfSome row (FitsSchema schema))

-- the law of what a state can hold, of some rows
abbrev pub RowsAreFit : (Bound → List Part → Cuts → ℕ → List FedRow) → Type 0
RowsAreFit rows = (query : Bound) → HasWindows query → (parts : List Part) (cuts : Cuts) (e : ℕ) → All IsFitRow (rows query parts cuts e)

-- ---- the row that a line is

value_fits : (own : Value) → IfInt (FitsSigned w64) own → IfTime IsLineTime own → IfText IsLineText own → IsFit own
value_fits value.Null number time text = tt
value_fits (value.Int n) number time text = number
value_fits (value.Text t) number time text = text
value_fits (value.Time t) number time text = stamp_from_line t time
value_fits (value.Truth b) number time text = tt

row_fits : (row : Values) → AllByRecursion (IfInt (FitsSigned w64)) row → AllByRecursion (IfTime IsLineTime) row → AllByRecursion (IfText IsLineText) row → AllByRecursion IsFit row
row_fits [] numbers times texts = tt
row_fits (own ∷ row) numbers times texts = (value_fits own numbers.0 times.0 texts.0, row_fits row numbers.1 times.1 texts.1)

schema_fits : (schema : Layout) (row : Values) → FitsSchema schema row → All IsFit row
schema_fits schema row fits =
    All-from_recursion IsFit row (row_fits row (recursion_from_All (IfInt (FitsSigned w64)) row fits.numbers) (recursion_from_All (IfTime IsLineTime) row fits.years) (recursion_from_All (IfText IsLineText) row fits.texts))

-- ---- what is handed on of it

-- what holds of a row that is handed on, by the query's shape
abbrev IsOf : (query : Bound) (of : Shape) → AreTypedBy (read_kinds query.streams) query.outputs of → (stream : ℕ) (key values : Values) → Type 0
IsOf query shape.Plain typed stream key values = AreStoredIn (kinds_of query.outputs) values
IsOf query (shape.Group grouping) typed stream key values = AreHeldBy typed.key_kinds key × AreArguments typed.aggregate_kinds grouping.aggregates values
IsOf query (shape.Dedup columns) typed stream key values = AreStoredIn (kinds_of query.outputs) values
IsOf query (shape.Join joining) typed stream key values = AreHeldBy (kinds_in query.streams stream) values

later_ok : {A : Type 0} (T : Type 0) (S : A → Type 0) (r : Result A Excess) → (T → IfOk r S) → IfOk r (λ values. T → S values)
later_ok T S (Ok values) give = give
later_ok T S (Err excess) give = tt

is_zero : (stream count : ℕ) → count ≡ 1 → stream < count → stream ≡ 0
is_zero stream count one below = omega (arith, one, below)

module _ (rows_fit : RowsFit) (query : Bound) (of : Shape) (typed : AreTypedBy (read_kinds query.streams) query.outputs of) where
  -- of a row of a stream that the query reads
  abbrev Own : (stream : ℕ) → (key : Values) → (time : Option ℤ) → (values : Values) → Type 0
  Own stream key time values = stream < length query.streams → IsOf query of typed stream key values

  -- the row has the types of all that is read, where one stream is
  read_held : length query.streams ≡ 1 → (stream : ℕ) → stream < length query.streams → (row : Values) → FitsSchema (layout_at query stream) row → AreHeldBy (read_kinds query.streams) row
  read_held one stream below row fits =
      let first = is_zero stream (length query.streams) one below in
      let held = held_of (layout_at query stream).columns row fits.typed in
      subst (λ kinds. AreHeldBy kinds row) (sym (one_read query.streams one)) (subst (λ stream. AreHeldBy (kinds_in query.streams stream) row) first held)

module _ (query : Bound) (grouping : Grouping) (typed : IsTypedGroup (read_kinds query.streams) grouping query.outputs) where
  members_are : (T : Type 0) (arguments : Values) → (T → AreArguments typed.aggregate_kinds grouping.aggregates arguments) → (keys : List Values) → (T → AllByRecursion (AreHeldBy typed.key_kinds) keys)
      → AllByRecursion (λ (own : Handed). T → AreHeldBy typed.key_kinds own.key × AreArguments typed.aggregate_kinds grouping.aggregates own.values) (map (member query grouping arguments) keys)
  members_are T arguments given [] all = tt
  members_are T arguments given (key ∷ keys) all = ((λ is. ((all is).0, given is)), members_are T arguments given keys (λ is. (all is).1))

module _ (rows_fit : RowsFit) (query : Bound) where
  gives : (of : Shape) (typed : AreTypedBy (read_kinds query.streams) query.outputs of) → length query.streams ≡ streams_read of → (stream : ℕ) (row : Values) → FitsSchema (layout_at query stream) row
      → Gives query (AllByRecursion (IsGiven query (Own rows_fit query of typed) stream)) stream of row
  gives shape.Plain typed read stream row fits =
      let S : Values → Type 0 = AreStoredIn (kinds_of query.outputs) in
      IfOk-weaker (projected query.outputs row) (λ values. stream < length query.streams → S values)
      (λ values. AllByRecursion (IsGiven query (Own rows_fit query shape.Plain typed) stream) (record { key = []; time = None; values = values } ∷ [])) (λ values stored. (stored, tt))
      (later_ok (stream < length query.streams) S (projected query.outputs row)
      (λ below. rows_stored (read_kinds query.streams) row query.outputs (read_held rows_fit query shape.Plain typed read stream below row fits) (schema_fits (layout_at query stream) row fits) typed))
  gives (shape.Group grouping) typed read stream row fits =
      let T : Type 0 = stream < length query.streams in
      let held = read_held rows_fit query (shape.Group grouping) typed read stream in
      IfOk-weaker (arguments_of grouping.aggregates row) (λ arguments. T → AreArguments typed.aggregate_kinds grouping.aggregates arguments)
      (λ arguments. AllByRecursion (IsGiven query (Own rows_fit query (shape.Group grouping) typed) stream) (map (member query grouping arguments) (row_keys grouping.keys row)))
      (λ arguments given. members_are query grouping typed T arguments given (row_keys grouping.keys row) (λ below. keys_held (read_kinds query.streams) row (held below row fits) grouping.keys typed.key_kinds typed.keyed))
      (later_ok T (AreArguments typed.aggregate_kinds grouping.aggregates) (arguments_of grouping.aggregates row)
      (λ below. arguments_held (read_kinds query.streams) row (held below row fits) grouping.aggregates typed.aggregate_kinds typed.counted))
  gives (shape.Dedup columns) typed read stream row fits =
      let S : Values → Type 0 = AreStoredIn (kinds_of query.outputs) in
      IfOk-weaker (projected query.outputs row) (λ values. stream < length query.streams → S values)
      (λ values. AllByRecursion (IsGiven query (Own rows_fit query (shape.Dedup columns) typed) stream) (distinguished query columns (key_in columns row) values ∷ [])) (λ values stored. (stored, tt))
      (later_ok (stream < length query.streams) S (projected query.outputs row)
      (λ below. rows_stored (read_kinds query.streams) row query.outputs (read_held rows_fit query (shape.Dedup columns) typed read stream below row fits) (schema_fits (layout_at query stream) row fits) typed))
  gives (shape.Join joining) typed read stream row fits = ((λ below. held_of (layout_at query stream).columns row fits.typed), tt)

  line_is : (typed : AreTypedBy (read_kinds query.streams) query.outputs query.shape) → length query.streams ≡ streams_read query.shape → (stream : ℕ) (line : Line)
      → IfOk (line_handed query stream line) (AllByRecursion (IsGiven query (Own rows_fit query query.shape typed) stream))
  line_is typed read stream line =
      let schema = layout_at query stream in
      let Q : List Handed → Type 0 = AllByRecursion (IsGiven query (Own rows_fit query query.shape typed) stream) in
      line_has query Q tt stream line
      (IfOk-weaker (row_of schema line) (λ row. IfSome row (FitsSchema schema)) (λ row. IfSome row (Gives query Q stream query.shape))
      (λ row fits. IfSome_then row fits (λ one one_fits. gives query.shape typed read stream one one_fits)) (rows_fit schema line))

-- ---- the streams of the rows

module _ (query : Bound) (T : ℕ → Type 0) where
  placed_of : (epoch : ℕ) (part : Part) (at : ℕ) (rows : List Handed) → T part.stream → AllByRecursion (λ (row : FedRow). T row.stream) (map (placed epoch part at) rows)
  placed_of epoch part at [] is = tt
  placed_of epoch part at (row ∷ rows) is = (is, placed_of epoch part at rows is)

  if_of : (epoch : ℕ) (part : Part) (at : ℕ) (rows : Result (List Handed) LineFault) → T part.stream → AllByRecursion (λ (row : FedRow). T row.stream) (fed_if epoch part at rows)
  if_of epoch part at (Ok rows) is = placed_of epoch part at rows is
  if_of epoch part at (Err fault) is = tt

  part_of : (epoch : ℕ) (part : Part) (from to : ℕ) → T part.stream → AllByRecursion (λ (row : FedRow). T row.stream) (fed_in query epoch part from to)
  part_of epoch part from to is =
      all_flat (λ (row : FedRow). T row.stream) (λ line. fed_at query epoch part line.0 line.1) (λ line. if_of epoch part line.0 (line_handed query part.stream line.1) is) (offset_lines part from to)

  between_of : (epoch : ℕ) (parts : List Part) (froms tos : Cut) → AllByRecursion (λ (part : Part). T part.stream) parts → AllByRecursion (λ (row : FedRow). T row.stream) (fed_between query epoch parts froms tos)
  unfolding of_parts
  between_of epoch [] froms tos are = tt
  between_of epoch (part ∷ parts) [] tos are = tt
  between_of epoch (part ∷ parts) (from ∷ froms) [] are = tt
  between_of epoch (part ∷ parts) (from ∷ froms) (to ∷ tos) are =
      all_append (λ (row : FedRow). T row.stream) (fed_in query epoch part from to) (fed_between query epoch parts froms tos) (part_of epoch part from to are.0) (between_of epoch parts froms tos are.1)

  module _ (parts : List Part) (are : AllByRecursion (λ (part : Part). T part.stream) parts) (cuts : Cuts) where
    on_time_of : (e : ℕ) → AllByRecursion (λ (row : FedRow). T row.stream) (on_time query parts cuts e)
    on_time_of e =
        All-by (λ (row : FedRow). T row.stream) (λ row. not ((operator_of query).is_late (watermark query parts cuts e) row)) (fed query parts cuts e) (between_of e parts (cuts e) (cuts (e + 1)) are)

    accepted_of : (e : ℕ) → AllByRecursion (λ (row : FedRow). T row.stream) (accepted query parts cuts e)
    unfolding accepted
    accepted_of zero = tt
    accepted_of (suc e) = all_append (λ (row : FedRow). T row.stream) (accepted query parts cuts e) (on_time query parts cuts e) (accepted_of e) (on_time_of e)

-- ---- what an epoch shows

-- a row of a stream that the query reads, as its shape hands it on, whose values are ones that a query can keep
abbrev IsRow : (query : Bound) (of : Shape) → AreTypedBy (read_kinds query.streams) query.outputs of → FedRow → Type 0
IsRow query of typed row = (row.stream < length query.streams) × IsOf query of typed row.stream row.key row.values × IsFitRow row

rows_are : (query : Bound) (of : Shape) (typed : AreTypedBy (read_kinds query.streams) query.outputs of) (rows : List FedRow) → AllByRecursion (λ (row : FedRow). row.stream < length query.streams → IsOf query of typed row.stream row.key row.values) rows
    → AllByRecursion (λ (row : FedRow). row.stream < length query.streams) rows → AllByRecursion IsFitRow rows → AllByRecursion (IsRow query of typed) rows
rows_are query of typed [] given streams fit = tt
rows_are query of typed (row ∷ rows) given streams fit = ((streams.0, given.0 streams.0, fit.0), rows_are query of typed rows given.1 streams.1 fit.1)

each_of : (P Q : FedRow → Type 0) → ((row : FedRow) → P row → Q row) → (rows : List FedRow) → AllByRecursion P rows → AllByRecursion Q rows
each_of P Q give [] all = tt
each_of P Q give (row ∷ rows) all = (give row all.0, each_of P Q give rows all.1)

module _ (query : Bound) (old new : List FedRow) (before now : Option ℤ) where
  shown_by : (of : Shape) (typed : AreTypedBy (read_kinds query.streams) query.outputs of) → length query.streams ≡ streams_read of → AllByRecursion (IsRow query of typed) old → AllByRecursion (IsRow query of typed) new
      → AllByRecursion (AreStoredIn (kinds_of query.outputs)) ((operator_for of query).added old new before now)
  shown_by shape.Plain typed read olds news =
      let S : Values → Type 0 = AreStoredIn (kinds_of query.outputs) in
      values_have S new (each_of (IsRow query shape.Plain typed) (λ row. S row.values) (λ row is. is.1) new news)
  shown_by (shape.Group grouping) typed read olds news =
      let M : FedRow → Type 0 = IsMember query grouping typed.key_kinds typed.aggregate_kinds in
      let member_of : (row : FedRow) → IsRow query (shape.Group grouping) typed row → M row =
      λ row is. record { key = is.1.0; arguments = is.1.1; key_fits = recursion_from_All IsFit row.key is.2.key; values_fit = recursion_from_All IsFit row.values is.2.values } in
      groups_shown query grouping typed old new before now
      (each_of (IsRow query (shape.Group grouping) typed) M member_of old olds) (each_of (IsRow query (shape.Group grouping) typed) M member_of new news)
  shown_by (shape.Dedup columns) typed read olds news =
      let S : Values → Type 0 = AreStoredIn (kinds_of query.outputs) in
      values_have S (firsts old new) (firsts_have S old new (each_of (IsRow query (shape.Dedup columns) typed) (λ row. S row.values) (λ row is. is.1) new news))
  shown_by (shape.Join joining) typed read olds news =
      let row_of : (row : FedRow) → IsRow query (shape.Join joining) typed row → IsOfStream query row =
      λ row is. record { stream = subst (λ (count : ℕ). row.stream < count) read is.0; values = is.1; fit = recursion_from_All IsFit row.values is.2.values } in
      joins_shown query joining read typed old new before now
      (each_of (IsRow query (shape.Join joining) typed) (IsOfStream query) row_of old olds) (each_of (IsRow query (shape.Join joining) typed) (IsOfStream query) row_of new news)

pub epochs_stored : RowsFit → RowsAreFit accepted → RowsAreFit on_time → EpochsAreStored
unfolding operator_of
epochs_stored rows_fit accepted_fit on_time_fit query parts cuts e can streams =
    let typed = can.typed.shown in
    let P : (stream : ℕ) → (key : Values) → (time : Option ℤ) → (values : Values) → Type 0 = Own rows_fit query query.shape typed in
    let line = line_is rows_fit query typed can.streams in
    let T : ℕ → Type 0 = λ stream. stream < length query.streams in
    let are = recursion_from_All (λ (part : Part). T part.stream) parts streams in
    let old = accepted query parts cuts e in
    let new = on_time query parts cuts e in
    All-from_recursion (AreStoredIn (kinds_of query.outputs)) (out query parts cuts e)
    (shown_by query old new (watermark_before query parts cuts e) (watermark query parts cuts e) query.shape typed can.streams
    (rows_are query query.shape typed old (accepted_all query P line parts cuts e) (accepted_of query T parts are cuts e) (recursion_from_All IsFitRow old (accepted_fit query can.windows parts cuts e)))
    (rows_are query query.shape typed new (on_time_all query P line parts cuts e) (on_time_of query T parts are cuts e) (recursion_from_All IsFitRow new (on_time_fit query can.windows parts cuts e))))
