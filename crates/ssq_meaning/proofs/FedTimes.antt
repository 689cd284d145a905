-- The time of a fed row is that of its key, its key has a value for each part, a time where that is a window, and it has a value for each
-- aggregate.
use Rattle.std.proofs.Common.{◌≡◌, [], ◌∷◌, ℕ, suc, ℤ, List, Option, Some, None, Ok, Err, false, refl, ap, sym, subst, map, filter, length}
use Rattle.std.specs.Prelude.{All, IfOk, IfSome, not}
use Rattle.std.specs.List.{AllByRecursion, flat_map}
use Rattle.std.proofs.lemmas.List.Elements.{All-from_recursion}
use Rattle.std.proofs.lemmas.Result.{IfOk-weaker}
use Rattle.ssq_value.specs.declared.value.Value.{Value}
use Rattle.ssq_value.specs.declared.value.Value.TheVariants as value
use Rattle.ssq_shape.specs.declared.bound.Aggregate.{Aggregate}
use Rattle.ssq_shape.specs.declared.bound.Bound.{Bound}
use Rattle.ssq_shape.specs.declared.bound.GroupKey.{GroupKey}
use Rattle.ssq_shape.specs.declared.bound.GroupKey.TheVariants as key
use Rattle.ssq_shape.specs.declared.bound.Grouping.{Grouping}
use Rattle.ssq_shape.specs.declared.bound.Shape.{Shape}
use Rattle.ssq_shape.specs.declared.bound.Shape.TheVariants.{Group}
use Rattle.ssq_shape.specs.Evaluation.{Evaluated, cell_at, time_in}
use Rattle.ssq_meaning.specs.FedRows.{FedRow}
use Rattle.ssq_meaning.specs.Cut.{Cuts}
use Rattle.ssq_meaning.specs.Epochs.{accepted, fed, on_time, watermark}
use Rattle.ssq_meaning.specs.Feeding.{line_handed, read_at, fed_in}
use Rattle.ssq_meaning.specs.Group.{window_starts, starts_if, closing_time, member, row_keys, argument_of, arguments_of, is_closed}
use Rattle.ssq_meaning.specs.GroupLaws.{IsGroupRow}
use Rattle.ssq_meaning.specs.Handed.{Handed}
use Rattle.ssq_meaning.specs.Meaning.{Line, Values}
use Rattle.ssq_meaning.specs.Operator.{operator_for, operator_of}
use Rattle.ssq_meaning.specs.Parts.{Part}
use Rattle.ssq_meaning.proofs.Handing.{Gives, IsGiven, IsFed, all_append, any_read, cons_ok, line_has, part_all, fed_all, on_time_all, accepted_all, timely_open, weaker}

-- a key has a value for each part, a time where that is a window
abbrev pub IsKeyOf : List GroupKey → Values → Type 0
IsKeyOf [] [] = Unit {0}
IsKeyOf [] (own ∷ values) = ⊥
IsKeyOf (key.Column column ∷ keys) [] = ⊥
IsKeyOf (key.Column column ∷ keys) (own ∷ values) = IsKeyOf keys values
IsKeyOf (key.Window column size slide ∷ keys) [] = ⊥
IsKeyOf (key.Window column size slide ∷ keys) (value.Time start ∷ values) = IsKeyOf keys values
IsKeyOf (key.Window column size slide ∷ keys) (value.Null ∷ values) = ⊥
IsKeyOf (key.Window column size slide ∷ keys) (value.Int number ∷ values) = ⊥
IsKeyOf (key.Window column size slide ∷ keys) (value.Text text ∷ values) = ⊥
IsKeyOf (key.Window column size slide ∷ keys) (value.Truth truth ∷ values) = ⊥

columns_front : (column : ℕ) (keys : List GroupKey) (own : Value) (rests : List Values) → AllByRecursion (IsKeyOf keys) rests
    → AllByRecursion (IsKeyOf (key.Column column ∷ keys)) (map (λ rest. own ∷ rest) rests)
columns_front column keys own [] all = tt
columns_front column keys own (rest ∷ rests) all = (all.0, columns_front column keys own rests all.1)

windows_front : (column : ℕ) (size slide start : ℤ) (keys : List GroupKey) (rests : List Values) → AllByRecursion (IsKeyOf keys) rests
    → AllByRecursion (IsKeyOf (key.Window column size slide ∷ keys)) (map (λ rest. value.Time start ∷ rest) rests)
windows_front column size slide start keys [] all = tt
windows_front column size slide start keys (rest ∷ rests) all = (all.0, windows_front column size slide start keys rests all.1)

windows_all : (column : ℕ) (size slide : ℤ) (keys : List GroupKey) (rests : List Values) → AllByRecursion (IsKeyOf keys) rests → (starts : List ℤ)
    → AllByRecursion (IsKeyOf (key.Window column size slide ∷ keys)) (flat_map (λ own. map (λ rest. own ∷ rest) rests) (map value.Time starts))
windows_all column size slide keys rests all [] = tt
windows_all column size slide keys rests all (start ∷ starts) =
    all_append (IsKeyOf (key.Window column size slide ∷ keys)) (map (λ rest. value.Time start ∷ rest) rests) (flat_map (λ own. map (λ rest. own ∷ rest) rests) (map value.Time starts))
    (windows_front column size slide start keys rests all) (windows_all column size slide keys rests all starts)

windows_if : (column : ℕ) (size slide : ℤ) (keys : List GroupKey) (rests : List Values) → AllByRecursion (IsKeyOf keys) rests → (time : Option ℤ)
    → AllByRecursion (IsKeyOf (key.Window column size slide ∷ keys)) (flat_map (λ own. map (λ rest. own ∷ rest) rests) (starts_if size slide time))
windows_if column size slide keys rests all None = tt
windows_if column size slide keys rests all (Some t) = windows_all column size slide keys rests all (window_starts t size slide)

row_keys_are : (keys : List GroupKey) (row : Values) → AllByRecursion (IsKeyOf keys) (row_keys keys row)
unfolding row_keys
row_keys_are [] row = (tt, tt)
row_keys_are (key.Column column ∷ keys) row =
    all_append (IsKeyOf (key.Column column ∷ keys)) (map (λ rest. cell_at row column ∷ rest) (row_keys keys row)) []
    (columns_front column keys (cell_at row column) (row_keys keys row) (row_keys_are keys row)) tt
row_keys_are (key.Window column size slide ∷ keys) row = windows_if column size slide keys (row_keys keys row) (row_keys_are keys row) (time_in (cell_at row column))

-- as many values as aggregates
any_value : (r : Evaluated) → IfOk r (λ value. Unit {0})
any_value (Ok value) = tt
any_value (Err excess) = tt

arguments_length : (aggregates : List Aggregate) (row : Values) → IfOk (arguments_of aggregates row) (λ arguments. length arguments ≡ length aggregates)
unfolding arguments_of
arguments_length [] row = refl
arguments_length (aggregate ∷ aggregates) row =
    cons_ok (λ value. Unit {0}) (λ values. length values ≡ length aggregates) (λ values. length values ≡ suc (length aggregates)) (λ value values own same. ap (λ n. suc n) same)
    (argument_of aggregate.argument row) (arguments_of aggregates row) (any_value (argument_of aggregate.argument row)) (arguments_length aggregates row)

lengths_agree : (keys : List GroupKey) (own : Values) → IsKeyOf keys own → length own ≡ length keys
lengths_agree [] [] are = refl
lengths_agree [] (one ∷ own) are = absurd are
lengths_agree (key.Column column ∷ keys) [] are = absurd are
lengths_agree (key.Column column ∷ keys) (one ∷ own) are = ap (λ n. suc n) (lengths_agree keys own are)
lengths_agree (key.Window column size slide ∷ keys) [] are = absurd are
lengths_agree (key.Window column size slide ∷ keys) (value.Time t ∷ own) are = ap (λ n. suc n) (lengths_agree keys own are)
lengths_agree (key.Window column size slide ∷ keys) (value.Null ∷ own) are = absurd are
lengths_agree (key.Window column size slide ∷ keys) (value.Int n ∷ own) are = absurd are
lengths_agree (key.Window column size slide ∷ keys) (value.Text n ∷ own) are = absurd are
lengths_agree (key.Window column size slide ∷ keys) (value.Truth n ∷ own) are = absurd are

module _ (query : Bound) (grouping : Grouping) where
  abbrev IsMade : (stream : ℕ) → (key : Values) → (time : Option ℤ) → (values : Values) → Type 0
  IsMade stream key time values = (time ≡ closing_time query grouping key) × IsKeyOf grouping.keys key × (length values ≡ length grouping.aggregates)

  abbrev AreMade : List Handed → Type 0
  AreMade rows = AllByRecursion (IsGiven query IsMade 0) rows

  members_made : (arguments : Values) (keys : List Values) → length arguments ≡ length grouping.aggregates → AllByRecursion (IsKeyOf grouping.keys) keys → AreMade (map (member query grouping arguments) keys)
  members_made arguments [] long are = tt
  members_made arguments (own ∷ keys) long are = ((refl, are.0, long), members_made arguments keys long are.1)

  row_made : (stream : ℕ) (row : Values) → Gives query AreMade stream (Group grouping) row
  row_made stream row =
      IfOk-weaker (arguments_of grouping.aggregates row) (λ arguments. length arguments ≡ length grouping.aggregates) (λ arguments. AreMade (map (member query grouping arguments) (row_keys grouping.keys row)))
      (λ arguments long. members_made arguments (row_keys grouping.keys row) long (row_keys_are grouping.keys row)) (arguments_length grouping.aggregates row)

  is_group_row : (row : FedRow) → IsMade row.stream row.key row.time row.values → IsGroupRow query grouping row
  is_group_row row made = record { time = made.0; key = lengths_agree grouping.keys row.key made.1; values = made.2 }

  group_rows : (rows : List FedRow) → AllByRecursion (IsFed query IsMade) rows → All (IsGroupRow query grouping) rows
  group_rows rows all = All-from_recursion (IsGroupRow query grouping) rows (weaker (IsFed query IsMade) (IsGroupRow query grouping) is_group_row rows all)

  module _ (is : query.shape ≡ Group grouping) where
    line_made : (stream : ℕ) (line : Line) → IfOk (line_handed query stream line) AreMade
    line_made stream line =
        line_has query AreMade tt stream line
        (subst (λ (of : Shape). IfOk (read_at query stream line) (λ row. IfSome row (Gives query AreMade stream of))) (sym is) (any_read (Gives query AreMade stream (Group grouping)) (row_made stream) (read_at query stream line)))

    pub part_grouped : (epoch : ℕ) (part : Part) (from to : ℕ) → All (IsGroupRow query grouping) (fed_in query epoch part from to)
    part_grouped epoch part from to = group_rows (fed_in query epoch part from to) (part_all query IsMade line_made epoch part from to)

    module _ (parts : List Part) (cuts : Cuts) (e : ℕ) where
      pub fed_grouped : All (IsGroupRow query grouping) (fed query parts cuts e)
      fed_grouped = group_rows (fed query parts cuts e) (fed_all query IsMade line_made parts cuts e)

      pub on_time_grouped : All (IsGroupRow query grouping) (on_time query parts cuts e)
      on_time_grouped = group_rows (on_time query parts cuts e) (on_time_all query IsMade line_made parts cuts e)

      pub accepted_grouped : All (IsGroupRow query grouping) (accepted query parts cuts e)
      accepted_grouped = group_rows (accepted query parts cuts e) (accepted_all query IsMade line_made parts cuts e)

      -- the key of no row that is on time is closed
      pub on_time_open : AllByRecursion (λ row. is_closed query grouping (watermark query parts cuts e) row.key ≡ false) (on_time query parts cuts e)
      unfolding operator_of
      on_time_open =
          let now = watermark query parts cuts e in
          let rows = fed query parts cuts e in
          subst (λ (shape : Shape). AllByRecursion (λ row. is_closed query grouping now row.key ≡ false) (filter (λ (row : FedRow). not ((operator_for shape query).is_late now row)) rows)) (sym is)
          (timely_open query IsMade (closing_time query grouping) (λ row made. made.0) now rows (fed_all query IsMade line_made parts cuts e))

      -- the key of each row that is on time is one
      pub on_time_keyed : AllByRecursion (λ row. IsKeyOf grouping.keys row.key) (on_time query parts cuts e)
      on_time_keyed =
          weaker (IsFed query IsMade) (λ row. IsKeyOf grouping.keys row.key) (λ row made. made.1) (on_time query parts cuts e) (on_time_all query IsMade line_made parts cuts e)
