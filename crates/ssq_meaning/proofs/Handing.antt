-- What holds of all that is handed on of each line, and of each row that is fed.
use Rattle.std.proofs.Common.{◌≡◌, ◌+◌, ◌++◌, [], ◌∷◌, ℕ, zero, suc, ℤ, List, Option, Some, None, Result, Ok, Err, Bool, true, false, refl, ap, sym, ◌∙◌, map, filter}
use Rattle.std.specs.Prelude.{IfOk, IfSome, not, if◌then◌else◌}
use Rattle.std.specs.List.{AllByRecursion, flat_map}
use Rattle.ssq_value.specs.declared.value.Value.{Value}
use Rattle.ssq_json.specs.declared.bad_row.BadRow.{BadRow}
use Rattle.ssq_shape.specs.declared.bound.Bound.{Bound}
use Rattle.ssq_shape.specs.declared.bound.Grouping.{Grouping}
use Rattle.ssq_shape.specs.declared.bound.Shape.{Shape}
use Rattle.ssq_shape.specs.declared.bound.Shape.TheVariants as shape
use Rattle.ssq_shape.specs.Evaluation.{Overflow as Excess, and_then}
use Rattle.ssq_shape.specs.Plain.{passes, projected}
use Rattle.ssq_meaning.specs.FedRows.{FedRow}
use Rattle.ssq_meaning.specs.declared.line.LineFault.{LineFault}
use Rattle.ssq_meaning.specs.Cut.{Cut, Cuts, of_parts}
use Rattle.ssq_meaning.specs.Dedup.{distinguished, distinguished_if, handed_to_dedup, key_in}
use Rattle.ssq_meaning.specs.Epochs.{fed_between, fed, on_time, accepted, watermark}
use Rattle.ssq_meaning.specs.Feeding.{shown_once, handed_by, line_evaluated, line_read, line_handed, read_at, placed, fed_if, fed_at, offset_lines, fed_in}
use Rattle.ssq_meaning.specs.Group.{member, row_keys, arguments_of, handed_to_groups}
use Rattle.ssq_meaning.specs.Handed.{Handed}
use Rattle.ssq_meaning.specs.Join.{handed_to_join}
use Rattle.ssq_meaning.specs.Meaning.{Line, Values}
use Rattle.ssq_meaning.specs.Operator.{operator_of}
use Rattle.ssq_meaning.specs.Parts.{Part}
use Rattle.ssq_meaning.specs.Times.{is_past}
use Rattle.ssq_meaning.proofs.Keys.{All-by}

-- ---- lists

module _ {A : Type 0} (P : A → Type 0) where
  pub all_append : (xs ys : List A) → AllByRecursion P xs → AllByRecursion P ys → AllByRecursion P (xs ++ ys)
  all_append [] ys a b = b
  all_append (x ∷ xs) ys a b = (a.0, all_append xs ys a.1 b)

  pub all_flat : {B : Type 0} (f : B → List A) → ((b : B) → AllByRecursion P (f b)) → (bs : List B) → AllByRecursion P (flat_map f bs)
  all_flat f each [] = tt
  all_flat f each (b ∷ bs) = all_append (f b) (flat_map f bs) (each b) (all_flat f each bs)

pub weaker : {A : Type 0} (P Q : A → Type 0) → ((x : A) → P x → Q x) → (xs : List A) → AllByRecursion P xs → AllByRecursion Q xs
weaker P Q give [] all = tt
weaker P Q give (x ∷ xs) all = (give x all.0, weaker P Q give xs all.1)

-- ---- what evaluating in turn gives

pub then_ok : {A B : Type 0} (P : B → Type 0) (f : A → B) (r : Result A Excess) → IfOk r (λ x. P (f x)) → IfOk (and_then r (λ x. Ok (f x))) P
then_ok P f (Ok x) has = has
then_ok P f (Err excess) has = tt

-- a value, and then those of the rest
pub cons_ok : (P : Value → Type 0) (Q R : Values → Type 0) → ((value : Value) (values : Values) → P value → Q values → R (value ∷ values))
    → (first : Result Value Excess) (rest : Result Values Excess) → IfOk first P → IfOk rest Q → IfOk (and_then first (λ value. and_then rest (λ values. Ok (value ∷ values)))) R
cons_ok P Q R make (Ok value) (Ok values) p q = make value values p q
cons_ok P Q R make (Ok value) (Err excess) p q = tt
cons_ok P Q R make (Err excess) rest p q = tt

-- ---- what is handed on of a line

module _ (query : Bound) (Q : List Handed → Type 0) where
  -- Q of what is handed on of a row, but for joins of one on which WHERE is TRUE
  abbrev pub Gives : (stream : ℕ) → Shape → Values → Type 0
  Gives stream shape.Plain row = IfOk (projected query.outputs row) (λ values. Q (shown_once (Some values)))
  Gives stream (shape.Group grouping) row =
      IfOk (arguments_of grouping.aggregates row) (λ arguments. Q (map (member query grouping arguments) (row_keys grouping.keys row)))
  Gives stream (shape.Dedup columns) row = IfOk (projected query.outputs row) (λ values. Q (distinguished query columns (key_in columns row) values ∷ []))
  Gives stream (shape.Join joining) row = Q (handed_to_join joining stream row ∷ [])

  module _ (none : Q []) where
    if_passing : (passing : Result Bool Excess) (rows : Result (List Handed) Excess) → IfOk rows Q → IfOk (and_then passing (λ passing. if passing then rows else Ok [])) Q
    if_passing (Ok true) rows has = has
    if_passing (Ok false) rows has = none
    if_passing (Err excess) rows has = tt

    to_groups : (stream : ℕ) (grouping : Grouping) (row : Values) → Gives stream (shape.Group grouping) row → IfOk (handed_to_groups query grouping row) Q
    unfolding handed_to_groups
    to_groups stream grouping row has =
        if_passing (passes query.filter row) (and_then (arguments_of grouping.aggregates row) (λ arguments. Ok (map (member query grouping arguments) (row_keys grouping.keys row))))
        (then_ok Q (λ arguments. map (member query grouping arguments) (row_keys grouping.keys row)) (arguments_of grouping.aggregates row) has)

    once_if : (hand : Option Values → List Handed) → Q (hand None) → (passing : Result Bool Excess) (row : Result Values Excess) → IfOk row (λ values. Q (hand (Some values)))
        → IfOk (and_then (and_then passing (λ passing. if passing then and_then row (λ values. Ok (Some values)) else Ok None)) (λ values. Ok (hand values))) Q
    once_if hand nothing (Ok true) (Ok values) has = has
    once_if hand nothing (Ok true) (Err excess) has = tt
    once_if hand nothing (Ok false) row has = nothing
    once_if hand nothing (Err excess) row has = tt

    to_dedup : (stream : ℕ) (columns : List ℕ) (row : Values) → Gives stream (shape.Dedup columns) row → IfOk (handed_to_dedup query columns row) Q
    unfolding handed_to_dedup
    to_dedup stream columns row has = once_if (distinguished_if query columns (key_in columns row)) none (passes query.filter row) (projected query.outputs row) has

    row_has : (of : Shape) (stream : ℕ) (row : Values) → Gives stream of row → IfOk (handed_by of query stream row) Q
    row_has shape.Plain stream row has = once_if shown_once none (passes query.filter row) (projected query.outputs row) has
    row_has (shape.Group grouping) stream row has = to_groups stream grouping row has
    row_has (shape.Dedup columns) stream row has = to_dedup stream columns row has
    row_has (shape.Join joining) stream row has = has

    evaluated_has : (rows : Result (List Handed) Excess) → IfOk rows Q → IfOk (line_evaluated rows) Q
    evaluated_has (Ok rows) has = has
    evaluated_has (Err excess) has = tt

    read_has : (stream : ℕ) (read : Result (Option Values) BadRow) → IfOk read (λ row. IfSome row (Gives stream query.shape)) → IfOk (line_read query stream read) Q
    read_has stream (Err cause) has = tt
    read_has stream (Ok None) has = none
    read_has stream (Ok (Some row)) has = evaluated_has (handed_by query.shape query stream row) (row_has query.shape stream row has)

    -- Q of what is handed on of a line, by the row that the line is
    pub line_has : (stream : ℕ) (line : Line) → IfOk (read_at query stream line) (λ row. IfSome row (Gives stream query.shape)) → IfOk (line_handed query stream line) Q
    line_has stream line has = read_has stream (read_at query stream line) has

-- what holds of each row holds of the one that is read
pub any_read : (P : Values → Type 0) → ((row : Values) → P row) → (read : Result (Option Values) BadRow) → IfOk read (λ row. IfSome row P)
any_read P each (Err cause) = tt
any_read P each (Ok None) = tt
any_read P each (Ok (Some row)) = each row

-- ---- each row that is fed

module _ (query : Bound) (P : (stream : ℕ) → (key : Values) → (time : Option ℤ) → (values : Values) → Type 0) where
  abbrev pub IsGiven : (stream : ℕ) → Handed → Type 0
  IsGiven stream row = P stream row.key row.time row.values

  abbrev pub IsFed : FedRow → Type 0
  IsFed row = P row.stream row.key row.time row.values

  placed_all : (epoch : ℕ) (part : Part) (at : ℕ) (rows : List Handed) → AllByRecursion (IsGiven part.stream) rows → AllByRecursion IsFed (map (placed epoch part at) rows)
  placed_all epoch part at [] all = tt
  placed_all epoch part at (row ∷ rows) all = (all.0, placed_all epoch part at rows all.1)

  if_all : (epoch : ℕ) (part : Part) (at : ℕ) (rows : Result (List Handed) LineFault) → IfOk rows (AllByRecursion (IsGiven part.stream)) → AllByRecursion IsFed (fed_if epoch part at rows)
  if_all epoch part at (Ok rows) all = placed_all epoch part at rows all
  if_all epoch part at (Err fault) all = tt

  module _ (each : (stream : ℕ) (line : Line) → IfOk (line_handed query stream line) (AllByRecursion (IsGiven stream))) where
    line_all : (epoch : ℕ) (part : Part) (line : ℕ × Line) → AllByRecursion IsFed (fed_at query epoch part line.0 line.1)
    line_all epoch part line = if_all epoch part line.0 (line_handed query part.stream line.1) (each part.stream line.1)

    pub part_all : (epoch : ℕ) (part : Part) (from to : ℕ) → AllByRecursion IsFed (fed_in query epoch part from to)
    part_all epoch part from to = all_flat IsFed (λ line. fed_at query epoch part line.0 line.1) (line_all epoch part) (offset_lines part from to)

    between_all : (epoch : ℕ) (parts : List Part) (froms tos : Cut) → AllByRecursion IsFed (fed_between query epoch parts froms tos)
    unfolding of_parts
    between_all epoch [] froms tos = tt
    between_all epoch (part ∷ parts) [] tos = tt
    between_all epoch (part ∷ parts) (from ∷ froms) [] = tt
    between_all epoch (part ∷ parts) (from ∷ froms) (to ∷ tos) =
        all_append IsFed (fed_in query epoch part from to) (fed_between query epoch parts froms tos) (part_all epoch part from to) (between_all epoch parts froms tos)

    module _ (parts : List Part) (cuts : Cuts) where
      pub fed_all : (e : ℕ) → AllByRecursion IsFed (fed query parts cuts e)
      fed_all e = between_all e parts (cuts e) (cuts (e + 1))

      pub on_time_all : (e : ℕ) → AllByRecursion IsFed (on_time query parts cuts e)
      on_time_all e = All-by IsFed (λ row. not ((operator_of query).is_late (watermark query parts cuts e) row)) (fed query parts cuts e) (fed_all e)

      pub accepted_all : (e : ℕ) → AllByRecursion IsFed (accepted query parts cuts e)
      unfolding accepted
      accepted_all zero = tt
      accepted_all (suc e) = all_append IsFed (accepted query parts cuts e) (on_time query parts cuts e) (accepted_all e) (on_time_all e)

-- The key of no row that is on time is closed, where the time of a row is that when its key closes.
module _ (query : Bound) (P : (stream : ℕ) → (key : Values) → (time : Option ℤ) → (values : Values) → Type 0) (closing : Values → Option ℤ)
    (closes : (row : FedRow) → IsFed query P row → row.time ≡ closing row.key) (now : Option ℤ) where
  pub timely_open : (rows : List FedRow) → AllByRecursion (IsFed query P) rows
      → AllByRecursion (λ row. is_past now (closing row.key) ≡ false) (filter (λ (row : FedRow). not (is_past now row.time)) rows)
  timely_open [] all = tt
  timely_open (row ∷ rows) all = by (timely_open rows all.1) (is_past now row.time) refl
    where
      by : AllByRecursion (λ row. is_past now (closing row.key) ≡ false) (filter (λ (row : FedRow). not (is_past now row.time)) rows) → (b : Bool) → is_past now row.time ≡ b
          → AllByRecursion (λ row. is_past now (closing row.key) ≡ false)
          (if not b then row ∷ filter (λ (row : FedRow). not (is_past now row.time)) rows else filter (λ (row : FedRow). not (is_past now row.time)) rows)
      by rest true late = rest
      by rest false late = (ap (is_past now) (sym (closes row all.0)) ∙ late, rest)
