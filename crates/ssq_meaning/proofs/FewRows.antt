-- A line feeds at most 64 rows.
use Rattle.std.proofs.Common.{◌≡◌, ◌≤ℤ◌, ◌≤◌, ◌+◌, ◌*◌, ◌-◌, [], ◌∷◌, ℕ, zero, suc, ℤ, pos, ◌+ℤ◌, ◌*ℤ◌, List, Option, Some, None, Result, Ok, Err, Bool, refl, ap, ◌∙◌, arith, add-one, drop, filter, length, map}
use Rattle.std.specs.Prelude.{◌==◌, IfOk, not, sum}
use Rattle.std.specs.List.{AllByRecursion, flat_map, range_with_len}
use Rattle.std.proofs.lemmas.List.{length-append, length-map, length-take}
use Rattle.std.proofs.lemmas.List.FromFn.{length-enumerate_from, length-range_with_len}
use Rattle.std.proofs.lemmas.List.Sums.{count_by-le-length, length-filter, sum_by-cons}
use Rattle.ssq_time.specs.Time.{IsSpan}
use Rattle.ssq_value.specs.declared.value.Value.TheVariants as value
use Rattle.ssq_value.specs.Key.{keys_of}
use Rattle.ssq_window.specs.Window.{first_start, window_count}
use Rattle.ssq_route.specs.Place.{place_of}
use Rattle.ssq_shape.specs.declared.bound.Bound.{Bound}
use Rattle.ssq_shape.specs.declared.bound.GroupKey.{GroupKey}
use Rattle.ssq_shape.specs.declared.bound.GroupKey.TheVariants as key
use Rattle.ssq_shape.specs.declared.bound.Grouping.{Grouping}
use Rattle.ssq_shape.specs.declared.bound.Shape.{Shape}
use Rattle.ssq_shape.specs.declared.bound.Shape.TheVariants as shape
use Rattle.ssq_shape.specs.Evaluation.{Overflow as Excess, cell_at, time_in}
use Rattle.ssq_shape.specs.Plain.{projected}
use Rattle.ssq_shape.specs.Windows.{HasWindow, HasWindowsBy, HasWindows, is_window}
use Rattle.ssq_meaning.specs.FedRows.{FedRow}
use Rattle.ssq_meaning.specs.declared.line.LineFault.{LineFault}
use Rattle.ssq_meaning.specs.Cut.{Cut, Cuts, AreCuts, AreWithin, of_parts}
use Rattle.ssq_meaning.specs.Dedup.{distinguished, key_in}
use Rattle.ssq_meaning.specs.Epochs.{accepted, bucket, fed, fed_between, on_time, watermark}
use Rattle.ssq_meaning.specs.Feeding.{fed_at, fed_if, fed_in, line_handed, offset_lines, placed, read_at}
use Rattle.ssq_meaning.specs.Group.{arguments_of, key_values, member, row_keys, starts_if}
use Rattle.ssq_meaning.specs.Handed.{Handed}
use Rattle.ssq_meaning.specs.Meaning.{Line, Values, lines_between}
use Rattle.ssq_meaning.specs.Operator.{operator_of}
use Rattle.ssq_meaning.specs.Parts.{Part}
use Rattle.ssq_meaning.proofs.Handing.{Gives, any_read, line_has}

-- ---- the keys of a row

-- the law of windows: there are few
abbrev pub AreFew : Type 0
AreFew = (t size slide : ℤ) → IsSpan size → IsSpan slide → slide ≤ℤ size → size ≤ℤ (pos 64 *ℤ slide) → window_count t size slide ≤ 64

-- each value stands before each of the rests
fronts_length : (values : Values) (rests : List Values) → length (flat_map (λ value. map (λ rest. value ∷ rest) rests) values) ≡ length values * length rests
fronts_length [] rests = omega arith
fronts_length (value ∷ values) rests =
    omega (arith, length-append (map (λ rest. value ∷ rest) rests) (flat_map (λ value. map (λ rest. value ∷ rest) rests) values), length-map rests (λ rest. value ∷ rest), fronts_length values rests)

starts_length : (t size slide : ℤ) → length (starts_if size slide (Some t)) ≡ window_count t size slide
starts_length t size slide =
    let place : ℕ → ℤ = λ k. first_start t size slide +ℤ (pos k *ℤ slide) in
    let count = range_with_len 0 (window_count t size slide) in
    length-map (map place count) value.Time ∙ length-map count place ∙ length-range_with_len 0 (window_count t size slide)

few_starts : AreFew → (column : ℕ) (size slide : ℤ) → HasWindow (key.Window column size slide) → (time : Option ℤ) → length (starts_if size slide time) ≤ 64
few_starts few column size slide is None = omega arith
few_starts few column size slide is (Some t) = omega (arith, starts_length t size slide, few t size slide is.size_is is.slide_is is.least is.most)

-- without a window a row has one key
one_key : (keys : List GroupKey) (row : Values) → length (filter is_window keys) ≡ 0 → length (row_keys keys row) ≡ 1
unfolding row_keys
one_key [] row none = refl
one_key (key.Column column ∷ keys) row none =
    omega (arith, fronts_length (key_values (key.Column column) row) (row_keys keys row), one_key keys row none)
one_key (key.Window column size slide ∷ keys) row none = absurd (omega (arith, none))

few_keys : AreFew → (keys : List GroupKey) (row : Values) → AllByRecursion HasWindow keys → length (filter is_window keys) ≤ 1 → length (row_keys keys row) ≤ 64
unfolding row_keys
few_keys few [] row each one = omega arith
few_keys few (key.Column column ∷ keys) row each one =
    omega (arith, fronts_length (key_values (key.Column column) row) (row_keys keys row), few_keys few keys row each.1 one)
few_keys few (key.Window column size slide ∷ keys) row each one =
    let rests = one_key keys row (omega (arith, one)) in
    let starts = few_starts few column size slide each.0 (time_in (cell_at row column)) in
    let all = fronts_length (key_values (key.Window column size slide) row) (row_keys keys row) ∙ ap (λ n. length (key_values (key.Window column size slide) row) * n) rests in
    omega (arith, all, starts)

-- ---- lists

module _ {A B : Type 0} (f : A → List B) (each : (a : A) → length (f a) ≤ 64) where
  few_flat : (xs : List A) → length (flat_map f xs) ≤ 64 * length xs
  few_flat [] = omega arith
  few_flat (x ∷ xs) = omega (arith, length-append (f x) (flat_map f xs), each x, few_flat xs)

pub passing_few : {A : Type 0} (p : A → Bool) (xs : List A) → length (filter p xs) ≤ length xs
passing_few p xs = omega (arith, length-filter p xs, count_by-le-length p xs)

-- ---- what is fed

module _ (few : AreFew) (query : Bound) (windows : HasWindows query) where
  abbrev HasFew : List Handed → Type 0
  HasFew rows = length rows ≤ 64

  once_few : (hand : Values → Handed) (row : Result Values Excess) → IfOk row (λ values. HasFew (hand values ∷ []))
  once_few hand (Ok values) = omega arith
  once_few hand (Err excess) = tt

  shown_few : (stream : ℕ) (row : Values) → Gives query HasFew stream shape.Plain row
  shown_few stream row = once_few (λ values. record { key = []; time = None; values = values }) (projected query.outputs row)

  members_few : (grouping : Grouping) (keys : List Values) → length keys ≤ 64 → (arguments : Result Values Excess) → IfOk arguments (λ arguments. HasFew (map (member query grouping arguments) keys))
  members_few grouping keys few_of (Ok arguments) = omega (arith, length-map keys (member query grouping arguments), few_of)
  members_few grouping keys few_of (Err excess) = tt

  gives_few : (stream : ℕ) (of : Shape) → HasWindowsBy of → (row : Values) → Gives query HasFew stream of row
  gives_few stream shape.Plain own row = shown_few stream row
  gives_few stream (shape.Group grouping) own row =
      members_few grouping (row_keys grouping.keys row) (few_keys few grouping.keys row own.each own.one) (arguments_of grouping.aggregates row)
  gives_few stream (shape.Dedup columns) own row = once_few (distinguished query columns (key_in columns row)) (projected query.outputs row)
  gives_few stream (shape.Join joining) own row = omega arith

  if_few : (epoch : ℕ) (part : Part) (at : ℕ) (rows : Result (List Handed) LineFault) → IfOk rows HasFew → length (fed_if epoch part at rows) ≤ 64
  if_few epoch part at (Ok rows) few_of = omega (arith, length-map rows (placed epoch part at), few_of)
  if_few epoch part at (Err fault) few_of = omega arith

  line_few : (epoch : ℕ) (part : Part) (line : ℕ × Line) → length (fed_at query epoch part line.0 line.1) ≤ 64
  line_few epoch part line =
      if_few epoch part line.0 (line_handed query part.stream line.1)
      (line_has query HasFew (omega arith) part.stream line.1 (any_read (Gives query HasFew part.stream query.shape) (gives_few part.stream query.shape windows) (read_at query part.stream line.1)))

  pub part_few : (epoch : ℕ) (part : Part) (from to : ℕ) → length (fed_in query epoch part from to) ≤ 64 * (to - from)
  part_few epoch part from to =
      omega (
        arith,
        few_flat (λ line. fed_at query epoch part line.0 line.1) (line_few epoch part) (offset_lines part from to),
        length-enumerate_from from (lines_between from to part.lines),
        length-take (to - from) (drop from part.lines),
      )

  between_few : (epoch : ℕ) (parts : List Part) (froms tos : Cut) → AreWithin parts froms tos → length (fed_between query epoch parts froms tos) + 64 * sum froms ≤ 64 * sum tos
  unfolding of_parts
  between_few epoch [] [] [] within = omega arith
  between_few epoch [] [] (to ∷ tos) within = absurd within
  between_few epoch [] (from ∷ froms) tos within = absurd within
  between_few epoch (part ∷ parts) [] tos within = absurd within
  between_few epoch (part ∷ parts) (from ∷ froms) [] within = absurd within
  between_few epoch (part ∷ parts) (from ∷ froms) (to ∷ tos) within =
      omega (
        arith,
        length-append (fed_in query epoch part from to) (fed_between query epoch parts froms tos),
        part_few epoch part from to,
        between_few epoch parts froms tos within.1,
        within.0,
        sum_by-cons (λ (n : ℕ). n) from froms,
        sum_by-cons (λ (n : ℕ). n) to tos,
      )

  module _ (parts : List Part) (cuts : Cuts) where
    more_few : (e : ℕ) → AreWithin parts (cuts e) (cuts (e + 1)) → length (fed query parts cuts e) + 64 * sum (cuts e) ≤ 64 * sum (cuts (e + 1))
    more_few e within = between_few e parts (cuts e) (cuts (e + 1)) within

    timely_few : (e : ℕ) → length (on_time query parts cuts e) ≤ length (fed query parts cuts e)
    timely_few e = passing_few (λ row. not ((operator_of query).is_late (watermark query parts cuts e) row)) (fed query parts cuts e)

    pub fed_few : (e : ℕ) → AreWithin parts (cuts e) (cuts (e + 1)) → length (fed query parts cuts e) ≤ 64 * (sum (cuts (e + 1)) - sum (cuts e))
    fed_few e within = omega (arith, more_few e within)

    pub on_time_few : (e : ℕ) → AreWithin parts (cuts e) (cuts (e + 1)) → length (on_time query parts cuts e) ≤ 64 * (sum (cuts (e + 1)) - sum (cuts e))
    on_time_few e within = omega (arith, more_few e within, timely_few e)

    pub accepted_few : (e : ℕ) → AreCuts parts cuts e → length (accepted query parts cuts e) ≤ 64 * sum (cuts e)
    unfolding accepted
    accepted_few zero are = omega arith
    accepted_few (suc e) are =
        let next : sum (cuts (e + 1)) ≡ sum (cuts (suc e)) = ap (λ n. sum (cuts n)) (add-one e) in
        let before = accepted_few e (record { starts = are.starts; follow = λ at low. are.follow at (omega (arith, low)) }) in
        omega (arith, length-append (accepted query parts cuts e) (on_time query parts cuts e), before, more_few e (are.follow e (omega arith)), timely_few e, next)

pub bucket_few : (rows : List FedRow) (partitions p : ℕ) → length (bucket partitions p rows) ≤ length rows
bucket_few rows partitions p = passing_few (λ row. place_of (keys_of row.key) partitions == p) rows
