-- The rows of the epochs of a query that keeps nothing are those of the batch query.
use Rattle.std.proofs.Common.{◌≡◌, ◌≤◌, ◌+◌, ◌++◌, [], ◌∷◌, ℕ, zero, suc, List, Option, Some, None, Bool, true, false, Result, Ok, Err, refl, ap, sym, ◌∙◌, subst, arith, take, filter, map, add-one}
use Rattle.std.specs.Prelude.{not, if◌then◌else◌, option_and_then}
use Rattle.std.specs.List.{filter_map, flat_map, enumerate_from, cons_option}
use Rattle.std.specs.List.Sorted.{IsPermutation}
use Rattle.std.specs.Result.{result_ok}
use Rattle.std.proofs.lemmas.List.{append-nil, map-append}
use Rattle.std.proofs.lemmas.List.Elements.{filter_map-append, filter-append}
use Rattle.std.proofs.lemmas.List.Sorted.{IsPermutation-refl, IsPermutation-trans, IsPermutation-append_left, IsPermutation-append_right}
use Rattle.ssq_json.specs.declared.bad_row.BadRow.{BadRow}
use Rattle.ssq_shape.specs.declared.bound.Bound.{Bound}
use Rattle.ssq_shape.specs.declared.bound.Shape.{Shape}
use Rattle.ssq_shape.specs.declared.bound.Shape.TheVariants.{Plain}
use Rattle.ssq_shape.specs.Evaluation.{Overflow as Excess, and_then}
use Rattle.ssq_shape.specs.Plain.{passes, projected}
use Rattle.ssq_meaning.specs.FedRows.{FedRow}
use Rattle.ssq_meaning.specs.Meaning.{Line, Values, is_fed, is_true_answer, shown, lines_between}
use Rattle.ssq_meaning.specs.Parts.{Part}
use Rattle.ssq_meaning.specs.Cut.{Cut, Cuts, start_of, of_parts, AreWithin, AreCuts}
use Rattle.ssq_meaning.specs.Feeding.{read_at, handed_by, shown_once, line_evaluated, line_read, fed_if, fed_at, fed_in}
use Rattle.ssq_meaning.specs.Operator.{plain, operator_for, operator_of}
use Rattle.ssq_meaning.specs.Epochs.{fed_between, fed, watermark, watermark_before, accepted, out}
use Rattle.ssq_meaning.specs.Laws.{outs, batch_of, batch}
use Rattle.ssq_meaning.proofs.Between.{take-more}
use Rattle.ssq_meaning.proofs.Shuffled.{middle}

-- the rows as they are shown
abbrev pub values_of : List FedRow → List Values
values_of rows = map (λ row. row.values) rows

-- ---- one line

by_shown : (epoch : ℕ) (part : Part) (at : ℕ) (row : Result Values Excess)
    → values_of (fed_if epoch part at (line_evaluated (and_then (and_then row (λ values. Ok (Some values))) (λ values. Ok (shown_once values))))) ≡ cons_option (result_ok row) []
by_shown epoch part at (Ok values) = refl
by_shown epoch part at (Err excess) = refl

by_pass : (query : Bound) (epoch : ℕ) (part : Part) (at : ℕ) (row : Values) (passing : Result Bool Excess)
    → values_of (fed_if epoch part at (line_evaluated (and_then (and_then passing (λ passing. if passing then and_then (projected query.outputs row) (λ values. Ok (Some values)) else Ok None)) (λ values. Ok (shown_once values)))))
    ≡ shown query (if is_true_answer passing then row ∷ [] else [])
by_pass query epoch part at row (Err excess) = refl
by_pass query epoch part at row (Ok false) = refl
by_pass query epoch part at row (Ok true) = by_shown epoch part at (projected query.outputs row)

by_read : (query : Bound) (epoch : ℕ) (part : Part) (at : ℕ) (read : Result (Option Values) BadRow) → query.shape ≡ Plain
    → values_of (fed_if epoch part at (line_read query part.stream read)) ≡ shown query (filter (is_fed query) (cons_option (option_and_then (λ row. row) (result_ok read)) []))
by_read query epoch part at (Err cause) is = refl
by_read query epoch part at (Ok None) is = refl
by_read query epoch part at (Ok (Some row)) is =
    ap (λ (shape : Shape). values_of (fed_if epoch part at (line_evaluated (handed_by shape query part.stream row)))) is
    ∙ by_pass query epoch part at row (passes query.filter row)

line_values : (query : Bound) (epoch : ℕ) (part : Part) (at : ℕ) (line : Line) → query.shape ≡ Plain → values_of (fed_at query epoch part at line) ≡ batch_of query part.stream (line ∷ [])
line_values query epoch part at line is = by_read query epoch part at (read_at query part.stream line) is

-- ---- the lines of a part

-- rows are shown line by line
batch_of-append : (query : Bound) (stream : ℕ) (xs ys : List Line) → batch_of query stream (xs ++ ys) ≡ batch_of query stream xs ++ batch_of query stream ys
batch_of-append query stream xs ys =
    let read : Line → Option Values = λ line. option_and_then (λ row. row) (result_ok (read_at query stream line)) in
    ap (λ rows. shown query (filter (is_fed query) rows)) (filter_map-append read xs ys)
    ∙ ap (shown query) (filter-append (is_fed query) (filter_map read xs) (filter_map read ys))
    ∙ filter_map-append (λ row. result_ok (projected query.outputs row)) (filter (is_fed query) (filter_map read xs)) (filter (is_fed query) (filter_map read ys))

feeding : Bound → ℕ → Part → ℕ → List Line → List FedRow
feeding query epoch part at lines = flat_map (λ line. fed_at query epoch part line.0 line.1) (enumerate_from at lines)

lines_values : (query : Bound) (epoch : ℕ) (part : Part) → query.shape ≡ Plain → (at : ℕ) (lines : List Line) → values_of (feeding query epoch part at lines) ≡ batch_of query part.stream lines
unfolding feeding
lines_values query epoch part is at [] = refl
lines_values query epoch part is at (line ∷ lines) =
    map-append (λ (row : FedRow). row.values) (fed_at query epoch part at line) (feeding query epoch part (at + 1) lines)
    ∙ (λ i. line_values query epoch part at line is i ++ lines_values query epoch part is (at + 1) lines i)
    ∙ sym (batch_of-append query part.stream (line ∷ []) lines)

fed_values : (query : Bound) (epoch : ℕ) (part : Part) (from to : ℕ) → query.shape ≡ Plain → values_of (fed_in query epoch part from to) ≡ batch_of query part.stream (lines_between from to part.lines)
unfolding feeding
fed_values query epoch part from to is = lines_values query epoch part is from (lines_between from to part.lines)

-- the rows of a longer front are those of the front and those of the lines between
more_lines : (query : Bound) (epoch : ℕ) (part : Part) (from to : ℕ) → query.shape ≡ Plain → from ≤ to
    → batch_of query part.stream (take to part.lines) ≡ batch_of query part.stream (take from part.lines) ++ values_of (fed_in query epoch part from to)
more_lines query epoch part from to is le =
    ap (batch_of query part.stream) (take-more from to part.lines le)
    ∙ batch_of-append query part.stream (take from part.lines) (lines_between from to part.lines)
    ∙ ap (λ rows. batch_of query part.stream (take from part.lines) ++ rows) (sym (fed_values query epoch part from to is))

-- ---- all parts

between_values : (query : Bound) (epoch : ℕ) (part : Part) (parts : List Part) (from to : ℕ) (froms tos : Cut)
    → values_of (fed_between query epoch (part ∷ parts) (from ∷ froms) (to ∷ tos)) ≡ values_of (fed_in query epoch part from to) ++ values_of (fed_between query epoch parts froms tos)
unfolding of_parts
between_values query epoch part parts from to froms tos = map-append (λ (row : FedRow). row.values) (fed_in query epoch part from to) (fed_between query epoch parts froms tos)

grows : (query : Bound) (epoch : ℕ) → query.shape ≡ Plain → (parts : List Part) (froms tos : Cut) → AreWithin parts froms tos
    → IsPermutation (batch query parts froms ++ values_of (fed_between query epoch parts froms tos)) (batch query parts tos)
unfolding of_parts
grows query epoch is [] [] [] within = IsPermutation-refl []
grows query epoch is [] [] (to ∷ tos) within = absurd within
grows query epoch is [] (from ∷ froms) tos within = absurd within
grows query epoch is (part ∷ parts) [] tos within = absurd within
grows query epoch is (part ∷ parts) (from ∷ froms) [] within = absurd within
grows query epoch is (part ∷ parts) (from ∷ froms) (to ∷ tos) within =
    let old = batch_of query part.stream (take from part.lines) in
    let new = values_of (fed_in query epoch part from to) in
    let rest = batch query parts froms in
    let more = values_of (fed_between query epoch parts froms tos) in
    let turned : IsPermutation ((old ++ rest) ++ (new ++ more)) ((old ++ new) ++ (rest ++ more)) = middle old rest new more in
    let grown : IsPermutation ((old ++ new) ++ (rest ++ more)) ((old ++ new) ++ batch query parts tos) =
    IsPermutation-append_right (old ++ new) (rest ++ more) (batch query parts tos) (grows query epoch is parts froms tos within.1) in
    let all : IsPermutation ((old ++ rest) ++ (new ++ more)) ((old ++ new) ++ batch query parts tos) = IsPermutation-trans _ _ _ turned grown in
    let front : IsPermutation ((old ++ rest) ++ (new ++ more)) (batch_of query part.stream (take to part.lines) ++ batch query parts tos) =
    subst (λ l. IsPermutation ((old ++ rest) ++ (new ++ more)) (l ++ batch query parts tos)) (sym (more_lines query epoch part from to is within.0)) all in
    subst (λ l. IsPermutation ((old ++ rest) ++ l) (batch_of query part.stream (take to part.lines) ++ batch query parts tos)) (sym (between_values query epoch part parts from to froms tos)) front

nothing_yet : (query : Bound) (parts : List Part) → batch query parts (start_of parts) ≡ []
nothing_yet query [] = refl
nothing_yet query (part ∷ parts) = nothing_yet query parts

-- ---- the epochs

plain_is : (query : Bound) → query.shape ≡ Plain → operator_of query ≡ plain
unfolding operator_of
plain_is query is = ap (λ shape. operator_for shape query) is

pub filter_true : (rows : List FedRow) → filter (λ row. true) rows ≡ rows
filter_true [] = refl
filter_true (row ∷ rows) = ap (λ rest. row ∷ rest) (filter_true rows)

-- an epoch shows the rows that it is fed
pub out_is : (query : Bound) → query.shape ≡ Plain → (parts : List Part) (cuts : Cuts) (e : ℕ) → out query parts cuts e ≡ values_of (fed query parts cuts e)
out_is query is parts cuts e =
    let same = plain_is query is in
    let now = watermark query parts cuts e in
    let rows = fed query parts cuts e in
    (λ i. (same i).added (accepted query parts cuts e) (filter (λ row. not ((same i).is_late now row)) rows) (watermark_before query parts cuts e) now)
    ∙ ap values_of (filter_true rows)

fewer : (parts : List Part) (cuts : Cuts) (n : ℕ) → AreCuts parts cuts (suc n) → AreCuts parts cuts n
fewer parts cuts n are = record { starts = are.starts; follow = λ e less. are.follow e (omega (arith, less)) }

pub rows_are_batch : (query : Bound) (parts : List Part) (cuts : Cuts) (n : ℕ) → query.shape ≡ Plain → AreCuts parts cuts n
    → IsPermutation (outs query parts cuts n) (batch query parts (cuts n))
unfolding outs
rows_are_batch query parts cuts zero is are =
    let none : batch query parts (cuts 0) ≡ [] = ap (batch query parts) are.starts ∙ nothing_yet query parts in
    subst (IsPermutation []) (sym none) (IsPermutation-refl [])
rows_are_batch query parts cuts (suc n) is are =
    let before = rows_are_batch query parts cuts n is (fewer parts cuts n are) in
    let shows = out_is query is parts cuts n in
    let rows = values_of (fed query parts cuts n) in
    let so_far : IsPermutation (outs query parts cuts n ++ rows) (batch query parts (cuts n) ++ rows) = IsPermutation-append_left rows (outs query parts cuts n) (batch query parts (cuts n)) before in
    let last : IsPermutation (batch query parts (cuts n) ++ rows) (batch query parts (cuts (n + 1))) = grows query n is parts (cuts n) (cuts (n + 1)) (are.follow n (omega arith)) in
    let all : IsPermutation (outs query parts cuts n ++ rows) (batch query parts (cuts (n + 1))) = IsPermutation-trans _ _ _ so_far last in
    let end : IsPermutation (outs query parts cuts n ++ rows) (batch query parts (cuts (suc n))) = subst (λ m. IsPermutation (outs query parts cuts n ++ rows) (batch query parts (cuts m))) (add-one n) all in
    subst (λ l. IsPermutation (outs query parts cuts n ++ l) (batch query parts (cuts (suc n)))) (sym shows) end

-- ---- one part

grows_one : (query : Bound) (epoch : ℕ) (part : Part) → query.shape ≡ Plain → (froms tos : Cut) → AreWithin (part ∷ []) froms tos
    → batch query (part ∷ []) froms ++ values_of (fed_between query epoch (part ∷ []) froms tos) ≡ batch query (part ∷ []) tos
unfolding of_parts
grows_one query epoch part is [] tos within = absurd within
grows_one query epoch part is (from ∷ froms) [] within = absurd within
grows_one query epoch part is (from ∷ a ∷ froms) (to ∷ tos) within = absurd within.1
grows_one query epoch part is (from ∷ []) (to ∷ b ∷ tos) within = absurd within.1
grows_one query epoch part is (from ∷ []) (to ∷ []) within =
    let old = batch_of query part.stream (take from part.lines) in
    let new = values_of (fed_in query epoch part from to) in
    (λ i. append-nil old i ++ (between_values query epoch part [] from to [] [] ∙ append-nil new) i)
    ∙ sym (more_lines query epoch part from to is within.0)
    ∙ sym (append-nil (batch_of query part.stream (take to part.lines)))

pub rows_in_order : (query : Bound) (part : Part) (cuts : Cuts) (n : ℕ) → query.shape ≡ Plain → AreCuts (part ∷ []) cuts n
    → outs query (part ∷ []) cuts n ≡ batch query (part ∷ []) (cuts n)
unfolding outs
rows_in_order query part cuts zero is are = sym (ap (batch query (part ∷ [])) are.starts ∙ nothing_yet query (part ∷ []))
rows_in_order query part cuts (suc n) is are =
    let before = rows_in_order query part cuts n is (fewer (part ∷ []) cuts n are) in
    let shows = out_is query is (part ∷ []) cuts n in
    (λ i. before i ++ shows i)
    ∙ grows_one query n part is (cuts n) (cuts (n + 1)) (are.follow n (omega arith))
    ∙ ap (λ m. batch query (part ∷ []) (cuts m)) (add-one n)
