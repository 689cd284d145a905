-- Each row of a join is as wide as its stream, and is of one of the streams.
use Rattle.std.proofs.Common.{◌≡◌, ◌≤◌, ◌<◌, ◌+◌, [], ◌∷◌, ℕ, zero, suc, ℤ, List, Option, Result, Ok, Err, refl, ap, sym, subst, map, length, arith}
use Rattle.std.specs.Prelude.{IfOk, IfSome, not}
use Rattle.std.specs.List.{AllByRecursion}
use Rattle.std.proofs.lemmas.List.Elements.{All-from_recursion}
use Rattle.std.proofs.lemmas.Option.{IfSome_then}
use Rattle.std.proofs.lemmas.Result.{IfOk-weaker}
use Rattle.ssq_value.specs.declared.column.Column.{Column}
use Rattle.ssq_value.specs.Kind.{IsRowOf}
use Rattle.ssq_json.specs.Fits.{FitsSchema}
use Rattle.ssq_json.specs.Line.{row_of}
use Rattle.ssq_shape.specs.declared.bound.Bound.{Bound}
use Rattle.ssq_shape.specs.declared.bound.Joining.{Joining}
use Rattle.ssq_shape.specs.declared.bound.Shape.{Shape}
use Rattle.ssq_shape.specs.declared.bound.Shape.TheVariants.{Join}
use Rattle.ssq_meaning.specs.FedRows.{FedRow}
use Rattle.ssq_meaning.specs.declared.line.LineFault.{LineFault}
use Rattle.ssq_meaning.specs.Cut.{Cut, Cuts, of_parts}
use Rattle.ssq_meaning.specs.Epochs.{accepted, fed, fed_between, on_time, watermark}
use Rattle.ssq_meaning.specs.Feeding.{fed_at, fed_if, fed_in, layout_at, line_handed, offset_lines, placed}
use Rattle.ssq_meaning.specs.Handed.{Handed}
use Rattle.ssq_meaning.specs.Meaning.{Line, Values}
use Rattle.ssq_meaning.specs.Operator.{operator_of}
use Rattle.ssq_meaning.specs.Parts.{Part, parts_from, parts_of}
use Rattle.ssq_meaning.proofs.FitRows.{RowsFit}
use Rattle.ssq_meaning.proofs.Handing.{Gives, IsGiven, all_append, all_flat, line_has, part_all}
use Rattle.ssq_meaning.proofs.Keys.{All-by}
use Rattle.ssq_course.specs.Wide.{IsWide, JoinedRowsAreWide}

-- ---- what holds of the rows of each part holds of all

module _ (query : Bound) (P : FedRow → Type 0) where
  abbrev OfPart : Part → Type 0
  OfPart part = (epoch from to : ℕ) → AllByRecursion P (fed_in query epoch part from to)

  between_of : (epoch : ℕ) (parts : List Part) → AllByRecursion OfPart parts → (froms tos : Cut) → AllByRecursion P (fed_between query epoch parts froms tos)
  unfolding of_parts
  between_of epoch [] each froms tos = tt
  between_of epoch (part ∷ parts) each [] tos = tt
  between_of epoch (part ∷ parts) each (from ∷ froms) [] = tt
  between_of epoch (part ∷ parts) each (from ∷ froms) (to ∷ tos) =
      all_append P (fed_in query epoch part from to) (fed_between query epoch parts froms tos) (each.0 epoch from to) (between_of epoch parts each.1 froms tos)

  module _ (parts : List Part) (each : AllByRecursion OfPart parts) (cuts : Cuts) where
    on_time_of : (e : ℕ) → AllByRecursion P (on_time query parts cuts e)
    on_time_of e = All-by P (λ row. not ((operator_of query).is_late (watermark query parts cuts e) row)) (fed query parts cuts e) (between_of e parts each (cuts e) (cuts (e + 1)))

    accepted_of : (e : ℕ) → AllByRecursion P (accepted query parts cuts e)
    unfolding accepted
    accepted_of zero = tt
    accepted_of (suc e) = all_append P (accepted query parts cuts e) (on_time query parts cuts e) (accepted_of e) (on_time_of e)

each_of : (P : Part → Type 0) → ((part : Part) → P part) → (parts : List Part) → AllByRecursion P parts
each_of P give [] = tt
each_of P give (part ∷ parts) = (give part, each_of P give parts)

-- ---- their width

as_wide : (columns : List Column) (row : Values) → IsRowOf columns row → length row ≡ length columns
as_wide [] [] is = refl
as_wide [] (value ∷ row) is = absurd is
as_wide (column ∷ columns) [] is = absurd is
as_wide (column ∷ columns) (value ∷ row) is = ap suc (as_wide columns row is.1)

module _ (rows_fit : RowsFit) (query : Bound) (joining : Joining) (is : query.shape ≡ Join joining) where
  abbrev HasWidth : (stream : ℕ) → (key : Values) → (time : Option ℤ) → (values : Values) → Type 0
  HasWidth stream key time values = length values ≡ length (layout_at query stream).columns

  abbrev HaveWidth : ℕ → List Handed → Type 0
  HaveWidth stream rows = AllByRecursion (IsGiven query HasWidth stream) rows

  gives_wide : (stream : ℕ) (row : Values) → FitsSchema (layout_at query stream) row → Gives query (HaveWidth stream) stream query.shape row
  gives_wide stream row fits = subst (λ (of : Shape). Gives query (HaveWidth stream) stream of row) (sym is) (as_wide (layout_at query stream).columns row fits.typed, tt)

  line_wide : (stream : ℕ) (line : Line) → IfOk (line_handed query stream line) (HaveWidth stream)
  line_wide stream line =
      line_has query (HaveWidth stream) tt stream line
      (IfOk-weaker (row_of (layout_at query stream) line) (λ row. IfSome row (FitsSchema (layout_at query stream))) (λ row. IfSome row (Gives query (HaveWidth stream) stream query.shape))
      (λ row fits. IfSome_then row fits (gives_wide stream)) (rows_fit (layout_at query stream) line))

  part_wide : (part : Part) → OfPart query (IsWide query) part
  part_wide part epoch from to = part_all query HasWidth line_wide epoch part from to

-- ---- their streams

abbrev IsOfStream : (count : ℕ) → FedRow → Type 0
IsOfStream count row = row.stream < count

placed_below : (count epoch : ℕ) (part : Part) (at : ℕ) → part.stream < count → (rows : List Handed) → AllByRecursion (IsOfStream count) (map (placed epoch part at) rows)
placed_below count epoch part at low [] = tt
placed_below count epoch part at low (row ∷ rows) = (low, placed_below count epoch part at low rows)

line_below : (count epoch : ℕ) (part : Part) (at : ℕ) → part.stream < count → (rows : Result (List Handed) LineFault) → AllByRecursion (IsOfStream count) (fed_if epoch part at rows)
line_below count epoch part at low (Ok rows) = placed_below count epoch part at low rows
line_below count epoch part at low (Err fault) = tt

part_below : (query : Bound) (count : ℕ) (part : Part) → part.stream < count → OfPart query (IsOfStream count) part
part_below query count part low epoch from to =
    all_flat (IsOfStream count) (λ line. fed_at query epoch part line.0 line.1) (λ line. line_below count epoch part line.0 low (line_handed query part.stream line.1)) (offset_lines part from to)

below_from : (query : Bound) (count stream part left : ℕ) (counts : List ℕ) (lines : List (List Line)) → stream + 1 + length counts ≤ count
    → AllByRecursion (OfPart query (IsOfStream count)) (parts_from stream part left counts lines)
unfolding parts_from
below_from query count stream part left counts [] low = tt
below_from query count stream part (suc left) counts (own ∷ lines) low =
    (part_below query count (record { stream = stream; part = part; lines = own }) (omega (arith, low)), below_from query count stream (part + 1) left counts lines low)
below_from query count stream part zero [] (own ∷ lines) low = tt
below_from query count stream part zero (next ∷ counts) (own ∷ lines) low = below_from query count (stream + 1) 0 next counts (own ∷ lines) (omega (arith, low))

parts_below : (query : Bound) (counts : List ℕ) (lines : List (List Line)) → AllByRecursion (OfPart query (IsOfStream (length counts))) (parts_of counts lines)
parts_below query [] lines = tt
parts_below query (count ∷ counts) lines = below_from query (suc (length counts)) 0 0 count counts lines (omega arith)

-- ---- both

module _ (rows_fit : RowsFit) where
  pub accepted_wide : JoinedRowsAreWide (λ query parts cuts e. accepted query parts cuts e)
  accepted_wide query joining is = record {
    wide = λ parts cuts e. All-from_recursion (IsWide query) (accepted query parts cuts e)
        (accepted_of query (IsWide query) parts (each_of (OfPart query (IsWide query)) (part_wide rows_fit query joining is) parts) cuts e);
    stream = λ counts lines cuts e. All-from_recursion (IsOfStream (length counts)) (accepted query (parts_of counts lines) cuts e)
        (accepted_of query (IsOfStream (length counts)) (parts_of counts lines) (parts_below query counts lines) cuts e);
  }

  pub on_time_wide : JoinedRowsAreWide (λ query parts cuts e. on_time query parts cuts e)
  on_time_wide query joining is = record {
    wide = λ parts cuts e. All-from_recursion (IsWide query) (on_time query parts cuts e)
        (on_time_of query (IsWide query) parts (each_of (OfPart query (IsWide query)) (part_wide rows_fit query joining is) parts) cuts e);
    stream = λ counts lines cuts e. All-from_recursion (IsOfStream (length counts)) (on_time query (parts_of counts lines) cuts e)
        (on_time_of query (IsOfStream (length counts)) (parts_of counts lines) (parts_below query counts lines) cuts e);
  }
