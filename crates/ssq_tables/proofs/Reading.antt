-- However sink files are read, they make rows.
use Rattle.std.proofs.Common.{◌≡◌, refl, ◌∷◌, [], ℕ, suc, Bool, true, false, List, Some}
use Rattle.std.specs.Prelude.{All, if◌then◌else◌, slice_get}
use Rattle.std.specs.List.{list_any}
use Rattle.std.proofs.lemmas.List.Elements.{All-append, All-cons, All-head, All-nil, All-tail}
use Rattle.std.proofs.lemmas.List.Sorted.{All-permutation, IsPermutation-sym}
use Rattle.ssq_outside.specs.Files.{Files}
use Rattle.ssq_shape.specs.declared.bound.Bound.{Bound}
use Rattle.ssq_shape.specs.declared.bound.Output.{Output}
use Rattle.ssq_shape.specs.Plain.{output_names}
use Rattle.ssq_json.specs.Stored.{AreRows, AreStoredIn}
use Rattle.ssq_meaning.specs.Meaning.{Values}
use Rattle.ssq_meaning.specs.Table.{is_same_group}
use Rattle.ssq_sink.specs.declared.reading.Reading.{Reading}
use Rattle.ssq_sink.specs.declared.reading.Reading.TheVariants.{Each, Latest, Last}
use Rattle.ssq_sink.specs.Sink.{is_row_below, ordered_text, sink_text}
use Rattle.ssq_sink.specs.Sorted.{sorted}
use Rattle.ssq_sink.specs.Table.{AreSinks, joined, last_of, last_rows, output_kinds, reading, table_text, text_read}
use Rattle.ssq_tables.specs.Agreeing.{rows_read}
use Rattle.ssq_tables.proofs.Replacing.{sorted_permutes}

module _ (P : Values → Type 0) where
  -- each of these lists has rows of this kind alone
  abbrev AreEach : List (List Values) → Type 0
  AreEach epochs = (e : ℕ) (own : List Values) → slice_get epochs e ≡ Some own → All P own

  all_joined : (epochs : List (List Values)) → AreEach epochs → All P (joined epochs)
  all_joined [] each = All-nil P
  all_joined (own ∷ epochs) each = All-append P own (joined epochs) (each 0 own refl) (all_joined epochs (λ e one is. each (suc e) one is))

  all_last : (epochs : List (List Values)) → AreEach epochs → All P (last_of epochs)
  all_last [] each = All-nil P
  all_last (own ∷ []) each = each 0 own refl
  all_last (own ∷ next ∷ epochs) each = all_last (next ∷ epochs) (λ e one is. each (suc e) one is)

  one_of : (own : Bool) (row : Values) (rows : List Values) → P row → All P rows → All P (if own then rows else row ∷ rows)
  one_of true row rows is are = are
  one_of false row rows is are = All-cons P row rows is are

  all_latest : (outputs : List Output) (rows : List Values) → All P rows → All P (last_rows outputs rows)
  all_latest outputs [] are = All-nil P
  all_latest outputs (row ∷ rows) are =
      one_of (list_any (is_same_group outputs row) rows) row (last_rows outputs rows) (All-head P row rows are) (all_latest outputs rows (All-tail P row rows are))

  all_sorted : (below : Values → Values → Bool) (rows : List Values) → All P rows → All P (sorted below rows)
  all_sorted below rows are = All-permutation P rows (sorted below rows) (IsPermutation-sym (sorted below rows) rows (sorted_permutes below rows)) are

read_rows : (own : Reading) (query : Bound) (epochs : List (List Values)) → AreEach (AreStoredIn (output_kinds query)) epochs → AreRows (output_names query) (output_kinds query) (text_read own query epochs) (rows_read own query epochs)
unfolding sink_text ordered_text
read_rows Each query epochs each = record { stored = all_joined (AreStoredIn (output_kinds query)) epochs each; text = refl }
read_rows Latest query epochs each = record {
  stored = all_sorted (AreStoredIn (output_kinds query)) (is_row_below query.order) (last_rows query.outputs (joined epochs))
      (all_latest (AreStoredIn (output_kinds query)) query.outputs (joined epochs) (all_joined (AreStoredIn (output_kinds query)) epochs each));
  text = refl;
}
read_rows Last query epochs each = record { stored = all_last (AreStoredIn (output_kinds query)) epochs each; text = refl }

-- the text of the table is that of these rows
pub table_rows : (query : Bound) (files : Files) (epochs : List (List Values)) → AreSinks query files epochs → AreRows (output_names query) (output_kinds query) (table_text query epochs) (rows_read (reading query) query epochs)
table_rows query files epochs sinks = read_rows (reading query) query epochs (λ e own is. (sinks.each e own is).are.stored)
