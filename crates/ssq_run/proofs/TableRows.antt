-- The table that sink files make, as rows.
use Rattle.std.proofs.Common.{◌≡◌, ◌<◌, ℕ, zero, suc, List, length, Option, None, sym, ap, subst, ◌∙◌, arith, inl, inr}
use Rattle.std.specs.Prelude.{map, IsSome}
use Rattle.std.proofs.lemmas.Bool.{cases_lt}
use Rattle.ssq_outside.specs.Files.{Files}
use Rattle.ssq_shape.specs.declared.bound.Bound.{Bound}
use Rattle.ssq_shape.specs.declared.bound.Output.{Output}
use Rattle.ssq_shape.specs.Plain.{output_names}
use Rattle.ssq_json.specs.Stored.{AreRows}
use Rattle.ssq_meaning.specs.Meaning.{Values}
use Rattle.ssq_sink.specs.Table.{AreCounted, AreSinks, IsTable, output_kinds, reading, table_text}
use Rattle.ssq_tables.specs.Agreeing.{rows_read}
use Rattle.ssq_tables.proofs.Reading.{table_rows}
use Rattle.ssq_gen.specs.Counts.{IsRows, counts_line}
use Rattle.ssq_run.specs.Generated.{AreTold}

-- the text of the table is rows
table_is_rows : (query : Bound) (files : Files) (epochs : List (List Values)) → AreSinks query files epochs → IsRows (output_names query) (output_kinds query) (table_text query epochs)
table_is_rows query files epochs sinks = record { rows = rows_read (reading query) query epochs; are = table_rows query files epochs sinks }

pub some_none : {A : Type 0} (o : Option A) → IsSome o → o ≡ None → ⊥
some_none o some none = cc

-- sink files are counted in one way
not_fewer : (files : Files) (n m : ℕ) → AreCounted files n → AreCounted files m → n < m → ⊥
not_fewer files n zero one other less = absurd (omega (arith, less))
not_fewer files n (suc m) one other less = let past = one.all m (other.last m (omega arith)) in absurd (omega (arith, past, less))

pub one_count : (files : Files) (n m : ℕ) → AreCounted files n → AreCounted files m → n ≡ m
one_count files n m one other = elim (cases_lt n m) [
  | inl less ↦ absurd (not_fewer files n m one other less)
  | inr least ↦ elim (cases_lt m n) [ inl more ↦ absurd (not_fewer files m n other one more) | inr most ↦ omega (arith, least, most) ]
]

-- ---- a table that was read

-- its rows, under the heads of these outputs
pub rows_of_table : (bound : Bound) (files : Files) (outputs : List Output) (text table : List ℕ) → outputs ≡ bound.outputs → table ≡ text → IsTable bound files text → IsRows (map (λ output. output.name) outputs) (map (λ output. output.kind) outputs) table
rows_of_table bound files outputs text table heads bytes so =
    let O : List Output → Type 0 = λ o. IsRows (map (λ output. output.name) o) (map (λ output. output.kind) o) table in
    let T : List ℕ → Type 0 = λ t. IsRows (output_names bound) (output_kinds bound) t in
    subst O (sym heads) (subst T (sym (bytes ∙ so.is)) (table_is_rows bound files so.epochs so.sinks))

-- and it is told
pub table_told : (bound : Bound) (files : Files) (lines count : ℕ) (text line : List ℕ) (so : IsTable bound files text) → AreCounted files count → ((rows : List Values) → AreRows (output_names bound) (output_kinds bound) text rows → line ≡ counts_line lines count rows)
    → (epochs : List (List Values)) × AreSinks bound files epochs × AreTold bound lines epochs line
table_told bound files lines count text line so counted each =
    let own = table_is_rows bound files so.epochs so.sinks in
    let T : List ℕ → Type 0 = λ t. AreRows (output_names bound) (output_kinds bound) t own.rows in (
      so.epochs,
      so.sinks,
      record {
        rows = own.rows;
        are = own.are;
        is = each own.rows (subst T (sym so.is) own.are) ∙ ap (λ (n : ℕ). counts_line lines n own.rows) (one_count files count (length so.epochs) counted so.sinks.counted);
      },
    )
