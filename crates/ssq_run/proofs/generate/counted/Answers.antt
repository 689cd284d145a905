use Rattle.std.proofs.Common.{List, ℕ, map, subst, sym}
use Rattle.std.specs.String.{string_bytes}
use Rattle.ssq_outside.specs.History.{files_now}
use Rattle.ssq_fakes.specs.Disks.{disk_history}
use Rattle.ssq_shape.specs.declared.bound.Output.{Output}
use Rattle.ssq_json.specs.Stored.{AreRows}
use Rattle.ssq_gen.specs.Counts.{IsCause}
use Rattle.ssq_gen.specs.declared.fault.CountsFault.{CountsFault}
use Rattle.ssq_run.proofs.TableRows.{rows_of_table, table_told}
use Rattle.ssq_run.proofs.generate.counted.Goals as goal

pub returns-in-Ok-clause-told : goal.returns-in-Ok-clause-told
returns-in-Ok-clause-told c =
    let files = files_now (disk_history c.args.disk) in
    let read = c.in_ok-read.read in
    table_told c.args.bound.now files c.args.lines read.sinks read.table (string_bytes c.in-Ok.line) (c.in_ok-read.ensures.read tt) (c.in_ok-read.ensures.sinks tt)
    (λ rows are.
    let T : List ℕ → Type 0 = λ table. AreRows (map (λ output. output.name) c.args.bound.now.outputs) (map (λ output. output.kind) c.args.bound.now.outputs) table rows in
    let O : List Output → Type 0 = λ outputs. AreRows (map (λ output. output.name) outputs) (map (λ output. output.kind) outputs) c.as_bytes.result.now rows in
    c.in-Ok.ensures.each rows (subst O (sym c.as_slice.ensures) (subst T (sym c.as_bytes.ensures.bytes) are)))

-- the table is rows
pub unreachable-requires : goal.unreachable-requires
unreachable-requires c =
    let files = files_now (disk_history c.args.disk) in
    let C : CountsFault → Type 0 = IsCause (map (λ output. output.name) c.as_slice.result.now) (map (λ output. output.kind) c.as_slice.result.now) c.as_bytes.result.now in
    subst C c.in-Err-NotRows.field-0-is c.in-Err-NotRows.ensures.cause
    (rows_of_table c.args.bound.now files c.as_slice.result.now c.in_ok-read.read.table c.as_bytes.result.now c.as_slice.ensures c.as_bytes.ensures.bytes (c.in_ok-read.ensures.read tt))
