use Rattle.std.proofs.Common.{◌++◌, ◌∷◌, [], sym, subst}
use Rattle.std.proofs.lemmas.Result.{on_ok_weaker}
use Rattle.ssq_shape.specs.Plain.{output_names}
use Rattle.ssq_sink.specs.Latest.{IsLatest}
use Rattle.ssq_sink.specs.Table.{joined, last_of}
use Rattle.ssq_sink.proofs.Passes.{joined_more, last_more, on_ok_both}
use Rattle.ssq_sink.proofs.Rereading.{line_added}
use Rattle.ssq_sink.proofs.kept.Kept.put.Goals as goal

pub returns-in-Each : goal.returns-in-Each
returns-in-Each c =
    let row = c.args.row in
    rw c.in-Each.is (λ epochs rows so. on_ok_both c.put_line.result (λ text utf8. (
      so.0,
      line_added (output_names c.args.bound.now) c.args.columns.now.heads (joined (epochs ++ rows ∷ [])) (joined (epochs ++ (rows ++ row ∷ []) ∷ [])) row c.in-Each.text.items c.put_line.new.text.items c.requires.columns.0 (joined_more epochs rows row) so.1 text,
      utf8 so.2,
    )) c.put_line.ensures.text c.put_line.ensures.utf8)

pub returns-in-Latest : goal.returns-in-Latest
returns-in-Latest c =
    let row = c.args.row in
    let outputs = c.as_slice.ensures in
    rw c.in-Latest.is (λ epochs rows so.
    let before = subst (λ own. IsLatest own (joined (epochs ++ rows ∷ [])) c.in-Latest.latest.rows.entries) (sym outputs) so.1 in
    on_ok_weaker c.put.result (λ latest. (
      so.0,
      subst (λ all. IsLatest c.args.bound.now.outputs all c.put.new.self.rows.entries) (sym (joined_more epochs rows row))
          (subst (λ own. IsLatest own (joined (epochs ++ rows ∷ []) ++ row ∷ []) c.put.new.self.rows.entries) outputs latest),
    )) (c.put.ensures (joined (epochs ++ rows ∷ [])) before))

pub returns-in-Last : goal.returns-in-Last
returns-in-Last c =
    let row = c.args.row in
    rw c.in-Last.is (λ epochs rows so. on_ok_both c.put_line-in-Last.result (λ text utf8. (
      so.0,
      line_added (output_names c.args.bound.now) c.args.columns.now.heads (last_of (epochs ++ rows ∷ [])) (last_of (epochs ++ (rows ++ row ∷ []) ∷ [])) row c.in-Last.text.items c.put_line-in-Last.new.text.items c.requires.columns.0 (last_more epochs rows row) so.1 text,
      utf8 so.2,
    )) c.put_line-in-Last.ensures.text c.put_line-in-Last.ensures.utf8)
