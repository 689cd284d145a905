use Rattle.std.proofs.Common.{length, sym, ap, ◌∙◌, ◌++◌, append-nil}
use Rattle.std.proofs.lemmas.List.{length_push}
use Rattle.std.proofs.lemmas.Slice.Zip.{zip_turn, zip_end}
use Rattle.ssq_json.proofs.Lists.{drop_next}
use Rattle.ssq_sink.proofs.Rereading.{key-more, key-ends}
use Rattle.ssq_sink.proofs.latest.key_of.Goals as goal

pub loop-output-preserved : goal.loop-output-preserved
loop-output-preserved c =
    let turn = zip_turn c.args.outputs.now c.args.row.now c.loop-output.yielded c.into_iter-output-iterator.result c.loop-output.output-iterator c.next.new.self c.next.result (cc) (cc) c.loop-output.yielded_by (c.in-Some.output, c.in-Some.value) c.in-Some.is c.next.ensures.steps in
    let n = length c.loop-output.yielded in
    rw length_push (
    key-more c.args.outputs.now c.args.row.now n c.in-Some.output.now c.in-Some.value.now c.loop-output.cells.items c.put_cell.new.cells.items
    (drop_next c.args.outputs.now n c.in-Some.output.now turn.0 (turn.2 _)) (drop_next c.args.row.now n c.in-Some.value.now turn.1 (turn.3 _)) c.in_ok-put_cell.ensures c.loop-output.invariant
    )

pub returns : goal.returns
returns c =
    let end = zip_end c.args.outputs.now c.args.row.now c.loop-output.yielded c.into_iter-output-iterator.result c.loop-output.output-iterator c.next.new.self c.next.result (cc) (cc) c.loop-output.yielded_by c.in-None.is c.next.ensures.steps in
    c.from_vec.ensures ∙ sym (c.loop-output.invariant ∙ ap (λ l. c.loop-output.cells.items ++ l) (key-ends c.args.outputs.now c.args.row.now (length c.loop-output.yielded) end) ∙ append-nil c.loop-output.cells.items)
