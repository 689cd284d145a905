use Rattle.std.proofs.Common.{◌∙◌, take, drop, sym}
use Rattle.std.proofs.lemmas.List.{take-append-drop}
use Rattle.ssq_runner.proofs.Cutting.{text_start, text_next}
use Rattle.ssq_runner.proofs.line.push_all.Goals as goal
use Rattle.ssq_drive.proofs.Ending.{on_err}

pub loop-one-init : goal.loop-one-init
loop-one-init c = text_start c.args.text.now.items

pub returns-in_err-push_told-clause-err : goal.returns-in_err-push_told-clause-err
returns-in_err-push_told-clause-err c =
    on_err c.from_residual.result (take c.loop-one.one-index c.args.told.now, drop c.loop-one.one-index c.args.told.now, sym (take-append-drop c.loop-one.one-index c.args.told.now), c.in_err-push_told.ensures.err ∙ c.loop-one.invariant)

pub loop-one-preserved : goal.loop-one-preserved
loop-one-preserved c = c.in_ok-push_told.ensures.ok ∙ text_next c.args.text.now.items c.loop-one.text.items c.args.told.now c.loop-one.one-index _ c.loop-one-test.true c.loop-one.invariant
