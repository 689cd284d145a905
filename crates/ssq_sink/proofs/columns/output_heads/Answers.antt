use Rattle.std.proofs.Common.{map, take, ap, sym, ◌∙◌}
use Rattle.ssq_json.specs.RowText.{heads_of}
use Rattle.ssq_json.proofs.Lists.{map-more}
use Rattle.ssq_json.proofs.Writing.{heads_of-none}
use Rattle.ssq_sink.proofs.columns.output_heads.Goals as goal

pub loop-output-init : goal.loop-output-init
loop-output-init c = c.none-heads.ensures ∙ sym heads_of-none

pub loop-output-preserved : goal.loop-output-preserved
loop-output-preserved c =
    c.in_ok-push.ensures.ok (map (λ output. output.name) (take c.loop-output.output-index c.args.outputs.now)) c.loop-output.invariant
    ∙ ap heads_of (sym (map-more (λ output. output.name) c.args.outputs.now c.loop-output.output-index c.output-item.result c.loop-output-test.true c.output-item.is))
