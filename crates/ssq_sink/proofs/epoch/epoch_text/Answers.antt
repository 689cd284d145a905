use Rattle.std.proofs.Common.{map, ap, ◌∙◌}
use Rattle.ssq_json.specs.RowText.{heads_of}
use Rattle.ssq_shape.specs.Plain.{output_names}
use Rattle.ssq_sink.specs.Sink.{sink_text}
use Rattle.ssq_sink.proofs.epoch.epoch_text.Goals as goal

pub returns : goal.returns
unfolding sink_text
returns c =
    rw c.as_slice-2.ensures at (c.rows_text.ensures (output_names c.args.bound.now) (c.in_ok-heads.ensures ∙ ap (λ outputs. heads_of (map (λ output. output.name) outputs)) c.as_slice.ensures))
