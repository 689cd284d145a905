use Rattle.std.proofs.Common.{◌∙◌, ap}
use Rattle.ssq_fakes.specs.Inputs.{holding_text, inputs_held}
use Rattle.ssq_fakes.specs.Logs.{log_lines}
use Rattle.ssq_gen.specs.Made.{query_name}
use Rattle.ssq_gen.proofs.Held.{held_as_made}
use Rattle.ssq_gen.proofs.generated.made.Goals as goal

pub returns-clause-held : goal.returns-clause-held
returns-clause-held c =
    held_as_made c.args.number c.args.lines (log_lines c.in_ok-first.first) (log_lines c.in_ok-second.second) (inputs_held c.new-empty.result) (inputs_held c.in_ok-queried.queried) (inputs_held c.in_ok-half.half)
    (inputs_held c.in_ok-whole.whole) c.new-empty.ensures.held
    (c.in_ok-queried.ensures.held ∙ ap (λ bytes. holding_text query_name bytes (inputs_held c.new-empty.result)) c.as_bytes.ensures.value) c.in_ok-half.ensures.held c.in_ok-whole.ensures.held (c.in_ok-first.ensures.lines ∙ c.in_ok-parts.ensures.0)
    (c.in_ok-second.ensures.lines ∙ c.in_ok-parts.ensures.1)
