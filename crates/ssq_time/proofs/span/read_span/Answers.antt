use Rattle.std.proofs.Common.{◌≡◌, ◌∙◌, ◌+◌, ◌-◌, length, take, drop}
use Rattle.std.proofs.Math.Seq.{take-length}
use Rattle.std.proofs.lemmas.List.{length-drop}
use Rattle.ssq_time.specs.Time.{span_of}
use Rattle.ssq_time.proofs.Spans.{span_with_longest}
use Rattle.ssq_time.proofs.span.read_span.Goals as goal

pub returns-clause-value : goal.returns-clause-value
unfolding span_of
returns-clause-value c =
    let text = c.args.text.now in
    let at = c.in_ok-space.space + 1 in
    let rest : take (length text - at) (drop at text) ≡ drop at text = rw (← length-drop at text) (take-length (drop at text)) in
    let found = c.in_ok-space.ensures.value in
    rw (← found) (rw rest at (c.span_of_parts.ensures.value ∙ span_with_longest _ _))
