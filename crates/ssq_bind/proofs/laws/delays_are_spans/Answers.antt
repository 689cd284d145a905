use Rattle.ssq_bind.proofs.SpanLemmas.{delays_are_spans}
use Rattle.ssq_bind.proofs.laws.delays_are_spans.Goals as goal

pub returns : goal.returns
returns c = delays_are_spans
