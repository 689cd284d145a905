use Rattle.ssq_logs.proofs.Counting.{cause_next, few_known}
use Rattle.ssq_logs.proofs.parts.+put_counts.Goals as goal

pub returns-clause-fault : goal.returns-clause-fault
returns-clause-fault g t c = λ told. cause_next c.put_counts.result c.args.counts.now c.push.new.counts c.in-Some-2.count (g.I.Inputs.held c.args.inputs.now) (g.I.Inputs.held c.few_parts.new.inputs) c.args.streams.now c.in-Some.rest.now c.in-Some.stream.now
    c.in-Some.ensures.cases.0 c.in_ok-push.ensures (c.few_parts.ensures.inputs.same told)
    (few_known c.in_ok-count.field-0 c.in-Some-2.count ((g.I.Inputs.held c.args.inputs.now).parts c.in-Some.stream.now.source) c.in-Some-2.is (c.in_ok-count.ensures.found told) c.in_ok-count.ensures.few) (c.put_counts.ensures.fault told)
