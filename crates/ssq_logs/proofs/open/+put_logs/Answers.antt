use Rattle.std.proofs.Common.{◌-◌}
use Rattle.ssq_logs.specs.Opened.{parts_from, parts_of}
use Rattle.ssq_logs.proofs.Opening.{parts_first, opened_then, upto_later}
use Rattle.ssq_logs.proofs.open.+put_logs.Goals as goal

pub returns-clause-opened : goal.returns-clause-opened
returns-clause-opened g t c =
    opened_then g.I.Inputs.tells g.I.Log.Log.lines g.I.Log.Log.available g.I.Log.Log.answers g.I.Log.Log.faults c.put_logs.result (g.I.Inputs.held c.args.inputs.now) (g.I.Inputs.held c.open_parts.new.inputs) (g.I.Inputs.available c.args.inputs.now) (g.I.Inputs.available c.open_parts.new.inputs) c.open_parts.ensures.inputs.same c.open_parts.ensures.inputs.grown (parts_of c.args.streams.now c.args.counts.now)
    (parts_from c.as_str.result.now 0 (c.in-Some-split_first.count.now - 0)) (parts_of c.in-Some.rest.now c.in-Some-split_first.more.now) c.args.logs.now.items c.open_parts.new.logs.items c.put_logs.new.logs.items
    (parts_first c.args.streams.now c.in-Some.rest.now c.in-Some.stream.now c.as_str.result.now c.args.counts.now c.in-Some-split_first.more.now c.in-Some-split_first.count.now c.in-Some.ensures.cases.0 c.as_str.ensures c.in-Some-split_first.ensures.cases.0) c.in_ok-open_parts.ensures.opened c.put_logs.ensures.opened

pub returns-clause-stopped : goal.returns-clause-stopped
returns-clause-stopped g t c =
    upto_later g.I.Inputs.tells g.I.Log.Log.lines g.I.Log.Log.available g.I.Log.Log.answers g.I.Log.Log.faults c.put_logs.result (g.I.Inputs.held c.args.inputs.now) (g.I.Inputs.held c.open_parts.new.inputs) (g.I.Inputs.available c.args.inputs.now) (g.I.Inputs.available c.open_parts.new.inputs) c.open_parts.ensures.inputs.same c.open_parts.ensures.inputs.grown (parts_of c.args.streams.now c.args.counts.now)
    (parts_from c.as_str.result.now 0 (c.in-Some-split_first.count.now - 0)) (parts_of c.in-Some.rest.now c.in-Some-split_first.more.now) c.args.logs.now.items c.open_parts.new.logs.items c.put_logs.new.logs.items
    (parts_first c.args.streams.now c.in-Some.rest.now c.in-Some.stream.now c.as_str.result.now c.args.counts.now c.in-Some-split_first.more.now c.in-Some-split_first.count.now c.in-Some.ensures.cases.0 c.as_str.ensures c.in-Some-split_first.ensures.cases.0) c.in_ok-open_parts.ensures.opened c.put_logs.ensures.stopped
