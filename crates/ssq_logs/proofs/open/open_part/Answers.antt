use Rattle.ssq_logs.proofs.Opening.{opened_one}
use Rattle.ssq_logs.proofs.open.open_part.Goals as goal

pub returns-clause-opened : goal.returns-clause-opened
returns-clause-opened g c =
    opened_one g.I.Inputs.tells g.I.Log.Log.lines g.I.Log.Log.available g.I.Log.Log.answers g.I.Log.Log.faults (g.I.Inputs.held c.args.inputs.now) (g.I.Inputs.available c.args.inputs.now) (record { source = c.args.source.now; number = c.args.part }) c.in_ok-log.log c.args.logs.now.items c.push_reserved.new.self.items
    c.push_reserved.ensures.items (record { right = c.in_ok-log.ensures.lines; begins = c.in_ok-log.ensures.begins; unasked = c.in_ok-log.ensures.unasked; fresh = c.in_ok-log.ensures.fresh })
