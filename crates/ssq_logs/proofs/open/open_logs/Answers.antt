use Rattle.ssq_logs.proofs.Opening.{lines_opened}
use Rattle.ssq_logs.proofs.open.open_logs.Goals as goal

pub returns-clause-lines : goal.returns-clause-lines
returns-clause-lines g c = λ told. lines_opened g.I.Inputs.tells g.I.Log.Log.lines g.I.Log.Log.available g.I.Log.Log.answers g.I.Log.Log.faults c.put_logs.result (g.I.Inputs.held c.args.inputs.now) (g.I.Inputs.available c.args.inputs.now) c.args.streams.now c.args.counts.now c.args.logs.now.items c.put_logs.new.logs.items
    told (c.requires.counts told) c.put_logs.ensures.opened
