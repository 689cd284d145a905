use Rattle.std.proofs.Common.{◌-◌, ◌+◌, ◌∷◌, []}
use Rattle.ssq_logs.specs.Opened.{parts_from}
use Rattle.ssq_logs.proofs.Opening.{parts_next, opened_then, upto_here, upto_later, on_err}
use Rattle.ssq_logs.proofs.open.+open_parts.Goals as goal

pub returns-in_err-open_part-clause-stopped : goal.returns-in_err-open_part-clause-stopped
returns-in_err-open_part-clause-stopped g t c =
    on_err c.from_residual.result (upto_here g.I.Inputs.tells g.I.Log.Log.lines g.I.Log.Log.available g.I.Log.Log.answers g.I.Log.Log.faults (g.I.Inputs.held c.args.inputs.now) (g.I.Inputs.available c.args.inputs.now) (parts_from c.args.source.now c.args.part (c.args.end - c.args.part)) (parts_from c.args.source.now (c.args.part + 1) (c.args.end - (c.args.part + 1)))
    (record { source = c.args.source.now; number = c.args.part }) c.args.logs.now.items c.open_part.new.logs.items (parts_next c.args.source.now c.args.part c.args.end c.if-part-end.false) c.in_err-open_part.ensures.stopped)

pub returns-clause-opened : goal.returns-clause-opened
returns-clause-opened g t c =
    opened_then g.I.Inputs.tells g.I.Log.Log.lines g.I.Log.Log.available g.I.Log.Log.answers g.I.Log.Log.faults c.open_parts.result (g.I.Inputs.held c.args.inputs.now) (g.I.Inputs.held c.open_part.new.inputs) (g.I.Inputs.available c.args.inputs.now) (g.I.Inputs.available c.open_part.new.inputs) c.open_part.ensures.inputs.same c.open_part.ensures.inputs.grown (parts_from c.args.source.now c.args.part (c.args.end - c.args.part))
    (record { source = c.args.source.now; number = c.args.part } ∷ []) (parts_from c.args.source.now (c.args.part + 1) (c.args.end - (c.args.part + 1))) c.args.logs.now.items c.open_part.new.logs.items c.open_parts.new.logs.items
    (parts_next c.args.source.now c.args.part c.args.end c.if-part-end.false) c.in_ok-open_part.ensures.opened c.open_parts.ensures.opened

pub returns-clause-stopped : goal.returns-clause-stopped
returns-clause-stopped g t c =
    upto_later g.I.Inputs.tells g.I.Log.Log.lines g.I.Log.Log.available g.I.Log.Log.answers g.I.Log.Log.faults c.open_parts.result (g.I.Inputs.held c.args.inputs.now) (g.I.Inputs.held c.open_part.new.inputs) (g.I.Inputs.available c.args.inputs.now) (g.I.Inputs.available c.open_part.new.inputs) c.open_part.ensures.inputs.same c.open_part.ensures.inputs.grown (parts_from c.args.source.now c.args.part (c.args.end - c.args.part))
    (record { source = c.args.source.now; number = c.args.part } ∷ []) (parts_from c.args.source.now (c.args.part + 1) (c.args.end - (c.args.part + 1))) c.args.logs.now.items c.open_part.new.logs.items c.open_parts.new.logs.items
    (parts_next c.args.source.now c.args.part c.args.end c.if-part-end.false) c.in_ok-open_part.ensures.opened c.open_parts.ensures.stopped
