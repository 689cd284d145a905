use Rattle.std.proofs.Common.{◌++◌, ◌∙◌, List, ℕ, Err, ap, take}
use Rattle.ssq_run.proofs.Telling.{wrote_whole, wrote_cut, wrote_starved, wrote_done}
use Rattle.ssq_run.specs.Stopping.{stop_in}
use Rattle.ssq_run.proofs.tell.tell.Goals as goal

pub returns-in-Ok-clause-wrote : goal.returns-in-Ok-clause-wrote
returns-in-Ok-clause-wrote g c = λ tells.
    wrote_whole (stop_in c.args.end) _ _ _ _ _ _ _ c.ended-status.ensures
    (c.in-Ok.ensures.ok tells ∙ ap (λ (t : List ℕ). g.O.Output.content c.args.out.now ++ t) c.as_slice.ensures.value)

pub returns-in-Err-NoMemory-clause-wrote : goal.returns-in-Err-NoMemory-clause-wrote
returns-in-Err-NoMemory-clause-wrote g c = λ tells.
    let line = c.say.ensures.wrote tells in
    wrote_starved (stop_in c.args.end) _ _ _ _ _ _ line.0 (c.put.ensures.no_memory tells (c.in-Err-NoMemory.is ∙ ap Err c.in-Err-NoMemory.field-0-is)) line.1

pub returns-then-status-ne0-clause-wrote : goal.returns-then-status-ne0-clause-wrote
returns-then-status-ne0-clause-wrote g c = λ tells.
    let front = c.in-Err-Fault.ensures.fault tells in
    wrote_cut (stop_in c.args.end) _ _ _ _ _ _ _ front.0 c.ended-status.ensures c.if-status-ne0.true
    (c.put.ensures.cause (c.in-Err-Fault.is ∙ ap Err c.in-Err-Fault.field-0-is))
    (front.1 ∙ ap (λ (t : List ℕ). g.O.Output.content c.args.out.now ++ take front.0 t) c.as_slice.ensures.value)

pub returns-clause-wrote : goal.returns-clause-wrote
returns-clause-wrote g c = λ tells.
    let front = c.in-Err-Fault.ensures.fault tells in
    let line = c.say-in-Err-Fault.ensures.wrote tells in
    wrote_done (stop_in c.args.end) _ _ _ _ _ _ _ _ _ front.0 line.0 c.ended-status.ensures c.if-status-ne0.false
    (c.put.ensures.cause (c.in-Err-Fault.is ∙ ap Err c.in-Err-Fault.field-0-is)) c.say-in-Err-Fault.ensures.counted
    (front.1 ∙ ap (λ (t : List ℕ). g.O.Output.content c.args.out.now ++ take front.0 t) c.as_slice.ensures.value) line.1
