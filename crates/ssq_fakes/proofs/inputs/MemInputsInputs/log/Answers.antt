use Rattle.ssq_fakes.proofs.inputs.MemInputsInputs.log.Goals as goal

pub returns-in-Ok-clause-lines : goal.returns-in-Ok-clause-lines
returns-in-Ok-clause-lines c = rw c.find_part.ensures.found c.in-Ok.ensures.lines

pub returns-in-Ok-clause-plan : goal.returns-in-Ok-clause-plan
returns-in-Ok-clause-plan c = rw c.find_part.ensures.found c.in-Ok.ensures.plan

pub returns-in-Ok-clause-never_log : goal.returns-in-Ok-clause-never_log
returns-in-Ok-clause-never_log c = λ sure. c.in-Ok.ensures.sure (c.find_part.ensures.sure sure.1)
