use Rattle.ssq_fakes.proofs.disk.MemDiskDisk.stage.Goals as goal

pub returns-in-Ok-clause-plan : goal.returns-in-Ok-clause-plan
returns-in-Ok-clause-plan c = rw (c.deref.ensures.value, c.fails.ensures.plan) at c.in-Ok.ensures.plan

pub returns-in-Ok-clause-never_stage : goal.returns-in-Ok-clause-never_stage
returns-in-Ok-clause-never_stage c = λ sure. rw (c.deref.ensures.value, c.fails.ensures.plan, sure.no_calls) at c.in-Ok.ensures.plan
