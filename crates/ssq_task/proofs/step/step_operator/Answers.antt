use Rattle.ssq_task.proofs.Keeping.{groups_step, groups_cause, pairs_step, pairs_cause, repeats_step, repeats_cause}
use Rattle.ssq_task.proofs.step.step_operator.Goals as goal

pub returns-in-Group-clause-stepped : goal.returns-in-Group-clause-stepped
returns-in-Group-clause-stepped c old before can =
    let held = c.args.held.now in
    groups_step c.args.bound.now held.store.state held.closing old c.args.rows.now before c.args.watermark c.step.result can c.in-Group.field-0 c.in-Group.is
    (c.step.ensures.stepped c.in-Group.field-0 old before)

pub returns-in-Group-clause-cause : goal.returns-in-Group-clause-cause
returns-in-Group-clause-cause c old before can =
    let held = c.args.held.now in
    groups_cause c.args.bound.now held.store.state held.closing old c.args.rows.now before c.args.watermark c.step.result can c.in-Group.field-0 c.in-Group.is
    (c.step.ensures.cause c.in-Group.field-0 old before)

pub returns-in-Dedup-clause-stepped : goal.returns-in-Dedup-clause-stepped
returns-in-Dedup-clause-stepped c old before can =
    let held = c.args.held.now in
    repeats_step c.args.bound.now held.store.state held.closing old c.args.rows.now before c.args.watermark c.step-in-Dedup.result can c.in-Dedup.field-0 c.in-Dedup.is
    (c.step-in-Dedup.ensures.stepped c.in-Dedup.field-0 old before)

pub returns-in-Dedup-clause-cause : goal.returns-in-Dedup-clause-cause
returns-in-Dedup-clause-cause c old before can =
    let held = c.args.held.now in
    repeats_cause c.args.bound.now held.store.state held.closing old c.args.rows.now before c.args.watermark c.step-in-Dedup.result can c.step-in-Dedup.ensures.cause

pub returns-in-Join-clause-stepped : goal.returns-in-Join-clause-stepped
returns-in-Join-clause-stepped c old before can =
    let held = c.args.held.now in
    pairs_step c.args.bound.now held.store.state held.closing old c.args.rows.now before c.args.watermark c.step-in-Join.result can c.in-Join.field-0 c.in-Join.is
    (c.step-in-Join.ensures.stepped c.in-Join.field-0 old before)

pub returns-in-Join-clause-cause : goal.returns-in-Join-clause-cause
returns-in-Join-clause-cause c old before can =
    let held = c.args.held.now in
    pairs_cause c.args.bound.now held.store.state held.closing old c.args.rows.now before c.args.watermark c.step-in-Join.result can c.in-Join.field-0 c.in-Join.is
    (c.step-in-Join.ensures.cause c.in-Join.field-0 old before)
