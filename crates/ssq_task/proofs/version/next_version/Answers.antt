use Rattle.std.proofs.Common.{refl}
use Rattle.ssq_meaning.specs.Epochs.{timely}
use Rattle.ssq_task.specs.Lists.{joined_vecs}
use Rattle.ssq_task.proofs.Keeping.{brought_so, step_failed, seal_failed}
use Rattle.ssq_task.proofs.version.next_version.Goals as goal
use Rattle.ssq_task.proofs.version.next_version.Goals.{in-Ok+in-Ok-seal_and_advance, in-Ok+in-Err-seal_and_advance, in-Err}

pub returns-clause-brought : goal.returns-clause-brought
returns-clause-brought g c partition = elim c.match-step_rows.branch [
  | in-Ok+in-Ok-seal_and_advance w ↦ rw (w.outcome-is, w.held-is)
      (brought_so g.S.Stage.tells g.S.Stage.written g.S.Stage.sealed c.args.bound.now c.args.epoch partition c.args.watermark (timely c.args.bound.now c.args.watermark (joined_vecs c.args.parts.items)) c.args.state
      (λ rows at. c.kept_keys_ascend.ensures c.args.bound.now rows at) w.in-Ok.field-0 w.seal_and_advance.new.held w.in-Ok-seal_and_advance.delta
      c.requires.version w.in-Ok-seal_and_advance.ensures.sealed w.in-Ok-seal_and_advance.ensures.state w.in-Ok-seal_and_advance.ensures.index w.in-Ok.ensures.stepped w.in-Ok.ensures.printable w.in-Ok-seal_and_advance.ensures.version)
  | in-Ok+in-Err-seal_and_advance w ↦ rw w.outcome-is tt
  | in-Err w ↦ rw w.outcome-is tt
]

pub returns-clause-failed : goal.returns-clause-failed
returns-clause-failed g c partition = elim c.match-step_rows.branch [
  | in-Ok+in-Ok-seal_and_advance w ↦ rw w.outcome-is tt
  | in-Ok+in-Err-seal_and_advance w ↦ rw (w.outcome-is, w.held-is, w.from.ensures)
      (seal_failed g.S.Stage.faults c.args.bound.now partition c.args.watermark (timely c.args.bound.now c.args.watermark (joined_vecs c.args.parts.items)) c.args.state w.seal_and_advance.new.held
      w.in-Err-seal_and_advance.ensures.same w.in-Err-seal_and_advance.fault w.in-Err-seal_and_advance.stage w.in-Err-seal_and_advance.ensures.aside)
  | in-Err w ↦ rw (w.outcome-is, w.held-is, w.from-in-Err.ensures)
      (step_failed g.S.Stage.faults c.args.bound.now partition c.args.watermark (timely c.args.bound.now c.args.watermark (joined_vecs c.args.parts.items)) c.args.state c.args.state.held (refl, refl) w.in-Err.fault w.in-Err.ensures.cause)
]
