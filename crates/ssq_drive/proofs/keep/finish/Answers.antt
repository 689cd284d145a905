use Rattle.std.proofs.Common.{◌∙◌, sym, inl, inr}
use Rattle.ssq_drive.specs.Damaged.{HasDamaged}
use Rattle.ssq_shape.specs.Late.{closes}
use Rattle.ssq_drive.proofs.Going.{undriven}
use Rattle.ssq_drive.proofs.Tidying.{ended}
use Rattle.ssq_drive.proofs.keep.finish.Goals as goal

pub keep_up-requires-clause-between : goal.keep_up-requires-clause-between
keep_up-requires-clause-between g c κs within = inr (sym c.ready.ensures ∙ c.is_over.ensures.over c.if-is_over.true)

pub returns-then-is_over-clause-driven : goal.returns-then-is_over-clause-driven
returns-then-is_over-clause-driven g c = c.keep_up.ensures.kept.driven

pub returns-then-is_over-clause-end : goal.returns-then-is_over-clause-end
returns-then-is_over-clause-end g c =
    ended g.L.Log.lines g.D.Disk.faults (HasDamaged g.D.Disk.tells g.L.Log.tells g.D.Disk.history g.L.Log.lines) c.args.desk.now c.keep_up.new.desk c.keep_up.result (sym c.ready.ensures ∙ c.is_over.ensures.over c.if-is_over.true)
    c.keep_up.ensures.kept c.keep_up.ensures.done c.keep_up.ensures.running c.keep_up.ensures.stopped

pub returns-else-is_over-clause-driven : goal.returns-else-is_over-clause-driven
returns-else-is_over-clause-driven g c = undriven g.D.Disk.faults (HasDamaged g.D.Disk.tells g.L.Log.tells g.D.Disk.history g.L.Log.lines) (closes c.args.desk.now.opening.view.bound.now) c.args.desk.now c.requires.rest

pub returns-else-is_over-clause-good : goal.returns-else-is_over-clause-good
returns-else-is_over-clause-good g c = λ t good. good

pub returns-else-is_over-clause-end : goal.returns-else-is_over-clause-end
returns-else-is_over-clause-end g c = elim c.requires.end [
  | inl over ↦ absurd (c.is_over.ensures.other c.if-is_over.false (c.ready.ensures ∙ over))
  | inr stopped ↦ inr stopped
]
