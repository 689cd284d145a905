use Rattle.std.proofs.Common.{◌∙◌, sym, inl, le_refl}
use Rattle.ssq_shape.specs.Late.{closes}
use Rattle.ssq_board.specs.Rounds.{left}
use Rattle.ssq_drive.specs.Damaged.{HasDamaged}
use Rattle.ssq_drive.proofs.Going.{undriven}
use Rattle.ssq_drive.proofs.KeepLemmas.{left_kept, plan_between}
use Rattle.ssq_drive.proofs.keep.keep_between.Goals as goal

pub keep_up-requires-clause-between : goal.keep_up-requires-clause-between
keep_up-requires-clause-between g c κs within = inl (sym c.ready.ensures ∙ c.is_plan.ensures c.if-is_plan.true)

pub returns-then-is_plan-clause-driven : goal.returns-then-is_plan-clause-driven
returns-then-is_plan-clause-driven g c = c.keep_up.ensures.kept.driven

pub returns-then-is_plan-clause-left : goal.returns-then-is_plan-clause-left
returns-then-is_plan-clause-left g c = left_kept c.args.desk.now.scope c.args.desk.now.core c.keep_up.new.desk.core (plan_between c.args.desk.now.scope c.args.desk.now.core (sym c.ready.ensures ∙ c.is_plan.ensures c.if-is_plan.true)).running c.keep_up.ensures.kept.same

pub returns-else-is_plan-clause-driven : goal.returns-else-is_plan-clause-driven
returns-else-is_plan-clause-driven g c = undriven g.D.Disk.faults (HasDamaged g.D.Disk.tells g.L.Log.tells g.D.Disk.history g.L.Log.lines) (closes c.args.desk.now.opening.view.bound.now) c.args.desk.now c.requires.rest

pub returns-else-is_plan-clause-good : goal.returns-else-is_plan-clause-good
returns-else-is_plan-clause-good g c = λ t good. good

pub returns-else-is_plan-clause-left : goal.returns-else-is_plan-clause-left
returns-else-is_plan-clause-left g c = le_refl (left c.args.desk.now.scope c.args.desk.now.core)
