use Rattle.std.proofs.Common.{◌∙◌, sym}
use Rattle.ssq_outside.specs.Files.{Files}
use Rattle.ssq_outside.specs.History.{files_now}
use Rattle.ssq_outside.specs.declared.name.Name.TheVariants as name
use Rattle.ssq_plans.specs.Records.{IsPlan, plan_text}
use Rattle.ssq_store.proofs.Making.{if_some as of_some}
use Rattle.ssq_open.specs.Epochs.{is_next}
use Rattle.ssq_open.specs.Spelled.{IsThePlan}
use Rattle.ssq_open.proofs.Finding.{of_none}
use Rattle.ssq_open.proofs.Planning.{fails, plan_damaged}
use Rattle.ssq_open.proofs.plans.next_plan.Goals as goal

pub returns-then-is_next-clause-plan : goal.returns-then-is_next-clause-plan
returns-then-is_next-clause-plan g c = λ tells.
    of_some (IsThePlan (files_now (g.D.Disk.history c.args.disk.now)) c.args.epoch) c.in_ok-plan.field-0 c.in-Some.plan c.in-Some.is (c.in_ok-plan.ensures.found tells)

pub returns-then-is_next-clause-in_range : goal.returns-then-is_next-clause-in_range
returns-then-is_next-clause-in_range g c = of_some IsPlan c.in_ok-plan.field-0 c.in-Some.plan c.in-Some.is c.in_ok-plan.ensures.in_range

pub returns-else-is_next-clause-refused : goal.returns-else-is_next-clause-refused
returns-else-is_next-clause-refused g c = λ tells first planned.
    let files : Files = files_now (g.D.Disk.history c.args.disk.now) in
    let is = of_some (IsThePlan files c.args.epoch) c.in_ok-plan.field-0 c.in-Some.plan c.in-Some.is (c.in_ok-plan.ensures.found tells) in
    plan_damaged files first c.args.before.now c.args.epoch planned (λ plan the. fails IsPlan plan_text (files (name.Plan c.args.epoch)) (is_next c.args.before.now c.args.epoch) c.in-Some.plan plan is the (sym c.is_next.ensures ∙ c.if-is_next.false))

pub returns-in-None-clause-refused : goal.returns-in-None-clause-refused
returns-in-None-clause-refused g c = λ tells first planned.
    plan_damaged (files_now (g.D.Disk.history c.args.disk.now)) first c.args.before.now c.args.epoch planned (λ plan the next. of_none _ c.in_ok-plan.field-0 c.in-None.is (c.in_ok-plan.ensures.none tells) plan the.spells)
