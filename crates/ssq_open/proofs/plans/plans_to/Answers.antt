use Rattle.std.proofs.Common.{◌+◌, ◌<◌, ◌≤◌, arith, subst, sym, ◌∙◌}
use Rattle.std.proofs.lemmas.Result.{err_from_is_err_and}
use Rattle.ssq_outside.specs.History.{History, files_now}
use Rattle.ssq_open.specs.Epochs.{ArePlanned}
use Rattle.ssq_open.specs.Refused.{PlansRefuse}
use Rattle.ssq_open.proofs.Planning.{plans_refuse_more}
use Rattle.ssq_open.proofs.plans.plans_to.Goals as goal

pub returns-in_err-advance-clause-refused : goal.returns-in_err-advance-clause-refused
returns-in_err-advance-clause-refused g c = λ tells.
    let p = err_from_is_err_and c.from_residual.result c.from_residual.ensures.1 in
    let less : c.loop-epoch.epoch + 1 ≤ c.args.count = omega arith in
    let M : History → Type 0 = λ h. ArePlanned (files_now h) c.args.first.now c.loop-epoch.plans in
    let R : History → Type 0 = λ h. PlansRefuse (files_now h) c.args.first.now (c.loop-epoch.epoch + 1) c.in_err-advance.field-0.0 in
    let same = c.loop-epoch.invariant.same tells in
    rw (p.1, p.2) (plans_refuse_more _ _ _ _ c.in_err-advance.field-0.0 less (subst R same (c.in_err-advance.ensures.refused tells (subst M (sym same) (c.loop-epoch.invariant.planned tells)))))

pub loop-epoch-preserved : goal.loop-epoch-preserved
loop-epoch-preserved g c = record {
  planned = λ tells.
      let M : History → Type 0 = λ h. ArePlanned (files_now h) c.args.first.now c.loop-epoch.plans in
      let N : History → Type 0 = λ h. ArePlanned (files_now h) c.args.first.now c.advance.new.plans in
      let same = c.loop-epoch.invariant.same tells in
      subst N same (c.in_ok-advance.ensures.planned tells (subst M (sym same) (c.loop-epoch.invariant.planned tells)));
  count = c.in_ok-advance.ensures.count;
  in_order = c.in_ok-advance.ensures.in_order c.loop-epoch.invariant.in_order;
  few = let few : c.loop-epoch.epoch < 4294967295 = c.in_ok-advance.ensures.few in omega (arith, few);
  same = λ tells. c.advance.ensures.same tells ∙ c.loop-epoch.invariant.same tells;
  counted = omega (arith, c.loop-epoch.invariant.counted, c.advance.ensures.counted);
}
