use Rattle.std.proofs.Common.{arith, subst, take}
use Rattle.std.proofs.lemmas.List.{take_all}
use Rattle.ssq_check.specs.Fault.{FirstOf}
use Rattle.ssq_check.specs.Lists.{Each}
use Rattle.ssq_check.proofs.Lists.{take_one, each_more}
use Rattle.ssq_check.proofs.each.first_in.Goals as goal

pub loop-item-preserved : goal.loop-item-preserved
loop-item-preserved g c =
    each_more (g.T.Checked.faults c.args.names.now) (take c.loop-item.item-index c.args.items.now) _ c.item-item.result c.loop-item.first c.in_ok-own.own _
    (take_one c.args.items.now c.loop-item.item-index c.item-item.result c.loop-item-test.true c.item-item.is) c.sooner-first.ensures c.loop-item.invariant c.in_ok-own.ensures

pub returns : goal.returns
returns g c = subst (λ xs. FirstOf (Each (g.T.Checked.faults c.args.names.now) xs) c.loop-item.first) (take_all c.loop-item.item-index c.args.items.now (omega (arith, c.loop-item-test.false))) c.loop-item.invariant
