use Rattle.ssq_check.proofs.Ends.{shown_first}
use Rattle.ssq_check.proofs.whole.check_shown.Goals as goal

pub returns : goal.returns
returns c =
    shown_first c.args.scope.now c.args.grouped c.args.past c.args.select.now c.is_some-is_group.result c.within-within.result c.as_slice.result.now c.as_slice-2.result.now c.as_slice-3.result.now c.as_slice-4.result.now
    c.in_ok-items.items c.beyond-many.result c.standing-aggregates.result c.check_having-having.result c.in_ok-order.order c.sooner.result c.sooner-2.result c.sooner-3.result c.sooner-4.result
    c.is_some-is_group.ensures c.within-within.ensures c.as_slice.ensures c.as_slice-2.ensures c.as_slice-3.ensures c.as_slice-4.ensures
    c.sooner.ensures c.sooner-2.ensures c.sooner-3.ensures c.sooner-4.ensures
    c.in_ok-items.ensures c.beyond-many.ensures c.standing-aggregates.ensures c.check_having-having.ensures c.in_ok-order.ensures
