use Rattle.ssq_bind.proofs.Made.{bound_made}
use Rattle.ssq_bind.proofs.whole.bound_in.Goals as goal

pub returns-in-Ok : goal.returns-in-Ok
returns-in-Ok c =
    bound_made c.args.query.now c.args.context.now c.in_ok-text.text c.in_ok-streams.streams c.in-Ok.kept c.in_ok-filter.filter c.in_ok-order.order c.as_slice.result.now c.as_slice-2.result.now c.with_kept.result
    c.requires.context c.in_ok-text.ensures c.in_ok-streams.ensures c.in-Ok.ensures c.in_ok-filter.ensures
    c.as_slice.ensures c.as_slice-2.ensures c.in_ok-order.ensures c.with_kept.ensures
