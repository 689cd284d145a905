use Rattle.ssq_open.proofs.Planning.{committed_next}
use Rattle.ssq_open.proofs.InOrder.{own_times}
use Rattle.ssq_open.proofs.commits.advance.Goals as goal

pub returns-clause-committed : goal.returns-clause-committed
returns-clause-committed g c = λ tells committed.
    rw (c.in_ok-push.ensures.ok, c.mark_by.ensures, c.as_slice.ensures) (committed_next c.args.streams.now _ c.args.epoch c.args.found.now.marks c.args.found.now.seen c.in_ok-commit.commit committed (c.in_ok-commit.ensures.commit tells) c.in_ok-commit.ensures.own)

pub returns-clause-in_order : goal.returns-clause-in_order
returns-clause-in_order g c = own_times c.args.streams.now c.args.epoch c.in_ok-commit.commit c.in_ok-commit.ensures.own c.in_ok-commit.ensures.in_range
