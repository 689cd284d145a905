use Rattle.ssq_check.proofs.Ends.{query_first}
use Rattle.ssq_check.proofs.whole.check_query.Goals as goal

pub returns : goal.returns
returns c =
    query_first c.args.query.now c.as_slice.result.now c.in_ok-streams.streams c.in_ok-select.select c.sooner.result
    c.as_slice.ensures c.sooner.ensures c.in_ok-streams.ensures c.in_ok-select.ensures
