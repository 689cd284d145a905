use Rattle.ssq_check.proofs.Ends.{rows_first}
use Rattle.ssq_check.proofs.whole.check_rows.Goals as goal

pub returns : goal.returns
returns c =
    rows_first c.args.scope.now c.args.select.now c.is_some.result c.as_str.result.now c.unless-from.result c.check_join-join.result c.check_filter-filter.result c.in_ok-deduplicate.deduplicate c.in_ok-group.group c.sooner.result c.sooner-2.result c.sooner-3.result c.sooner-4.result
    c.is_some.ensures c.as_str.ensures c.sooner.ensures c.sooner-2.ensures c.sooner-3.ensures c.sooner-4.ensures
    c.unless-from.ensures c.check_join-join.ensures c.check_filter-filter.ensures c.in_ok-deduplicate.ensures c.in_ok-group.ensures
