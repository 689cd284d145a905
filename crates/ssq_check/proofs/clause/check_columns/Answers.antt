use Rattle.ssq_check.proofs.Ends.{columns_first}
use Rattle.ssq_check.proofs.clause.check_columns.Goals as goal

pub returns : goal.returns
returns c =
    columns_first c.args.scope.now c.args.deduplicate.now c.as_slice-columns.result.now c.in_ok-known.known c.in_ok-doubled.doubled c.beyond.result c.sooner.result c.sooner-2.result
    c.as_slice-columns.ensures c.sooner.ensures c.sooner-2.ensures c.in_ok-known.ensures c.in_ok-doubled.ensures c.beyond.ensures
