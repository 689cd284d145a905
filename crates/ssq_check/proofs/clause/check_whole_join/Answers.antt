use Rattle.ssq_check.proofs.Ends.{join_first}
use Rattle.ssq_check.proofs.clause.check_whole_join.Goals as goal

pub returns : goal.returns
returns c =
    join_first c.args.scope.now c.args.from.now c.args.join.now c.is_some.result c.check_joined-stream.result c.check_on.result c.sooner.result
    c.is_some.ensures c.sooner.ensures c.check_joined-stream.ensures c.check_on.ensures
