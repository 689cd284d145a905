use Rattle.ssq_check.specs.Joined.{conjuncts}
use Rattle.ssq_check.proofs.OnWay.{conjuncts_first}
use Rattle.ssq_check.proofs.joined.check_conjuncts.Goals as goal

pub returns : goal.returns
returns c =
    conjuncts_first c.args.scope.now (conjuncts c.args.on.now.at c.args.on.now.value) c.start.result c.walked-walk.result c.standing.result c.sooner.result
    c.start.ensures c.walked-walk.ensures c.standing.ensures c.sooner.ensures
