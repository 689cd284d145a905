use Rattle.std.proofs.Common.{subst}
use Rattle.ssq_check.specs.Fault.{FirstOf}
use Rattle.ssq_check.specs.Lists.{Standing}
use Rattle.ssq_check.proofs.list.past.Goals as goal

pub returns : goal.returns
returns g c = subst (λ at. FirstOf (Standing c.args.cause at) c.standing.result) c.place_of.ensures c.standing.ensures
