use Rattle.ssq_meaning.proofs.Bags.{same_bag}
use Rattle.ssq_meaning.proofs.Keys.{times_passing}
use Rattle.ssq_meaning.proofs.Leasts.{same_least}
use Rattle.ssq_meaning.proofs.groups.groups_come_in_any_order.Goals as goal

pub returns-clause-rows : goal.returns-clause-rows
returns-clause-rows c = same_bag

pub returns-clause-least : goal.returns-clause-least
returns-clause-least c = same_least

pub returns-clause-passing : goal.returns-clause-passing
returns-clause-passing c = times_passing
