use Rattle.ssq_meaning.proofs.FedTimes.{part_grouped, fed_grouped, on_time_grouped, accepted_grouped}
use Rattle.ssq_meaning.proofs.groups.groups_are_fed_by_their_keys.Goals as goal

pub returns-clause-part : goal.returns-clause-part
returns-clause-part c = part_grouped

pub returns-clause-fed : goal.returns-clause-fed
returns-clause-fed c = fed_grouped

pub returns-clause-on_time : goal.returns-clause-on_time
returns-clause-on_time c = on_time_grouped

pub returns-clause-accepted : goal.returns-clause-accepted
returns-clause-accepted c = accepted_grouped
