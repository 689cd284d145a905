use Rattle.ssq_meaning.proofs.JoinEpochs.{accepted_joined, fed_joined, on_time_joined, part_joined}
use Rattle.ssq_meaning.proofs.join.rows_are_fed_to_joins.Goals as goal

pub returns-clause-part : goal.returns-clause-part
returns-clause-part c = part_joined

pub returns-clause-fed : goal.returns-clause-fed
returns-clause-fed c = fed_joined

pub returns-clause-on_time : goal.returns-clause-on_time
returns-clause-on_time c = on_time_joined

pub returns-clause-accepted : goal.returns-clause-accepted
returns-clause-accepted c = accepted_joined
