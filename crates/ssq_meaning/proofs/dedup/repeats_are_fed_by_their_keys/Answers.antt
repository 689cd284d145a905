use Rattle.ssq_meaning.proofs.Repeats.{part_keyed, fed_keyed, on_time_keyed, accepted_keyed}
use Rattle.ssq_meaning.proofs.dedup.repeats_are_fed_by_their_keys.Goals as goal

pub returns-clause-part : goal.returns-clause-part
returns-clause-part c = part_keyed

pub returns-clause-fed : goal.returns-clause-fed
returns-clause-fed c = fed_keyed

pub returns-clause-on_time : goal.returns-clause-on_time
returns-clause-on_time c = on_time_keyed

pub returns-clause-accepted : goal.returns-clause-accepted
returns-clause-accepted c = accepted_keyed
