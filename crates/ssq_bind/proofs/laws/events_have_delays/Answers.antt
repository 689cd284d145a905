use Rattle.ssq_bind.proofs.TimedLemmas.{events_have_delays}
use Rattle.ssq_bind.proofs.laws.events_have_delays.Goals as goal

pub returns : goal.returns
returns c = events_have_delays
