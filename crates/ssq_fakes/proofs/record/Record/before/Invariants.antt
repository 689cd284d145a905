use Rattle.std.proofs.Common.{◌≡◌, drop}
use Rattle.ssq_fakes.specs.Records.{events_of}
use Rattle.ssq_fakes.proofs.record.Record.before.Given as goal

abbrev pub invariant-loop-events : goal.invariant-loop-events
invariant-loop-events l = drop l.fn.events (events_of l.self) ≡ drop l.events (events_of l.at)

abbrev pub decreases-loop-events : goal.decreases-loop-events
decreases-loop-events l = l.events
