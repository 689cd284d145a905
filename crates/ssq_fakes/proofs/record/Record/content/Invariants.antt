use Rattle.std.proofs.Common.{◌≡◌}
use Rattle.ssq_fakes.specs.Records.{events_of, content_in}
use Rattle.ssq_fakes.proofs.record.Record.content.Given as goal

abbrev pub invariant-loop-at : goal.invariant-loop-at
invariant-loop-at l = content_in (events_of l.self) l.name ≡ content_in (events_of l.at) l.name
