use Rattle.ssq_value.proofs.Events.{events_within}
use Rattle.ssq_value.proofs.schema.Schema.event.Goals as goal

pub returns-clause-in_range : goal.returns-clause-in_range
returns-clause-in_range c =
    rw (← c.self.view_is) (events_within c.self.inside.columns.items c.self.inside.event c.self.invariant.time)
