use Rattle.std.proofs.Common.{arith}
use Rattle.ssq_ledger.proofs.Ledgers.{held}
use Rattle.ssq_ledger.proofs.ledger.Ledger.next_task.Goals as goal

pub first_task-requires-clause-maps : goal.first_task-requires-clause-maps
first_task-requires-clause-maps g c =
    let d = held _ _ _ _ _ _ _ _ c.self.invariant.0 in
    let few = c.self.invariant.0.few in
    omega (arith, d.maps)

pub first_task-requires-clause-reduces : goal.first_task-requires-clause-reduces
first_task-requires-clause-reduces g c =
    let d = held _ _ _ _ _ _ _ _ c.self.invariant.0 in
    let few = c.self.invariant.0.few in
    omega (arith, d.reduces)

pub first_task-requires-clause-outs : goal.first_task-requires-clause-outs
first_task-requires-clause-outs g c = (held _ _ _ _ _ _ _ _ c.self.invariant.0).outs
