-- The parts with their logs so far, and those that are left.
use Rattle.std.specs.Prelude.{vec_capacity}
use Rattle.ssq_desk.proofs.Placing.{IsPlacing}
use Rattle.ssq_desk.proofs.first.with_logs.Given as goal

abbrev pub invariant-loop-log : goal.invariant-loop-log
invariant-loop-log g l =
    (goal.iterator-loop-log g).can_next l.log-iterator ×
    (goal.iterator-loop-log g).is_finite l.log-iterator ×
    IsPlacing l.parts l.ends l.fn.logs.items l.log-iterator.rest.items l.part_logs.items (vec_capacity l.part_logs)
