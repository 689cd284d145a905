-- The logs so far, and the parts that are left.
use Rattle.std.specs.Prelude.{vec_capacity}
use Rattle.ssq_desk.proofs.Placing.{IsTaking}
use Rattle.ssq_desk.proofs.closed.logs_of.Given as goal

abbrev pub invariant-loop-part_log : goal.invariant-loop-part_log
invariant-loop-part_log g l =
    (goal.iterator-loop-part_log g).can_next l.part_log-iterator ×
    (goal.iterator-loop-part_log g).is_finite l.part_log-iterator ×
    IsTaking l.fn.part_logs.items l.part_log-iterator.rest.items l.logs.items (vec_capacity l.logs)
