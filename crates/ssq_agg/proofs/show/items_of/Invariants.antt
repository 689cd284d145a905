use Rattle.std.proofs.Common.{◌≡◌, ◌++◌, drop, Ok, All}
use Rattle.ssq_time.specs.Time.{IsStampTime}
use Rattle.ssq_value.specs.Kind.{IfTime}
use Rattle.ssq_shape.specs.Evaluation.{and_then}
use Rattle.ssq_meaning.specs.Group.{group_items}
use Rattle.ssq_agg.proofs.show.items_of.Given as goal

abbrev pub invariant-loop-output : goal.invariant-loop-output
invariant-loop-output l =
    (and_then (group_items (drop l.output-index l.outputs) l.key l.aggregates) (λ rest. Ok (l.values.items ++ rest)) ≡ group_items l.outputs l.key l.aggregates)
    × All (IfTime IsStampTime) l.values.items
