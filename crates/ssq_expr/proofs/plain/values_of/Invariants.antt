use Rattle.std.proofs.Common.{◌≡◌, drop}
use Rattle.ssq_shape.specs.Plain.{projected}
use Rattle.ssq_expr.proofs.Projecting.{behind}
use Rattle.ssq_expr.proofs.plain.values_of.Given as goal

abbrev pub invariant-loop-output : goal.invariant-loop-output
invariant-loop-output l = behind l.values.items (projected (drop l.output-index l.outputs) l.row) ≡ projected l.outputs l.row
