use Rattle.std.proofs.Common.{◌≡◌, drop}
use Rattle.ssq_check.proofs.Behind.{first_behind}
use Rattle.ssq_bind.specs.Shapes.{is_output}
use Rattle.ssq_bind.proofs.group.output_named.Given as goal

abbrev pub invariant-loop-at : goal.invariant-loop-at
invariant-loop-at l = first_behind (is_output l.name) l.at (drop l.at l.items) ≡ first_behind (is_output l.name) 0 l.items
