use Rattle.std.proofs.Common.{◌≡◌, drop}
use Rattle.ssq_bind.specs.Shapes.{size_in}
use Rattle.ssq_bind.proofs.group.size_in.Given as goal

abbrev pub invariant-loop-group : goal.invariant-loop-group
invariant-loop-group l = size_in (drop l.group-index l.groups) ≡ size_in l.groups
