use Rattle.std.proofs.Common.{◌≡◌, map, take}
use Rattle.ssq_bind.specs.Shapes.{key_of}
use Rattle.ssq_bind.proofs.group.keys.Given as goal

abbrev pub invariant-loop-group : goal.invariant-loop-group
invariant-loop-group l = l.keys ≡ map (key_of l.scope) (take l.group-index l.groups)
