use Rattle.std.proofs.Common.{◌≡◌, map, take}
use Rattle.ssq_bind.specs.Shapes.{bare_index}
use Rattle.ssq_bind.proofs.group.columns_by.Given as goal

abbrev pub invariant-loop-name : goal.invariant-loop-name
invariant-loop-name l = l.columns ≡ map (bare_index l.scope) (take l.name-index l.names)
