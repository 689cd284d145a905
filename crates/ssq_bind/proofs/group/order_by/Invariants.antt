use Rattle.std.proofs.Common.{◌≡◌, map, take}
use Rattle.ssq_bind.specs.Shapes.{sort_key}
use Rattle.ssq_bind.proofs.group.order_by.Given as goal

abbrev pub invariant-loop-by : goal.invariant-loop-by
invariant-loop-by l = l.keys ≡ map (sort_key l.items) (take l.by-index l.order)
