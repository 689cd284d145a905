use Rattle.std.proofs.Common.{◌≡◌, ◌++◌, drop}
use Rattle.std.specs.List.{flat_map}
use Rattle.ssq_check.specs.Names.{keys_of}
use Rattle.ssq_check.proofs.names.keys_in.Given as goal

abbrev pub invariant-loop-item : goal.invariant-loop-item
invariant-loop-item l = l.keys ++ flat_map (keys_of l.scope) (drop l.item-index l.items) ≡ flat_map (keys_of l.scope) l.items
