-- so far the buffer has grown by the keys of the values in front
use Rattle.std.proofs.Common.{◌≡◌, ◌++◌, take}
use Rattle.ssq_value.specs.Key.{keys_of}
use Rattle.ssq_value.proofs.keys.put_values.Given as goal

abbrev pub invariant-loop-value : goal.invariant-loop-value
invariant-loop-value l = l.out.items ≡ l.fn.out.items ++ keys_of (take l.value-index l.values)
